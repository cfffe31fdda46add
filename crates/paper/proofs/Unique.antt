-- Every public contract leaves one result: the law of each public function and of each entry for C, named after it. A law is over the contract that
-- the kit makes of the function's own `ensures` (`OneResult`, and `OneAnswer` of those that are lent a list of error records: refusals/specs/OneResult.antt). It stands in the function's crate, in proofs/Unique.antt, so
-- that a weaker contract is refused there; here all are listed.
pub use Rattle.refusals.proofs.Unique.{number, list_name_number}
pub use Rattle.float32.proofs.Unique.{is_finite, abs, over_cap, outside, off_circle, to_bits, from_bits}
pub use Rattle.trig.proofs.Unique.{sine_and_cosine}
pub use Rattle.direction.proofs.Unique.{direction}
pub use Rattle.roots.proofs.Unique.{sqrt, sqrt_by_guess, square_root}
pub use Rattle.tables.proofs.Unique.{degree_of_lem, schmidt_table_lem, legendre_k, legendre_k_over}
pub use Rattle.models.proofs.Unique.{known_epoch_lem, epoch, igrf_epoch, error_model_by_epoch_year, error_model_listed}
pub use Rattle.geocentric.proofs.Unique.{geodetic_to_geocentric, radius_ratio}
pub use Rattle.synthesis.proofs.Unique.{sum, sum_uncapped, plus}
pub use Rattle.lists.proofs.Unique.{check, check_caps, check_lengths, check_pair, check_forecast, are_long, rated}
pub use Rattle.text.proofs.Unique.{is_blank, first_line_lem, first_word, read_decimal, read_number, read_whole}
pub use Rattle.agency.proofs.Unique.{read}
pub use Rattle.stored.proofs.Unique.{stored_read, stored_write, read_either, write_either}
pub use Rattle.strengths.proofs.Unique.{bare_record, h, f, declination, field_declination, inclination}
pub use Rattle.strengths.proofs.Unique.{declination_warning, declination_uncertainty, uncertainty_with_lem, declination_uncertainty_listed, grid_variation}
pub use Rattle.field.proofs.Unique.{field, field_with_lem, field_listed, turn, check_place, check_epoch, xyz_uncapped}
pub use Rattle.degrees.proofs.Unique.{field_in_degrees}
pub use Rattle.igrf.proofs.Unique.{early, igrf, igrf_component_rates, between}
pub use Rattle.rates.proofs.Unique.{rates, igrf_rates}
pub use Rattle.allowance.proofs.Unique.{allowance, igrf_allowance}
pub use Rattle.ffi.proofs.Unique.{njerumoy_field, njerumoy_allowance, njerumoy_sum, njerumoy_epoch, njerumoy_horizontal, njerumoy_total}
pub use Rattle.ffi.proofs.Unique.{njerumoy_zone, njerumoy_declination_uncertainty, njerumoy_grid_variation, njerumoy_square_root, njerumoy_read_cof}
pub use Rattle.ffi.proofs.Unique.{njerumoy_field_listed, njerumoy_declination_uncertainty_listed}
pub use Rattle.ffi.proofs.Unique.{njerumoy_sine_and_cosine, njerumoy_declination, njerumoy_field_declination, njerumoy_inclination, njerumoy_field_in_degrees}
pub use Rattle.ffi.proofs.Unique.{njerumoy_read_stored, njerumoy_write_stored, njerumoy_field_stored, njerumoy_rates, njerumoy_igrf, njerumoy_igrf_rates, njerumoy_igrf_allowance}
pub use Rattle.ffi.proofs.Unique.{njerumoy_read_stored_either, njerumoy_write_stored_either, njerumoy_field_stored_either}
