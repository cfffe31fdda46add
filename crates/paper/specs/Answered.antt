-- Field answers, and not always the same: at two places, with an axial dipole as the set. So no program that refuses everything, and none that
-- always shows the same strengths, meets Field's contract.
use Rattle.std.specs.Prelude.{◌≡◌, refl, ℕ, pos, Float}
use Rattle.std.specs.Float.{binary32}
use Rattle.std.specs.Float.Ieee.{of_bits, of_int, round, sum, add, sub, mul, neg, div, lt, le, eq}
use Rattle.exact.specs.Tests.{circle, capped}
use Rattle.roots.specs.Root.{sqrt_of}
use Rattle.refusals.specs.Paper.{Paper, answered}
use Rattle.models.specs.Calendar.{leap_year}
use Rattle.models.specs.Epochs.{day_exists, epoch_year_of, known_epoch, offset_of, epoch_says}
use Rattle.models.specs.Records.{figure_ok, figures_ok, figures_says, listed_errors}
use Rattle.models.specs.Errors.{errors2025, error_says}
use Rattle.tables.specs.Tables.{schmidt_at, schmidt_bits}
use Rattle.tables.specs.Rule.{k_of}
use Rattle.sums.specs.Arithmetic.{rounded}
use Rattle.sums.specs.Recurrence.{angle, dpsn, gc_hs, gs_hc, legendre, lit, pole_angle, pole_gc, pole_gs, pole_x, pole_x_row, pole_y, pole_z, pole_z_row, power, psn, quotient, step, total, x_row, x_sum, y_row, y_sum, z_row, z_sum}
use Rattle.tables.specs.Degree.{degree_of}
use Rattle.lists.specs.Lists.{entries_verdict, lengths_verdict, lists_verdict}
use Rattle.synthesis.specs.Sum.{inputs}
use Rattle.sums.specs.Paths.{placed, small_sine}
use Rattle.geocentric.specs.Geo.{flatness, curve, cosine_factor, sine_factor, cylinder, axis, radius_of, cos_of, sin_of, ratio_of}
use Rattle.strengths.specs.declared.GeomagneticField.{GeomagneticField}
use Rattle.field.specs.Turn.{turn_x, turn_z, sin_turn, cos_turn}
use Rattle.field.specs.Field.{Asked, asked, record_of, handed, field_x, field_y, field_z, place_verdict, shown_says, dated_says, components_says, field_with, field_says}
use Rattle.paper.specs.Examples.{nought, one, zeros, dipole}

-- the place with this latitude's pair, at sea level, on longitude 0; the set is of 2025
abbrev at : (sin_phi cos_phi : Float) → Asked
at sin_phi cos_phi = asked nought sin_phi cos_phi nought one (pos 2025) dipole zeros zeros zeros

-- the record with these bits as X and Z, and Y 0
abbrev shown : (x z : ℕ) → Paper GeomagneticField
shown x z = answered (record_of (record { x = of_bits binary32 x; y = nought; z = of_bits binary32 z }) errors2025)

-- on the equator the field points north, by 29,902.2 nT; at the pole it points down, by 60,410.0 nT (X is -0)
pub field_answers : (field_says (at nought one) (pos 2025) (pos 1) ≡ shown 0x46e99c72 0) × (field_says (at one nought) (pos 2025) (pos 1) ≡ shown 0x80000000 0x476bfa0b)
unfolding field_says field_with components_says place_verdict dated_says shown_says handed field_x field_y field_z turn_x turn_z sin_turn cos_turn flatness curve cosine_factor sine_factor cylinder axis radius_of cos_of sin_of ratio_of sqrt_of epoch_says day_exists epoch_year_of known_epoch offset_of leap_year error_says listed_errors figures_says figures_ok figure_ok lengths_verdict lists_verdict degree_of entries_verdict circle capped small_sine inputs placed schmidt_at schmidt_bits k_of rounded lit angle pole_angle step legendre total gc_hs gs_hc psn dpsn power x_row y_row z_row x_sum y_sum z_sum quotient pole_gc pole_gs pole_x_row pole_z_row pole_x pole_y pole_z of_bits of_int round sum add sub mul neg div lt le eq
field_answers = (refl, refl)
