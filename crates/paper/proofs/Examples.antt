-- The worked examples of document 01, P1 to P12: every one says what the documents say. All of it is computed. Assumes nothing.
use Rattle.std.specs.Prelude.{◌≡◌, refl, ◌∷◌, map}
use Rattle.std.proofs.Common.{ap}
use Rattle.std.specs.Float.{binary32}
use Rattle.std.specs.Float.Ieee.{of_bits, to_bits, of_int, round, sum, add, sub, mul, neg, div, lt, le, eq}
use Rattle.exact.specs.Tests.{circle, capped}
use Rattle.roots.specs.Root.{sqrt_of}
use Rattle.refusals.specs.Paper.{answered}
use Rattle.models.specs.Calendar.{leap_year}
use Rattle.models.specs.Epochs.{day_exists, epoch_year_of, known_epoch, offset_of, epoch_says}
use Rattle.models.specs.Records.{figure_ok, figures_ok, figures_says, listed_errors}
use Rattle.models.specs.Errors.{error_says}
use Rattle.tables.specs.Degree.{degree_of}
use Rattle.tables.specs.Tables.{schmidt_at, schmidt_bits}
use Rattle.tables.specs.Rule.{k_of, misses}
use Rattle.sums.specs.Arithmetic.{rounded}
use Rattle.sums.specs.Recurrence.{angle, dpsn, gc_hs, gs_hc, legendre, lit, pole_angle, pole_gc, pole_gs, pole_x, pole_x_row, pole_y, pole_z, pole_z_row, power, psn, quotient, step, total, x_row, x_sum, y_row, y_sum, z_row, z_sum}
use Rattle.lists.specs.Lists.{entries_verdict, lengths_verdict, lists_verdict}
use Rattle.synthesis.specs.Sum.{inputs, lent, numbers_verdict, offset_ok, ratio_ok, sum_says, value_of}
use Rattle.sums.specs.Paths.{placed, small_sine}
use Rattle.strengths.specs.Strengths.{usable, h_of, strength_says, zone_of, zone_says, clamped, uncertainty_with, uncertainty_says}
use Rattle.strengths.specs.Grid.{crate_wrapped, wrapped}
use Rattle.field.specs.Field.{place_verdict, shown_says, dated_says, components_says, field_with, field_says}
use Rattle.paper.specs.Examples.{row, components, nought, one, zeros, dipole, sectoral, Example, first, second, third, others, table, Met}

first_said : sum_says (lent nought one nought one one nought dipole zeros zeros zeros) ≡ answered (record { x = of_bits binary32 0xc6ea6000; y = nought; z = nought })
unfolding value_of sum_says numbers_verdict lengths_verdict lists_verdict degree_of entries_verdict circle ratio_ok offset_ok capped small_sine inputs placed schmidt_at schmidt_bits k_of rounded lit angle pole_angle step legendre total gc_hs gs_hc psn dpsn power x_row y_row z_row x_sum y_sum z_sum quotient pole_gc pole_gs pole_x_row pole_z_row pole_x pole_y pole_z of_bits of_int round sum add sub mul neg div lt le eq
first_said = refl

first_met : Met first
unfolding first of_bits to_bits
first_met = ap (row components) first_said

second_said : sum_says (lent one nought nought one one nought dipole zeros zeros zeros) ≡ answered (record { x = nought; y = nought; z = of_bits binary32 0xc76a6000 })
unfolding value_of sum_says numbers_verdict lengths_verdict lists_verdict degree_of entries_verdict circle ratio_ok offset_ok capped small_sine inputs placed schmidt_at schmidt_bits k_of rounded lit angle pole_angle step legendre total gc_hs gs_hc psn dpsn power x_row y_row z_row x_sum y_sum z_sum quotient pole_gc pole_gs pole_x_row pole_z_row pole_x pole_y pole_z of_bits of_int round sum add sub mul neg div lt le eq
second_said = refl

second_met : Met second
unfolding second of_bits to_bits
second_met = ap (row components) second_said

third_said : sum_says (lent nought one nought one one nought zeros sectoral zeros zeros) ≡ answered (record { x = nought; y = of_bits binary32 0xc58ca000; z = nought })
unfolding value_of sum_says numbers_verdict lengths_verdict lists_verdict degree_of entries_verdict circle ratio_ok offset_ok capped small_sine inputs placed schmidt_at schmidt_bits k_of rounded lit angle pole_angle step legendre total gc_hs gs_hc psn dpsn power x_row y_row z_row x_sum y_sum z_sum quotient pole_gc pole_gs pole_x_row pole_z_row pole_x pole_y pole_z of_bits of_int round sum add sub mul neg div lt le eq
third_said = refl

third_met : Met third
unfolding third of_bits to_bits
third_met = ap (row components) third_said

others_met : map (λ (e : Example). e.said) others ≡ map (λ (e : Example). e.asked_for) others
unfolding others lengths_verdict lists_verdict degree_of entries_verdict circle capped schmidt_bits misses rounded epoch_says day_exists epoch_year_of known_epoch offset_of leap_year error_says listed_errors figures_says figures_ok figure_ok usable h_of strength_says zone_of zone_says clamped uncertainty_says uncertainty_with sqrt_of wrapped crate_wrapped field_says field_with components_says place_verdict dated_says shown_says of_bits of_int round sum add sub mul neg div lt le eq
others_met = refl

-- every example says what the documents say
pub examples : map (λ (e : Example). e.said) table ≡ map (λ (e : Example). e.asked_for) table
unfolding table
examples = λ i. first_met i ∷ second_met i ∷ third_met i ∷ others_met i
