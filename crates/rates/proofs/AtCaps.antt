-- How large the rates of X, Y and Z that Field answers with can be: the laws of field/proofs/Reach.antt, read with every rate at its cap and no time passed. Assumes nothing.
use Rattle.std.proofs.Common.{◌≡◌, refl, ℕ, ◌-◌, ◌*◌, ◌^◌, ◌≤◌, ℤ}
use lib.Dec.{lit≤}
use lib.Ieee.{of_bits, of_int, binary32, round}
use Rattle.exact.specs.Exact.{inv_e, own}
use Rattle.exact.proofs.Units.{In, ONE}
use Rattle.refusals.specs.Paper.{answered}
use Rattle.tables.specs.Tables.{schmidt_at, schmidt_bits}
use Rattle.tables.specs.Rule.{k_of}
use Rattle.lists.specs.Lists.{rate_cap}
use Rattle.lists.proofs.Checked.{Listed}
use Rattle.models.specs.declared.epochs.EpochOffset.{EpochOffset}
use Rattle.sums.specs.Arithmetic.{rounded, sizes}
use Rattle.sums.specs.Paths.{placed}
use Rattle.sums.specs.Recurrence.{angle, coefficient, dpsn, gc_hs, gs_hc, legendre, lit, pole_angle, pole_gc, pole_gs, pole_x, pole_x_row, pole_y, pole_z, pole_z_row, power, psn, quotient, step, total, x_row, x_sum, y_row, y_sum, z_row, z_sum}
use Rattle.sums.proofs.Images.{size_hom}
use Rattle.synthesis.specs.Sum.{inputs}
use Rattle.synthesis.proofs.Demand as sum_demand
use Rattle.strengths.specs.declared.GeomagneticField.{GeomagneticField}
use Rattle.field.specs.Field.{Asked, FieldAccepted, field_x, field_y, field_z, field_says, handed}
use Rattle.field.specs.Rated.{no_time, rated}
use Rattle.field.proofs.Reach.{Reach, Under, ceilings, rate_under, top, under_related, upward}
use Rattle.field.proofs.Ceiling.{field_x_under, field_y_under, field_z_under}
use Rattle.field.proofs.Laws.{close_x, close_y, close_z, field_x_image, field_y_image, field_z_image, sum_accepted}
use Rattle.rates.proofs.Rated.{rated_accepted, rated_listed}
use Rattle.rates.proofs.Ceiling.{most}

-- every rate at its cap, and no time passed
full : ℕ
full = coefficient ceilings (ceilings.num rate_cap) (ceilings.num rate_cap) (ceilings.num (of_bits binary32 0))

-- 15·2 ^ 34 nT a year in X and Z, 23·2 ^ 40 in Y, in units of 2 ^ -20
full_reach : Reach full (15 * 2 ^ 54) (23 * 2 ^ 60)
unfolding ceilings upward inv_e own of_bits of_int round lit schmidt_at schmidt_bits k_of angle pole_angle step legendre total gc_hs gs_hc psn dpsn power x_row y_row z_row x_sum y_sum z_sum quotient pole_gc pole_gs pole_x_row pole_z_row pole_x pole_y pole_z top full
full_reach = record { X = 7 * 2 ^ 53; Y = 23 * 2 ^ 50 - 1; S = 23 * 2 ^ 50 - 1; sums = (refl, refl, refl, refl, refl, refl, refl); turned = lit≤ tt; by_eight = lit≤ tt; by_most = lit≤ tt; pole = lit≤ tt }

module _ (a : Asked) (year day : ℤ) (v : GeomagneticField) (h : field_says a year day ≡ answered v) where
  abbrev of_rates : Asked
  of_rates = rated a

  abbrev at : EpochOffset
  at = no_time a

  accepted : FieldAccepted of_rates at
  accepted = rated_accepted a year day v h

  listed : Listed of_rates.g of_rates.h of_rates.g_dot of_rates.h_dot
  unfolding rated
  listed = rated_listed a year day v h

  abbrev leaves : sum_demand.Leaves (handed of_rates at)
  leaves = sum_demand.leaves (handed of_rates at) (sum_accepted of_rates at accepted listed)

  g_full : (n m : ℕ) → Under ((inputs sizes (handed of_rates at)).g n m) full
  unfolding inputs placed full rated no_time handed
  g_full n m = let k = under_related in k.plus (rate_under _ (leaves.g_dot n m)) (k.times (k.num (of_bits binary32 0)) (rate_under _ (leaves.g_dot n m)))

  h_full : (n m : ℕ) → Under ((inputs sizes (handed of_rates at)).h n m) full
  unfolding inputs placed full rated no_time handed
  h_full n m = let k = under_related in k.plus (rate_under _ (leaves.h_dot n m)) (k.times (k.num (of_bits binary32 0)) (rate_under _ (leaves.h_dot n m)))

  pub x_rate_most : (n : ℕ) → In n (field_x rounded of_rates at) → n ≤ 2 ^ 38 * ONE
  x_rate_most = most (15 * 2 ^ 54) (2 ^ 38) (lit≤ tt) _ _ _ (field_x_image size_hom of_rates at) (close_x of_rates at accepted listed) (field_x_under of_rates at accepted full_reach g_full h_full)

  pub y_rate_most : (n : ℕ) → In n (field_y rounded of_rates at) → n ≤ 24 * 2 ^ 40 * ONE
  y_rate_most = most (23 * 2 ^ 60) (24 * 2 ^ 40) (lit≤ tt) _ _ _ (field_y_image size_hom of_rates at) (close_y of_rates at accepted listed) (field_y_under of_rates at accepted full_reach g_full h_full)

  pub z_rate_most : (n : ℕ) → In n (field_z rounded of_rates at) → n ≤ 2 ^ 38 * ONE
  z_rate_most = most (15 * 2 ^ 54) (2 ^ 38) (lit≤ tt) _ _ _ (field_z_image size_hom of_rates at) (close_z of_rates at accepted listed) (field_z_under of_rates at accepted full_reach g_full h_full)
