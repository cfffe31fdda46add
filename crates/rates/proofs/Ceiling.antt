-- How large the rates of X, Y and Z can be: the laws of field/proofs/Reach.antt, read with the largest rate, which is one between two sets. Assumes nothing.
use mathlib.Core.Path.{◌≡◌, refl, subst, sym}
use Prim.Native.Nat.{◌*◌, ◌+◌, ◌^◌, ◌≤◌, suc, zero, ℕ}
use native.Mathlib.Nat.{le_of_eq, le_of_mul-le-mul_right, le_trans, mul-le-mul_right, mul_right_comm}
use lib.Dec.{T, lit<, lit≤}
use lib.Ieee.{Float, binary32, fits, of_bits, of_int, round}
use Rattle.exact.specs.Exact.{Exact, Size, inv_e, own, size}
use Rattle.exact.specs.Within.{FINE, Within}
use Rattle.exact.proofs.Reach.{within_size}
use Rattle.exact.proofs.Units.{In, ONE, in_most}
use Rattle.tables.specs.Tables.{schmidt_at, schmidt_bits}
use Rattle.tables.specs.Rule.{k_of}
use Rattle.lists.specs.Lists.{rate_cap}
use Rattle.sums.specs.Arithmetic.{rounded, sizes}
use Rattle.sums.specs.Paths.{placed, small_sine}
use Rattle.sums.specs.Recurrence.{Input, angle, coefficient, dpsn, gc_hs, gs_hc, legendre, lit, pole_angle, pole_gc, pole_gs, pole_x, pole_x_row, pole_y, pole_z, pole_z_row, power, psn, quotient, step, total, x_row, x_sum, y_row, y_sum, z_row, z_sum}
use Rattle.synthesis.specs.Sum.{inputs}
use Rattle.lists.proofs.Checked.{Listed}
use Rattle.models.specs.declared.epochs.EpochOffset.{EpochOffset}
use Rattle.field.specs.Field.{Asked, FieldAccepted, field_x, field_y, field_z, handed}
use Rattle.field.proofs.Reach.{Reach, Under, ceilings, rate_under, top, under_more, under_related, upward}
use Rattle.field.proofs.Ceiling.{field_x_under, field_y_under, field_z_under, passed}
use Rattle.field.proofs.Laws.{close_x, close_y, close_z, field_x_image, field_y_image, field_z_image, sum_accepted}
use Rattle.sums.proofs.Images.{size_hom}
use Rattle.field.specs.Rated.{component_rates, no_time, rated}
use lib.Ieee.Fits.{add-fits, cond-fits, div-fits, sub-fits}
use lib.Ieee.Scale.{finite}
use Rattle.synthesis.specs.declared.Xyz.{Xyz}
use Rattle.field.specs.Turn.{turn_x, turn_z}
use Rattle.synthesis.proofs.Demand as Sum

-- 3·2 ^ 39 nT a year in X and Z, 20·2 ^ 40 in Y, in units of 2 ^ -20
pub passed_reach : Reach passed (3 * 2 ^ 59) (20 * 2 ^ 60)
unfolding ceilings upward inv_e own of_bits of_int round lit schmidt_at schmidt_bits k_of angle pole_angle step legendre total gc_hs gs_hc psn dpsn power x_row y_row z_row x_sum y_sum z_sum quotient pole_gc pole_gs pole_x_row pole_z_row pole_x pole_y pole_z top passed
passed_reach = record { X = 45 * 2 ^ 53; Y = 148 * 2 ^ 50; S = 19 * 2 ^ 50; sums = (refl, refl, refl, refl, refl, refl, refl); turned = lit≤ tt; by_eight = lit≤ tt; by_most = lit≤ tt; pole = lit≤ tt }

-- a rate at its cap is less, with no time passed
cap_less : coefficient ceilings (ceilings.num rate_cap) (ceilings.num rate_cap) (ceilings.num (of_bits binary32 0)) ≤ passed
unfolding ceilings upward inv_e own of_bits passed
cap_less = lit≤ tt

-- a float near a number whose majorant is at most T units of 2 ^ -20 is itself at most k
pub most : (T k : ℕ) → T * (FINE + 8) + FINE ≤ k * (FINE * FINE) → (f : Float) (x : Exact) (M : Size) → size x ≡ M → Within f x M → Under M T → (n : ℕ) → In n f → n ≤ k * ONE
most T k h f x M e w u n i =
    let v = subst (λ (z : Size). Within f x z) (sym e) w in
    let b = within_size f x T v ((subst (λ (z : Size). Under z T) (sym e) u).units v.some_over) in
    le_of_mul-le-mul_right (le_trans (in_most (T * (FINE + 8) + FINE) (FINE * FINE) f i b) (le_trans (mul-le-mul_right ONE h) (le_of_eq (mul_right_comm k (FINE * FINE) ONE)))) (lit< tt)

-- so far X and Z, and so far Y
module _ {f : Float} {x : Exact} {M : Size} (e : size x ≡ M) (w : Within f x M) where
  pub turned_most : Under M (3 * 2 ^ 59) → (n : ℕ) → In n f → n ≤ 2 ^ 41 * ONE
  turned_most = most (3 * 2 ^ 59) (2 ^ 41) (lit≤ tt) f x M e w

  pub east_most : Under M (20 * 2 ^ 60) → (n : ℕ) → In n f → n ≤ 24 * 2 ^ 40 * ONE
  east_most = most (20 * 2 ^ 60) (24 * 2 ^ 40) (lit≤ tt) f x M e w

-- ---- X, Y and Z of Field are f32
total_fits : (i : Input Float) (f : ℕ → Float) (k : ℕ) → T (fits binary32 (total rounded i f k))
unfolding total rounded lit of_int round fits
total_fits i f zero = tt
total_fits i f (suc k) = add-fits binary32 _ _

module _ (a : Asked) (e : EpochOffset) where
  pub x_fits : T (fits binary32 (field_x rounded a e))
  unfolding field_x turn_x rounded
  x_fits = add-fits binary32 _ _

  pub z_fits : T (fits binary32 (field_z rounded a e))
  unfolding field_z turn_z rounded
  z_fits = sub-fits binary32 _ _

  pub y_fits : T (fits binary32 (field_y rounded a e))
  unfolding field_y pole_y rounded
  y_fits = cond-fits binary32 (small_sine (inputs rounded (handed a e)).sin_theta) _ _ (total_fits _ _ _) (div-fits binary32 _ _)

-- rates that are finite f32, and as small as that
pub record Slow (r : Xyz) : Type 0 where
  pub x_finite : T (finite r.x)
  pub y_finite : T (finite r.y)
  pub z_finite : T (finite r.z)
  pub x_held : T (fits binary32 r.x)
  pub y_held : T (fits binary32 r.y)
  pub z_held : T (fits binary32 r.z)
  pub x_most : (n : ℕ) → In n r.x → n ≤ 2 ^ 41 * ONE
  pub y_most : (n : ℕ) → In n r.y → n ≤ 24 * 2 ^ 40 * ONE
  pub z_most : (n : ℕ) → In n r.z → n ≤ 2 ^ 41 * ONE

-- ---- those of lists that pass, at an accepted place
module _ (a : Asked) (w : FieldAccepted (rated a) (no_time a)) (l : Listed a.g_dot a.h_dot a.g_dot a.h_dot) where
  abbrev q : Asked
  q = rated a

  abbrev o : EpochOffset
  o = no_time a

  listed : Listed q.g q.h q.g_dot q.h_dot
  unfolding rated
  listed = l

  abbrev leaves : Sum.Leaves (handed q o)
  leaves = Sum.leaves (handed q o) (sum_accepted q o w listed)

  g_full : (n m : ℕ) → Under ((inputs sizes (handed q o)).g n m) passed
  unfolding inputs placed rated no_time handed
  g_full n m = let k = under_related in under_more cap_less (k.plus (rate_under _ (leaves.g_dot n m)) (k.times (k.num (of_bits binary32 0)) (rate_under _ (leaves.g_dot n m))))

  h_full : (n m : ℕ) → Under ((inputs sizes (handed q o)).h n m) passed
  unfolding inputs placed rated no_time handed
  h_full n m = let k = under_related in under_more cap_less (k.plus (rate_under _ (leaves.h_dot n m)) (k.times (k.num (of_bits binary32 0)) (rate_under _ (leaves.h_dot n m))))

  pub rates_slow : Slow (component_rates a)
  rates_slow =
      let x = close_x q o w listed in
      let y = close_y q o w listed in
      let z = close_z q o w listed in
      record {
        x_finite = x.is_finite;
        y_finite = y.is_finite;
        z_finite = z.is_finite;
        x_held = x_fits q o;
        y_held = y_fits q o;
        z_held = z_fits q o;
        x_most = turned_most (field_x_image size_hom q o) x (field_x_under q o w passed_reach g_full h_full);
        y_most = east_most (field_y_image size_hom q o) y (field_y_under q o w passed_reach g_full h_full);
        z_most = turned_most (field_z_image size_hom q o) z (field_z_under q o w passed_reach g_full h_full);
      }
