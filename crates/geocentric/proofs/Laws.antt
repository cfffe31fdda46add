-- What the entry Field needs of the numbers that the step hands on, for every accepted input. Assumes nothing.
use Prim.Native.Nat.{ℕ, ◌*◌, ◌≤◌}
use native.Mathlib.Omega.{arith}
use mathlib.Core.Bool.{false, not}
use lib.IntN.{negsuc}
use lib.Dec.{T}
use lib.Ieee.{Float, fin, binary32, of_bits, mul, le, lt}
use lib.Ieee.Fits.{and_l, and_r, and_i}
use lib.Ieee.Positive.{num, den, positive, cross→le}
use Rattle.exact.specs.Tests.{abs, between, circle}
use Rattle.exact.proofs.Ranks.{Leaf}
use Rattle.exact.proofs.Circle.{circled, circle_leaf}
use Rattle.geocentric.specs.Geo.{length_of, cosine_factor, sine_factor, cylinder, axis, radius_of, cos_of, sin_of, ratio_of, beyond_pole, height_ok, latitude_ok}
use Rattle.geocentric.proofs.Fractions.{Between}
use Rattle.geocentric.proofs.Curve.{cosine_factor_between, sine_factor_between}
use Rattle.geocentric.proofs.Radius.{radius_between, cylinder_finite, pair_circle, ratio_between}
use Rattle.geocentric.proofs.Signs.{sine_above}

-- ---- the lent pair
pub latitude_circle : (s c : Float) → T (latitude_ok s c) → T (circle s c)
latitude_circle s c l = and_l (circle s c) _ l

pub latitude_leaf : (s c : Float) → T (latitude_ok s c) → Leaf 2 s × Leaf 2 c
latitude_leaf s c l = circle_leaf s c (latitude_circle s c l)

latitude_behind : (s c : Float) → T (latitude_ok s c) → T (le beyond_pole c)
latitude_behind s c l = and_r (circle s c) (le beyond_pole c) l

-- ---- 0.875 and 1.015625 as floats: 56 / 64 and 65 / 64
ratio_in : (x : Float) → Between 56 65 64 x → T (between (of_bits binary32 0x3f600000) (of_bits binary32 0x3f820000) x)
unfolding of_bits
ratio_in x w =
    let least = fin false 7 (negsuc 2) in
    let most = fin false 65 (negsuc 5) in
    and_i (le least x) (le x most) (cross→le least x tt w.above (lo (num x) (den x) w.low)) (cross→le x most w.above tt (hi (num x) (den x) w.high))
  where
    lo : (n d : ℕ) → 56 * d ≤ n * 64 → 7 * 1 * d ≤ n * 8
    lo n d h = omega arith

    hi : (n d : ℕ) → n * 64 ≤ 65 * d → n * 64 ≤ 65 * 1 * d
    hi n d h = omega arith

module _ (h s c : Float) (t : T (height_ok h)) (l : T (latitude_ok s c)) where
  o : T (circle s c)
  o = latitude_circle s c l

  -- Field never ends in 9: the computed pair passes the circle test
  pub never_9 : T (circle (sin_of h s c) (cos_of h s c))
  unfolding sin_of cos_of radius_of cylinder axis
  never_9 = pair_circle (cosine_factor h s) (sine_factor h s) s c (cosine_factor_between h s c t o) (sine_factor_between h s c t o) o

  -- nor in 10: the ratio lies between 0.875 and 1.015625
  pub never_10 : T (between (of_bits binary32 0x3f600000) (of_bits binary32 0x3f820000) (ratio_of h s c))
  unfolding ratio_of radius_of cylinder axis
  never_10 = ratio_in (ratio_of h s c) (ratio_between (cosine_factor h s) (sine_factor h s) s c (cosine_factor_between h s c t o) (sine_factor_between h s c t o) o)

  -- where the sine is not below the f32 1e-3 in size, so that the general sum is taken, it is above zero
  pub sine_positive : T (not (lt (abs (sin_of h s c)) (of_bits binary32 0x3a83126f))) → T (positive (sin_of h s c))
  unfolding sin_of radius_of cylinder axis of_bits
  sine_positive g =
      let q = cosine_factor h s in
      let w = sine_factor h s in
      let bq = cosine_factor_between h s c t o in
      let bw = sine_factor_between h s c t o in
      let br = radius_between q w s c bq bw o in
      let r = length_of (mul binary32 q c) (mul binary32 w s) in
      let fs = (circled (sin_of h s c) (cos_of h s c) never_9).finite_s in
      sine_above q c r bq.above bq.high br.above br.low (latitude_behind s c l) (circled s c o).finite_c (cylinder_finite q w s c bq bw o) fs g
