-- What `direction` says is within 2 ^ -15 degree of the exact angle, and which angles are exact. Assumes nothing.
use mathlib.Core.Path.{◌≡◌, refl, sym, ap, ap₂, ◌∙◌, subst}
use Prim.Native.Nat.{ℕ, zero, suc, ◌-◌, ◌*◌, ◌/◌, ◌%◌, ◌^◌, ◌<◌}
use native.Mathlib.Nat.{le_of_eq, lt_of_lt_of_le, mul-pos, zero-mul, zero-lt-suc, div-eq_of_eq-mul_left}
use native.Mathlib.Omega.{arith}
use mathlib.Core.Bool.{Bool, true, false, ◌&&◌, cond, true≢false}
use lib.Dec.{T, lit<}
use lib.Pow.{pow_pos}
use lib.IntN.{ℤ}
use lib.Ieee.{Float, nan, inf, fin, binary32, of_bits, fits, neg, lt, eq, up, down}
use lib.Ieee.Fits.{down_pos, up_pos}
use lib.Ieee.Scale.{finite}
use lib.Ieee.Bits.{is_true}
use Rattle.exact.specs.Exact.{units_of}
use Rattle.exact.proofs.Round.{whole_units}
use Rattle.float32.specs.Bits.{bits_of}
use Rattle.direction.specs.Arc.{coarse, HalfTurn, Pointed, Points}
use Rattle.direction.specs.Direction.{quadrant_of, turn_of, degrees_of, angle_of, direction_of, units_at}
use Rattle.direction.proofs.Quadrants.{turn_most, is_turn}
use Rattle.direction.proofs.Nearby.{near_turn}
use Rattle.direction.proofs.Rounded.{with_degrees}
use Rattle.direction.proofs.Sizes.{bits_finite, units_at_lem}

-- ---- a number that is not zero has a size
zero_is : (s : Bool) (e : ℤ) → eq (fin s 0 e) (of_bits binary32 0) ≡ true
unfolding eq of_bits
zero_is true e = simp zero-mul
zero_is false e = simp zero-mul

pub units_some : (y : Float) → T (fits binary32 y) → T (finite y) → eq y (of_bits binary32 0) ≡ false → 0 < units_of y
units_some nan h f z = absurd f
units_some (inf s) h f z = absurd f
units_some (fin s zero e) h f z = absurd (true≢false (sym (zero_is s e) ∙ z))
units_some (fin s (suc m) e) h f z = go (whole_units s (suc m) e h).0 (whole_units s (suc m) e h).1
  where
    go : (N : ℕ) → suc m * up e * 2 ^ 149 ≡ N * down e → 0 < suc m * up e * 2 ^ 149 / down e
    go zero q = absurd (none (suc m * up e * 2 ^ 149) (mul-pos (mul-pos (zero-lt-suc m) (up_pos e)) (pow_pos 149)) (q ∙ zero-mul (down e)))
      where
        none : (x : ℕ) → 0 < x → x ≡ 0 → ⊥
        none x h e = omega arith
    go (suc N) q = lt_of_lt_of_le (zero-lt-suc N) (le_of_eq (sym (div-eq_of_eq-mul_left (down_pos e) q)))

-- ---- the angle
module _ (x y : Float) (p : 0 < units_of y) where
  abbrev j : ℕ
  j = turn_of (lt x (of_bits binary32 0)) (units_of x) (units_of y)

  signed : (b : Bool) → lt y (of_bits binary32 0) ≡ b → Pointed x y (cond b (neg (degrees_of j)) (degrees_of j))
  unfolding neg
  signed b e = with_degrees j (turn_most (units_of x) (units_of y) p (lt x (of_bits binary32 0))) (λ (d : Float). Pointed x y (cond b (neg d) d)) (λ m k n. go b e m k (near_turn (lt x (of_bits binary32 0)) (units_of x) (units_of y) j 16777216 (m * up k) (down k) (lit< tt) n (is_turn (units_of x) (units_of y) p (lt x (of_bits binary32 0)))))
    where
      go : (b : Bool) → lt y (of_bits binary32 0) ≡ b → (m : ℕ) (k : ℤ) → HalfTurn coarse (lt x (of_bits binary32 0)) (units_of x) (units_of y) (m * up k) (down k) → Pointed x y (cond b (neg (fin false m k)) (fin false m k))
      go true e m k h = (sym e, h)
      go false e m k h = (sym e, h)

pub pointed : (x y : Float) → T (fits binary32 y) → T (finite y) → eq y (of_bits binary32 0) ≡ false → Pointed x y (angle_of x y)
unfolding angle_of
pointed x y h f z = rw z (signed x y (units_some y h f z) (lt y (of_bits binary32 0)) refl)

-- ---- what is said
finite_both : (x y : Float) → T (finite x) → T (finite y) → direction_of x y ≡ angle_of x y
unfolding direction_of
finite_both x y f g = rw (is_true (finite x) f, is_true (finite y) g)

pub angle_said : (x y d : Float) → finite x ≡ true → finite y ≡ true → d ≡ angle_of x y → d ≡ direction_of x y
unfolding direction_of
angle_said x y d f g e = rw (f, g) e

pub said_points : (x y d : Float) → T (fits binary32 y) → d ≡ direction_of x y → Points x y d
said_points x y d h e = λ f g z. subst (λ (w : Float). Pointed x y w) (sym (e ∙ finite_both x y f g)) (pointed x y h g z)

-- ---- the ways of `direction` to no number
pub x_not_finite : (x y : Float) → finite x ≡ false → of_bits binary32 0x7fc00000 ≡ direction_of x y
unfolding direction_of of_bits
x_not_finite x y e = rw e

pub y_not_finite : (x y : Float) → finite y ≡ false → of_bits binary32 0x7fc00000 ≡ direction_of x y
unfolding direction_of of_bits
y_not_finite x y e = go (finite x)
  where
    go : (b : Bool) → nan ≡ cond (b && finite y) (angle_of x y) nan
    go true = rw e
    go false = refl

-- ---- the ways of `angle`: a y of zero, of either sign
pub behind : (x y : Float) → eq y (of_bits binary32 0) ≡ true → lt x (of_bits binary32 0) ≡ true → of_bits binary32 0x43340000 ≡ angle_of x y
unfolding angle_of
behind x y z l = rw (z, l)

pub ahead : (x y : Float) → eq y (of_bits binary32 0) ≡ true → lt x (of_bits binary32 0) ≡ false → of_bits binary32 0 ≡ angle_of x y
unfolding angle_of
ahead x y z l = rw (z, l)

module _ (x y : Float) (ix : finite x ≡ true) (iy : finite y ≡ true) (hx : fits binary32 x ≡ true) (hy : fits binary32 y ≡ true) (z : eq y (of_bits binary32 0) ≡ false) (a b : ℕ) (ea : a ≡ bits_of x) (eb : b ≡ bits_of y) where
  nx : T (finite x)
  nx = subst T (sym ix) tt

  ny : T (finite y)
  ny = subst T (sym iy) tt

  fx : T (fits binary32 x)
  fx = subst T (sym hx) tt

  fy : T (fits binary32 y)
  fy = subst T (sym hy) tt

  pub patterns : (a % 2147483648 < 2139095040) × ((0 < b % 2147483648) × (b % 2147483648 < 2139095040))
  patterns = (subst (λ (c : ℕ). c % 2147483648 < 2139095040) (sym ea) (bits_finite x fx nx), (subst (λ (c : ℕ). 0 < c % 2147483648) (sym eb) (positive (bits_of y % 2147483648) (units_at_lem y fy ny)), subst (λ (c : ℕ). c % 2147483648 < 2139095040) (sym eb) (bits_finite y fy ny)))
    where
      positive : (n : ℕ) → units_of y ≡ units_at n → 0 < n
      positive zero e = absurd (let s = units_some y fy ny z in no (units_of y) s e)
        where
          no : (u : ℕ) → 0 < u → u ≡ 0 → ⊥
          no u h e = omega arith
      positive (suc n) e = zero-lt-suc n

  module _ (g h : ℕ) (d : Float) (eg : g ≡ quadrant_of (units_at (a % 2147483648)) (units_at (b % 2147483648))) (eh : h ≡ cond (lt x (of_bits binary32 0)) (3019898880 - g) g) (ed : d ≡ degrees_of h) where
    size : d ≡ degrees_of (turn_of (lt x (of_bits binary32 0)) (units_of x) (units_of y))
    unfolding turn_of
    size =
        let u : units_at (a % 2147483648) ≡ units_of x = ap (λ (c : ℕ). units_at (c % 2147483648)) ea ∙ sym (units_at_lem x fx nx) in
        let w : units_at (b % 2147483648) ≡ units_of y = ap (λ (c : ℕ). units_at (c % 2147483648)) eb ∙ sym (units_at_lem y fy ny) in
        let q : g ≡ quadrant_of (units_of x) (units_of y) = eg ∙ ap₂ quadrant_of u w in
        ed ∙ ap degrees_of (eh ∙ ap (λ (c : ℕ). cond (lt x (of_bits binary32 0)) (3019898880 - c) c) q)

    pub west : lt y (of_bits binary32 0) ≡ true → neg d ≡ angle_of x y
    unfolding angle_of
    west l = rw (z, l) (ap neg size)

    pub east : lt y (of_bits binary32 0) ≡ false → d ≡ angle_of x y
    unfolding angle_of
    east l = rw (z, l) size
