-- The tests of floats: what each way of `is_finite` returns, std's `abs`, and two ways to write a cap. Assumes nothing.
use mathlib.Core.Path.{◌≡◌, refl, sym, subst}
use mathlib.Core.Bool.{Bool, true, false, ◌&&◌, ◌||◌}
use Prim.Native.Nat.{ℕ, ◌*◌}
use borrow.Author.Tests.{eq-eqb}
use lib.Dec.{T, eqb, ltb, eqb→eq}
use lib.IntN.{ℤ}
use lib.Ieee.{Float, nan, inf, fin, binary32, of_bits, lt, le, eq, neg, up, down}
use lib.Ieee.Scale.{finite}
use lib.Ieee.Fits.{and_l, and_r}
use Rattle.std.specs.Float.{float_with_sign}
use Rattle.exact.specs.Tests.{abs, between, capped}

-- ---- finite: strictly between the infinities
pub above_least : (x : Float) → lt (of_bits binary32 0xff800000) x ≡ true → lt x (of_bits binary32 0x7f800000) ≡ finite x
unfolding lt of_bits
above_least nan h = refl
above_least (inf true) h = sym h
above_least (inf false) h = refl
above_least (fin s m e) h = refl

pub not_above : (x : Float) → lt (of_bits binary32 0xff800000) x ≡ false → lt (of_bits binary32 0xff800000) x ≡ finite x
unfolding lt of_bits
not_above nan h = refl
not_above (inf s) h = h
not_above (fin s m e) h = refl

-- ---- the size: std's definition
pub abs_is : (x : Float) → float_with_sign false x ≡ abs x
unfolding float_with_sign
abs_is nan = refl
abs_is (inf s) = refl
abs_is (fin s m e) = refl

-- ---- a cap, as a range: what lies between -cap and cap is of size at most cap
or_swap : (a b : ℕ) → T (ltb b a || (eqb a b && true)) → T (ltb b a || (eqb b a && true))
or_swap a b t = go (ltb b a) (eqb a b) (eqb b a) (λ h. let e : a ≡ b = eqb→eq a b h in subst T (sym (eq-eqb b a (sym e))) tt) t
  where
    go : (x y z : Bool) → (T y → T z) → T (x || (y && true)) → T (x || (z && true))
    go true y z f t = tt
    go false true true f t = tt
    go false true false f t = f tt
    go false false z f t = absurd t

pub within_capped : (n : ℕ) (d : ℤ) (x : Float) → T (between (neg (fin false n d)) (fin false n d) x) → T (capped (fin false n d) x)
unfolding capped le lt eq neg
within_capped n d nan t = t
within_capped n d (inf true) t = t
within_capped n d (inf false) t = t
within_capped n d (fin false k c) t = and_r (le (neg (fin false n d)) (fin false k c)) (le (fin false k c) (fin false n d)) t
within_capped n d (fin true k c) t = or_swap (n * up d * down c) (k * up c * down d) (and_l (le (fin true n d) (fin true k c)) (le (fin true k c) (fin false n d)) t)
