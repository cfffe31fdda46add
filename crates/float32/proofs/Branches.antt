-- What a branch on a NaN, or on zero, may return. The code has no such branch; the wrong versions `nan_pattern`, `infinity_read_as_nan` and
-- `zero_with_a_sign` have one and cite these, so that each is refused for the value in it alone. Assumes nothing.
use mathlib.Core.Path.{◌≡◌, refl, sym, ap, subst, ◌∙◌}
use mathlib.Core.Bool.{Bool, true, false, not, ◌||◌, beq, true≢false}
use Prim.Native.Nat.{ℕ, zero, suc, ◌*◌, ◌%◌, ◌<◌}
use native.Mathlib.Nat.{mul-pos, zero-mul, zero-lt-suc}
use native.Mathlib.Omega.{arith}
use lib.Dec.{T, eqb, eqb→eq}
use lib.IntN.{ℤ, pos}
use borrow.Author.Tests.{lt-ltb}
use lib.Ieee.{Float, nan, inf, fin, binary32, eq, ne, fits, of_bits, up, down}
use lib.Ieee.Bits.{nan_bits_above}
use lib.Ieee.Compare.{differs_from_itself}
use lib.Ieee.Fits.{up_pos, and_l}
use lib.Ieee.Back.{whole_unique}
use Rattle.exact.specs.Tests.{abs}
use Rattle.float32.specs.Bits.{bits_of, float_of}
use Rattle.float32.proofs.Bits.{nan_read, nan_written}

-- ---- a NaN: what is unlike itself, and what a pattern above the infinity's is read as
pub unlike_nan : (x : Float) → eq x x ≡ false → x ≡ nan
unfolding ne
unlike_nan x h = differs_from_itself x (subst (λ (b : Bool). T (not b)) (sym h) tt)

pub unlike_written : (x : Float) → eq x x ≡ false → 0x7fc0_0000 ≡ bits_of x
unlike_written x h = sym (ap bits_of (unlike_nan x h) ∙ nan_written)

pub high_nan : (b : ℕ) → 0x7f80_0000 < b % 0x8000_0000 → nan ≡ float_of b
high_nan b h = sym (nan_read b (subst T (sym (nan_bits_above binary32 b ∙ lt-ltb 0x7f80_0000 (b % 0x8000_0000) h)) tt))

-- ---- a zero: its size is +0
abs_zero_fin : (s : Bool) (m : ℕ) (e : ℤ) → T (fits binary32 (fin s m e)) → eq (fin s m e) (of_bits binary32 0) ≡ true → of_bits binary32 0 ≡ fin false m e
unfolding eq fits of_bits
abs_zero_fin s zero e t h = whole_unique binary32 (fin false 0 (pos 0)) (fin false 0 e) false 0 tt t (refl, refl) (refl, simp zero-mul)
abs_zero_fin s (suc m) e t h =
    let a = suc m * up e * 1 in
    let b = 0 * down e in
    let q : a ≡ b = eqb→eq a b (and_l (eqb a b) (beq s false || eqb a 0) (subst T (sym h) tt)) in
    let r : 0 < suc m * up e = mul-pos (zero-lt-suc m) (up_pos e) in
    absurd (omega arith)

pub abs_zero : (x : Float) → fits binary32 x ≡ true → eq x (of_bits binary32 0) ≡ true → of_bits binary32 0 ≡ abs x
unfolding eq of_bits
abs_zero nan t h = absurd (true≢false (sym h))
abs_zero (inf s) t h = absurd (true≢false (sym h))
abs_zero (fin s m e) t h = abs_zero_fin s m e (subst T (sym t) tt) h
