-- The two conversions of bits: each undoes the other, but for the NaN's patterns, of which one is written. Assumes nothing.
use mathlib.Core.Path.{◌≡◌, refl, sym, subst, ◌∙◌}
use mathlib.Core.Bool.{Bool, true, not, true≢false}
use Prim.Native.Nat.{ℕ, ◌%◌, ◌^◌, ◌<◌, ◌≤◌}
use lib.Dec.{T}
use borrow.Author.Tests.{le-ltb}
use lib.Ieee.{Float, nan, inf, fin, binary32, is_nan, nan_bits, fits, to_bits}
use lib.Ieee.Bits.{is_true, nan_bits_is, nan_bits_above, of_bits-to_bits, to_bits-of_bits, of_bits-fits, to_bits-lt}
use Rattle.float32.specs.Bits.{bits_of, float_of}

-- a pattern up to the infinity's is no NaN's
pub low_no_nan : (b : ℕ) → b % 0x8000_0000 ≤ 0x7f80_0000 → T (not (nan_bits binary32 b))
low_no_nan b h = rw (nan_bits_above binary32 b, le-ltb 0x7f80_0000 (b % 0x8000_0000) h) tt

is_nan_lem : (x : Float) → is_nan x ≡ true → nan ≡ x
unfolding is_nan
is_nan_lem nan h = refl
is_nan_lem (inf s) h = absurd (true≢false (sym h))
is_nan_lem (fin s m e) h = absurd (true≢false (sym h))

-- ---- the laws
-- a float that the format holds is read back from its pattern
pub float_back : (x : Float) → T (fits binary32 x) → float_of (bits_of x) ≡ x
float_back x h = of_bits-to_bits binary32 x h

-- a pattern that is no NaN's is written again
pub bits_back : (b : ℕ) → b < 2 ^ 32 → T (not (nan_bits binary32 b)) → bits_of (float_of b) ≡ b
bits_back b h n = to_bits-of_bits binary32 b h (subst (λ (t : Bool). T (not t)) (nan_bits_is binary32 b) n)

-- a NaN's pattern is read as the NaN
pub nan_read : (b : ℕ) → T (nan_bits binary32 b) → float_of b ≡ nan
nan_read b h = sym (is_nan_lem (float_of b) (sym (nan_bits_is binary32 b) ∙ is_true (nan_bits binary32 b) h))

pub nan_written : bits_of nan ≡ 0x7fc0_0000
unfolding to_bits
nan_written = refl

-- what is read the format holds, and what is written has 32 digits at most
pub float_fits : (b : ℕ) → T (fits binary32 (float_of b))
float_fits b = of_bits-fits binary32 b

pub bits_small : (x : Float) → T (fits binary32 x) → bits_of x < 2 ^ 32
bits_small x h = to_bits-lt binary32 x h
