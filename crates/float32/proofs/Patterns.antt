-- The bit patterns of binary32: what each is read as. Assumes nothing.
use mathlib.Core.Path.{◌≡◌, refl, sym, ◌∙◌}
use Prim.Native.Nat.{ℕ, zero, suc, ◌+◌, ◌-◌, ◌*◌, ◌/◌, ◌%◌, ◌^◌, ◌≤◌, ◌<◌}
use native.Mathlib.Omega.{arith}
use mathlib.Core.Bool.{Bool, true, false, cond, true≢false}
use lib.Dec.{T, leb, eqb}
use borrow.Author.Tests.{lt-leb, leb-false, ne_eqb}
use lib.Ieee.{Float, nan, inf, fin, binary32, odd, of_fields, of_bits}
use lib.Ieee.Exact.{HasValue, odd_sign}
use lib.Ieee.Positive.{positive}

pub of_bits_is : (b : ℕ) → of_bits binary32 b ≡ of_fields binary32 (leb (2 ^ 31) b) (b % 2 ^ 31 / 2 ^ 23) (b % 2 ^ 23)
unfolding of_bits
of_bits_is b = refl

-- below the sign's bit
plus : (b : ℕ) → b < 2 ^ 31 → of_bits binary32 b ≡ of_fields binary32 false (b / 2 ^ 23) (b % 2 ^ 23)
plus b h =
    let e : b % 2 ^ 31 ≡ b = omega arith in
    rw (of_bits_is b, e, lt-leb (2 ^ 31) b h)

under_ones : (t x : ℕ) → suc x < 255 → of_fields binary32 false (suc x) t ≡ odd 24 false (2 ^ 23 + t) x 149
unfolding of_fields
under_ones t x h = rw (ne_eqb (suc x) 255 (omega arith))

-- the digits q at the exponent j: q * 2 ^ j units
pub pattern : (j q : ℕ) → j < 254 → 2 ^ 23 ≤ q → q < 2 ^ 24 → of_bits binary32 (j * 2 ^ 23 + q) ≡ odd 24 false q j 149
pattern j q h k l =
    let a : (j * 2 ^ 23 + q) / 2 ^ 23 ≡ suc j = omega arith in
    let b : (j * 2 ^ 23 + q) % 2 ^ 23 ≡ q - 2 ^ 23 = omega arith in
    let d : 2 ^ 23 + (q - 2 ^ 23) ≡ q = omega arith in
    plus (j * 2 ^ 23 + q) (omega arith) ∙ rw (a, b, under_ones (q - 2 ^ 23) j (omega arith), d)

-- a number below the smallest normal one
pub subnormal : (t : ℕ) → t < 2 ^ 23 → of_bits binary32 t ≡ odd 24 false t 0 149
unfolding of_fields
subnormal t h =
    let a : t / 2 ^ 23 ≡ 0 = omega arith in
    let b : t % 2 ^ 23 ≡ t = omega arith in
    plus t (omega arith) ∙ rw (a, b)

-- ---- from the infinity's pattern on nothing is above zero and finite
negative : (x : Float) (a c : ℕ) → HasValue x true a c → T (positive x) → ⊥
negative nan a c h p = p
negative (inf s) a c h p = p
negative (fin true m e) a c h p = p
negative (fin false m e) a c h p = true≢false (sym h.0)

either : (b : Bool) (x y : Float) → (T (positive x) → ⊥) → (T (positive y) → ⊥) → T (positive (cond b x y)) → ⊥
either true x y f g p = f p
either false x y f g p = g p

marked : (s : Bool) (t : ℕ) → T (positive (cond (eqb t 0) (inf s) nan)) → ⊥
marked s t = either (eqb t 0) (inf s) nan (λ p. p) (λ p. p)

minus_fields : (x t : ℕ) → T (positive (of_fields binary32 true x t)) → ⊥
unfolding of_fields
minus_fields zero t p = negative (odd 24 true t 0 149) _ _ (odd_sign 24 true t 0 149) p
minus_fields (suc x) t p =
    either (eqb (suc x) 255) (cond (eqb t 0) (inf true) nan) (odd 24 true (2 ^ 23 + t) x 149) (marked true t)
    (negative (odd 24 true (2 ^ 23 + t) x 149) _ _ (odd_sign 24 true (2 ^ 23 + t) x 149)) p

plus_ones : (t : ℕ) → T (positive (of_fields binary32 false 255 t)) → ⊥
unfolding of_fields
plus_ones t p = marked false t p

pub not_positive : (b : ℕ) → 0x7f80_0000 ≤ b → T (positive (of_bits binary32 b)) → ⊥
not_positive b h p = go (leb (2 ^ 31) b) refl
  where
    go : (s : Bool) → leb (2 ^ 31) b ≡ s → ⊥
    go true e = minus_fields (b % 2 ^ 31 / 2 ^ 23) (b % 2 ^ 23) (rw (of_bits_is b, e) at p)
    go false e =
        let l : b < 2 ^ 31 = leb-false (2 ^ 31) b e in
        let a : b / 2 ^ 23 ≡ 255 = omega arith in
        plus_ones (b % 2 ^ 23) (rw (plus b l, a) at p)
