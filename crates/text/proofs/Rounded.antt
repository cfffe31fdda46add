-- A fraction brought to 24 binary digits and rounded is `lib.Ieee`'s rounding of it. Assumes nothing.
use mathlib.Core.Path.{◌≡◌, refl, sym, ap, subst, ◌∙◌}
use mathlib.Core.Bool.{Bool, true, false, cond, true≢false}
use mathlib.Core.Logic.{inl, inr}
use Prim.Native.Nat.{ℕ, suc, ◌+◌, ◌-◌, ◌*◌, ◌/◌, ◌%◌, ◌^◌, ◌≤◌, ◌<◌, compare, Ordering}
use native.Mathlib.Nat.{le_of_mul-le-mul_right, lt_of_mul-lt-mul_right, lt_of_le_of_lt, mul-le-mul, mul-le-mul_right, mul-pos, mul-lt-mul_of_pos_right, le-div_iff_mul-le, div-lt_iff_lt-mul, div-eq_of_eq-mul_left, eq-or-lt_of_le, mul_assoc, add_assoc}
use native.Mathlib.Omega.{arith}
use borrow.Author.Tests.{le-leb, leb-true, eq-eqb, eqb-true}
use lib.Dec.{T, is_le, compare_is_eq, lit<}
use lib.Pow.{pow-add, pow_pos, pow_mono, shl-shr}
use lib.Count.{count_leading_zeros, leading_top}
use lib.Ieee.{Float, nan, inf, fin, binary32, size, nearest, units, round, fits, of_bits, to_bits, up, down}
use lib.Ieee.Digits.{size-lt, size-le}
use lib.Ieee.Fits.{round_is, round-fits, nearest-le, down_pos}
use lib.Ieee.Bits.{of_bits-to_bits}
use lib.Ieee.Exact.{HasValue, units_val}
use lib.Ieee.Nearest.{closest, closest_same, nearest-ge}
use lib.Ieee.Scale.{round_same}
use Rattle.text.specs.Rounding.{Lifted, Extra, Normal, Packed}

-- ---- the nearest whole number, by the code's test
at_most_half : (q : ℕ) (o : Ordering) → is_le o ≡ true → (compare_is_eq o ≡ true → q % 2 ≡ 0) → nearest q o ≡ q
at_most_half q Ordering.lt e f = refl
at_most_half q Ordering.eq e f = let z = f refl in omega arith
at_most_half q Ordering.gt e f = absurd (true≢false (sym e))

from_half : (q : ℕ) (o : Ordering) → (is_le o ≡ true → (compare_is_eq o ≡ true) × (q % 2 ≡ 1)) → nearest q o ≡ q + 1
from_half q Ordering.lt f = absurd (true≢false (sym (f refl).0))
from_half q Ordering.eq f = let z = (f refl).1 in omega arith
from_half q Ordering.gt f = omega arith

module _ (a b : ℕ) where
  pub stays : a % b * 2 + a / b % 2 ≤ b → a / b ≡ closest a b
  stays h = sym (at_most_half (a / b) (compare (a % b * 2) b) (le-leb (a % b * 2) b (omega arith)) (λ e. let i = eqb-true (a % b * 2) b e in omega arith))

  pub goes_up : b < a % b * 2 + a / b % 2 → a / b + 1 ≡ closest a b
  goes_up h = sym (from_half (a / b) (compare (a % b * 2) b) (λ e. let i = leb-true (a % b * 2) b e in (eq-eqb (a % b * 2) b (omega arith), omega arith)))

-- ---- a number of j + 1 binary digits
size_is : (n j : ℕ) → 2 ^ j ≤ n → n < 2 ^ (j + 1) → size n ≡ j + 1
size_is n j l h =
    let a : size n ≤ j + 1 = size-le n (j + 1) h in
    let b : size n ≤ j → ⊥ = λ k. omega (arith, size-lt n, pow_mono k) in
    omega arith

-- ---- a fraction of 24 digits rounds to its nearest whole number, at the exponent k
module _ (n d num den k : ℕ) (D : 0 < d) (z : Normal num den) (same : n * 2 ^ 149 * den ≡ num * (d * 2 ^ k)) where
  E : 0 < den
  E = let l = z.long.least in omega arith

  grouped : (c p : ℕ) → p * (c * d) * den ≡ c * den * (d * p)
  grouped c p = omega arith

  at : (i : ℕ) → 2 ^ (k + i) * d ≡ 2 ^ k * (2 ^ i * d)
  at i = rw (pow-add 2 k i, mul_assoc)

  reaches : 2 ^ (k + 23) * d ≤ n * 2 ^ 149
  reaches =
      let a : 2 ^ 23 * den * (d * 2 ^ k) ≤ num * (d * 2 ^ k) = mul-le-mul_right (d * 2 ^ k) z.least in
      rw (at 23) (le_of_mul-le-mul_right {k = den} (rw (grouped (2 ^ 23) (2 ^ k), same) a) E)

  under : n * 2 ^ 149 < 2 ^ (k + 24) * d
  under =
      let a : num * (d * 2 ^ k) < 2 ^ 24 * den * (d * 2 ^ k) = mul-lt-mul_of_pos_right z.most (mul-pos D (pow_pos k)) in
      rw (at 24) (lt_of_mul-lt-mul_right den (rw (grouped (2 ^ 24) (2 ^ k), same) a))

  dropped : size (n * 2 ^ 149 / d) - 24 ≡ k
  dropped =
      let e : k + 23 + 1 ≡ k + 24 = omega arith in
      let a : size (n * 2 ^ 149 / d) ≡ k + 23 + 1 = size_is (n * 2 ^ 149 / d) (k + 23) ((le-div_iff_mul-le D).1 reaches) ((div-lt_iff_lt-mul D).1 (rw e under)) in
      omega arith

  rounded : (s : Bool) → round binary32 s n d ≡ units binary32 s (closest num den) k
  rounded s =
      round_is binary32 s n d
      ∙ ap (λ (x : ℕ). units binary32 s (closest (n * 2 ^ 149) (d * 2 ^ x)) x) dropped
      ∙ ap (λ (x : ℕ). units binary32 s x k) (closest_same (n * 2 ^ 149) (d * 2 ^ k) num den (mul-pos D (pow_pos k)) E same)

pub quotient : (num den : ℕ) → Normal num den → (2 ^ 23 ≤ closest num den) × (closest num den ≤ 2 ^ 24)
quotient num den z =
    let o = compare (num % den * 2) den in
    let E : 0 < den = (let l = z.long.least in omega arith) in
    let a : 2 ^ 23 ≤ num / den = (le-div_iff_mul-le E).1 z.least in
    let b : num / den < 2 ^ 24 = (div-lt_iff_lt-mul E).1 z.most in
    let g = nearest-ge (num / den) o in
    let h = nearest-le (num / den) o in
    (omega arith, omega arith)

-- ---- the pattern of q * 2 ^ k units
written : (v : Float) (s : Bool) (w : ℕ) → HasValue v s w (2 ^ 149) → to_bits binary32 v ≡ cond s 0x8000_0000 0 + (size w - 24) * 2 ^ 23 + w / 2 ^ (size w - 24)
unfolding to_bits
written nan s w h = absurd h
written (inf t) s w h = absurd h
written (fin t m e) s w h = let i : m * up e * 2 ^ 149 / down e ≡ w = div-eq_of_eq-mul_left (down_pos e) h.1 in rw (h.0, i)

-- what `to_bits` writes for n units, without the sign
abbrev digits : ℕ → ℕ
digits n = (size n - 24) * 2 ^ 23 + n / 2 ^ (size n - 24)

all_kept : (q k : ℕ) → 2 ^ 23 ≤ q → q < 2 ^ 24 → digits (q * 2 ^ k) ≡ k * 2 ^ 23 + q
all_kept q k l h =
    let a : 2 ^ 23 * 2 ^ k ≤ q * 2 ^ k = mul-le-mul_right (2 ^ k) l in
    let b : q * 2 ^ k < 2 ^ 24 * 2 ^ k = mul-lt-mul_of_pos_right h (pow_pos k) in
    let c : size (q * 2 ^ k) ≡ k + 23 + 1 = size_is (q * 2 ^ k) (k + 23) (omega (arith, pow-add 2 k 23)) (omega (arith, pow-add 2 k 23, pow-add 2 (k + 23) 1)) in
    let e : size (q * 2 ^ k) - 24 ≡ k = omega arith in
    rw (e, shl-shr q k)

module _ (s : Bool) (q k : ℕ) (least : 2 ^ 23 ≤ q) (most : q ≤ 2 ^ 24) (high : k ≤ 250) where
  value : HasValue (units binary32 s q k) s (q * 2 ^ k) (2 ^ 149)
  value = units_val binary32 s q k (lt_of_le_of_lt (mul-le-mul most (pow_mono high)) (lit< tt))

  -- 2 ^ 24 has one digit more, and is 2 ^ 23 at the next exponent
  kept : digits (q * 2 ^ k) ≡ k * 2 ^ 23 + q
  kept = elim (eq-or-lt_of_le most) [
    | inl e ↦
        let i : q * 2 ^ k ≡ 2 ^ 23 * 2 ^ (k + 1) = rw e (omega (arith, pow-add 2 k 1)) in
        ap digits i ∙ all_kept (2 ^ 23) (k + 1) (omega arith) (omega arith) ∙ omega arith
    | inr h ↦ all_kept q k least h
  ]

  pattern : to_bits binary32 (units binary32 s q k) ≡ cond s 0x8000_0000 0 + (k * 2 ^ 23 + q)
  pattern = written (units binary32 s q k) s (q * 2 ^ k) value ∙ add_assoc (cond s 0x8000_0000 0) _ _ ∙ ap (λ (x : ℕ). cond s 0x8000_0000 0 + x) kept

-- ---- the law
normal_packed : (n d num den k : ℕ) → 0 < d → Normal num den → k ≤ 250 → n * 2 ^ 149 * den ≡ num * (d * 2 ^ k) → Packed n d (k * 2 ^ 23 + closest num den)
normal_packed n d num den k D z h e =
    let q = quotient num den z in
    let r = rounded n d num den k D z e in
    record {
      low = omega arith;
      is = λ s. ap (of_bits binary32) (sym (pattern s (closest num den) k q.0 q.1 h)) ∙ of_bits-to_bits binary32 (units binary32 s (closest num den) k) (subst (λ (x : Float). T (fits binary32 x)) (r s) (round-fits binary32 s n d)) ∙ sym (r s);
    }

-- nought, with either sign
pub none_packed : (d : ℕ) → 0 < d → Packed 0 d 0
unfolding round of_bits
none_packed d D = record { low = omega arith; is = λ s. zero_bits s ∙ round_same binary32 s 0 1 0 d (omega arith) D (omega arith) }
  where
    zero_bits : (s : Bool) → of_bits binary32 (cond s 0x8000_0000 0 + 0) ≡ round binary32 s 0 1
    zero_bits true = refl
    zero_bits false = refl

-- ---- a number lifted to 32 digits
pub lift : (n : ℕ) → 0 < n → n < 2 ^ 32 → Lifted n (n * 2 ^ count_leading_zeros 32 n % 2 ^ 64) (count_leading_zeros 32 n)
lift n p h =
    let x = count_leading_zeros 32 n in
    let t = leading_top 32 n p h in
    let j = t.0 in
    let e : j + x ≡ 31 = (let f = t.1 in omega arith) in
    let a : 2 ^ j * 2 ^ x ≤ n * 2 ^ x = mul-le-mul_right (2 ^ x) t.2 in
    let b : n * 2 ^ x < 2 ^ suc j * 2 ^ x = mul-lt-mul_of_pos_right t.3 (pow_pos x) in
    let c : 2 ^ j * 2 ^ x ≡ 2 ^ 31 = sym (pow-add 2 j x) ∙ ap (λ (z : ℕ). 2 ^ z) e in
    let f : suc j + x ≡ 32 = omega arith in
    let g : 2 ^ suc j * 2 ^ x ≡ 2 ^ 32 = sym (pow-add 2 (suc j) x) ∙ ap (λ (z : ℕ). 2 ^ z) f in
    record { long = record { least = omega arith; most = omega arith }; few = omega arith; is = omega arith }

-- ---- the quotient of two such numbers, with j binary places more
module _ (n d a b x y j : ℕ) (l : Lifted n a x) (m : Lifted d b y) (t : Extra a b j) where
  left : (I Y : ℕ) → n * I * (d * Y) ≡ n * d * (I * Y)
  left I Y = omega arith

  right : (X J K : ℕ) → n * d * (X * (J * K)) ≡ n * X * J * (d * K)
  right X J K = omega arith

  moved : (i k : ℕ) → i + y ≡ x + (j + k) → n * 2 ^ i * b ≡ a * 2 ^ j * (d * 2 ^ k)
  moved i k e =
      let p : 2 ^ i * 2 ^ y ≡ 2 ^ x * (2 ^ j * 2 ^ k) = sym (pow-add 2 i y) ∙ ap (λ (z : ℕ). 2 ^ z) e ∙ pow-add 2 x (j + k) ∙ ap (λ (z : ℕ). 2 ^ x * z) (pow-add 2 j k) in
      rw (l.is, m.is) (left (2 ^ i) (2 ^ y) ∙ ap (λ (z : ℕ). n * d * z) p ∙ right (2 ^ x) (2 ^ j) (2 ^ k))

  -- the shift loses nothing
  pub kept_whole : a * 2 ^ j % 2 ^ 64 ≡ a * 2 ^ j
  kept_whole = let u = t.normal.most in let v = m.long.most in omega arith

  pub lifted_packed : 0 < d → Packed n d ((y + 149 - x - j) * 2 ^ 23 + closest (a * 2 ^ j) b)
  lifted_packed D = normal_packed n d (a * 2 ^ j) b (y + 149 - x - j) D t.normal (omega arith) (moved 149 (y + 149 - x - j) (omega arith))
