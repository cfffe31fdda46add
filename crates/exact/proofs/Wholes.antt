-- Whole numbers up to 2 ^ 24 are f32 as they stand: 0 and 1 as the code writes them, products, differences and quotients of two, and whether one is above 0. Assumes nothing.
use mathlib.Core.Path.{◌≡◌, refl, sym, ◌∙◌}
use Prim.Native.Nat.{ℕ, zero, suc, ◌-◌, ◌*◌, ◌^◌, ◌≤◌, ◌<◌}
use native.Mathlib.Nat.{mul-one, mul-pos, mul-le-mul_right, mul-lt-mul_of_pos_right, mul_comm, mul-sub, zero-lt-suc}
use native.Mathlib.Omega.{arith}
use mathlib.Core.Bool.{true, false}
use borrow.Author.Tests.{lt-ltb, le-ltb}
use lib.Dec.{ltb, eqb-suc-zero}
use lib.IntN.{pos}
use lib.Ieee.{Float, nan, inf, fin, binary32, up, down, add, sub, neg, sum, mul, div, lt, of_bits, of_int, round}
use lib.Ieee.Back.{round_whole}
use lib.Ieee.Exact.{HasValue}
use lib.Ieee.Fits.{up_pos, down_pos}
use lib.Ieee.Scale.{round_same}
use Rattle.exact.specs.Exact.{lit}

pub lit_zero : of_bits binary32 0 ≡ lit 0
unfolding lit of_int of_bits round
lit_zero = refl

pub lit_one : of_bits binary32 0x3f800000 ≡ lit 1
unfolding lit of_int of_bits round
lit_one = refl

pub whole_value : (a : ℕ) → a ≤ 2 ^ 24 → HasValue (lit a) false a 1
unfolding lit of_int
whole_value a h = round_whole binary32 false a h

-- M over E is a
own : (M E a : ℕ) → M * 1 ≡ a * E → M ≡ a * E
own M E a h = sym (mul-one M) ∙ h

-- ---- the product
times : (x y : Float) (a b : ℕ) → HasValue x false a 1 → HasValue y false b 1 → mul binary32 x y ≡ round binary32 false (a * b) 1
unfolding mul
times nan y a b v w = absurd v
times (inf s) y a b v w = absurd v
times (fin s m e) nan a b v w = absurd w
times (fin s m e) (inf t) a b v w = absurd w
times (fin s m e) (fin t n d) a b v w =
    rw (v.0, w.0) (round_same binary32 false _ _ (a * b) 1 (mul-pos (down_pos e) (down_pos d)) (zero-lt-suc 0) (cross _ _ _ _ a b (own _ _ a v.1) (own _ _ b w.1)))
  where
    cross : (M N E D a b : ℕ) → M ≡ a * E → N ≡ b * D → M * N * 1 ≡ a * b * (E * D)
    cross M N E D a b h k = rw (h, k) (omega arith)

pub whole_product : (a b : ℕ) → a ≤ 2 ^ 24 → b ≤ 2 ^ 24 → mul binary32 (lit a) (lit b) ≡ lit (a * b)
unfolding lit of_int
whole_product a b A B = times (lit a) (lit b) a b (whole_value a A) (whole_value b B)

-- ---- the quotient
no_zero : (u b D : ℕ) → 0 < b → 0 < D → 0 * u * 1 ≡ b * D → ⊥
no_zero u b D B P e = let h = mul-pos B P in omega arith

over : (x y : Float) (a b : ℕ) → 0 < b → HasValue x false a 1 → HasValue y false b 1 → div binary32 x y ≡ round binary32 false a b
unfolding div
over nan y a b B v w = absurd v
over (inf s) y a b B v w = absurd v
over (fin s m e) nan a b B v w = absurd w
over (fin s m e) (inf t) a b B v w = absurd w
over (fin s m e) (fin t zero d) a b B v w = absurd (no_zero _ b _ B (down_pos d) w.1)
over (fin s m e) (fin t (suc n) d) a b B v w =
    rw (eqb-suc-zero n, v.0, w.0) (round_same binary32 false _ _ a b (mul-pos (mul-pos (zero-lt-suc n) (up_pos d)) (down_pos e)) B (cross _ _ _ _ a b (own _ _ a v.1) (own _ _ b w.1)))
  where
    cross : (M N E D a b : ℕ) → M ≡ a * E → N ≡ b * D → M * D * b ≡ a * (N * E)
    cross M N E D a b h k = rw (h, k) (omega arith)

pub whole_quotient : (a b : ℕ) → a ≤ 2 ^ 24 → 0 < b → b ≤ 2 ^ 24 → div binary32 (lit a) (lit b) ≡ round binary32 false a b
whole_quotient a b A B C = over (lit a) (lit b) a b B (whole_value a A) (whole_value b C)

-- ---- the difference
-- a times C and b times C, C above 0, lie as a and b do
parts : (M N E D a b : ℕ) → M * 1 ≡ a * E → N * 1 ≡ b * D → (M * D ≡ a * (E * D)) × (N * E ≡ b * (E * D))
parts M N E D a b h k =
    let p = own M E a h in
    let q = own N D b k in
    (rw p (omega arith), rw q (omega arith))

gap : (a b C : ℕ) → a * C - b * C ≡ (a - b) * C
gap a b C = rw (mul_comm (a - b) C, mul-sub C a b, mul_comm C a, mul_comm C b)

sum_over : (a b C : ℕ) → 0 < C → b ≤ a → sum binary32 false (a * C) true (b * C) C ≡ round binary32 false (a - b) 1
unfolding sum
sum_over a b C P h =
    rw (le-ltb (a * C) (b * C) (mul-le-mul_right C h), gap a b C) (round_same binary32 false ((a - b) * C) C (a - b) 1 P (zero-lt-suc 0) (mul-one _))

sum_under : (a b C : ℕ) → 0 < C → a < b → sum binary32 false (a * C) true (b * C) C ≡ round binary32 true (b - a) 1
unfolding sum
sum_under a b C P h =
    rw (lt-ltb (a * C) (b * C) (mul-lt-mul_of_pos_right h P), gap b a C) (round_same binary32 true ((b - a) * C) C (b - a) 1 P (zero-lt-suc 0) (mul-one _))

less : (x y : Float) (a b : ℕ) → HasValue x false a 1 → HasValue y false b 1 → (C : ℕ) × (0 < C) × (sub binary32 x y ≡ sum binary32 false (a * C) true (b * C) C)
unfolding sub add neg
less nan y a b v w = absurd v
less (inf s) y a b v w = absurd v
less (fin s m e) nan a b v w = absurd w
less (fin s m e) (inf t) a b v w = absurd w
less (fin s m e) (fin t n d) a b v w =
    let p = parts (m * up e) (n * up d) (down e) (down d) a b v.1 w.1 in
    (down e * down d, mul-pos (down_pos e) (down_pos d), rw (v.0, w.0, p.0, p.1))

module _ (a b : ℕ) (A : a ≤ 2 ^ 24) (B : b ≤ 2 ^ 24) where
  pub whole_difference : b ≤ a → sub binary32 (lit a) (lit b) ≡ lit (a - b)
  unfolding lit of_int
  whole_difference h = let l = less (lit a) (lit b) a b (whole_value a A) (whole_value b B) in l.2 ∙ sum_over a b l.0 l.1 h

  -- below 0
  pub whole_short : a < b → sub binary32 (lit a) (lit b) ≡ round binary32 true (b - a) 1
  whole_short h = let l = less (lit a) (lit b) a b (whole_value a A) (whole_value b B) in l.2 ∙ sum_under a b l.0 l.1 h

-- ---- above 0
above : (x : Float) (a : ℕ) → HasValue x false a 1 → lt (fin false 0 (pos 0)) x ≡ ltb 0 a
unfolding lt
above nan a v = absurd v
above (inf s) a v = absurd v
above (fin s m e) a v = rw v.0 (go a (own (m * up e) (down e) a v.1))
  where
    go : (a : ℕ) → m * up e ≡ a * down e → ltb (0 * 1 * down e) (m * up e * 1) ≡ ltb 0 a
    go zero h = rw h (le-ltb (0 * 1 * down e) (0 * down e * 1) (omega arith))
    go (suc a) h = rw h (lt-ltb (0 * 1 * down e) (suc a * down e * 1) (omega (arith, mul-pos (zero-lt-suc a) (down_pos e))) ∙ sym (lt-ltb 0 (suc a) (zero-lt-suc a)))

pub whole_above : (a : ℕ) → a ≤ 2 ^ 24 → lt (lit 0) (lit a) ≡ ltb 0 a
unfolding lit of_int round
whole_above a h = above (lit a) a (whole_value a h)

-- what is below 0 is not
under : (x : Float) (a : ℕ) → HasValue x true a 1 → lt (fin false 0 (pos 0)) x ≡ false
unfolding lt
under nan a v = absurd v
under (inf s) a v = absurd v
under (fin s m e) a v = rw v.0

pub short_not_above : (a : ℕ) → a ≤ 2 ^ 24 → lt (lit 0) (round binary32 true a 1) ≡ false
unfolding lit of_int round
short_not_above a h = under (round binary32 true a 1) a (round_whole binary32 true a h)
