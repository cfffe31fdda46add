-- K at every degree and order: the division gives it, it is +0 from order n - 1 on, and at most 1. Assumes nothing.
use mathlib.Core.Path.{◌≡◌, refl, sym, ap, ◌∙◌}
use Prim.Native.Nat.{ℕ, zero, suc, ◌+◌, ◌-◌, ◌*◌, ◌^◌, ◌≤◌, ◌<◌, zero-le}
use native.Mathlib.Nat.{le_dest, le_trans, le_of_eq, le_of_lt, eq-or-lt_of_le, lt_irrefl, mul-le-mul, mul-pos, zero-lt-suc}
use native.Mathlib.Omega.{arith}
use mathlib.Core.Bool.{Bool, true, false, cond}
use mathlib.Core.Logic.{inl, inr}
use borrow.Author.Tests.{ltb-true, ltb-false, leb-false, leb-true, lt-ltb, le-ltb, lt-leb}
use lib.Dec.{T, leb, ltb, leb→le, lit≤, lit<}
use lib.IntN.{pos}
use lib.Ieee.{fin, binary32, of_bits, of_int, sub, lt, round}
use lib.Ieee.Scale.{finite}
use Rattle.exact.specs.Exact.{lit, own}
use Rattle.exact.proofs.Range.{holds_one, round_fit, round_null}
use Rattle.exact.proofs.Sizes.{AtMost}
use Rattle.exact.proofs.Wholes.{lit_one, lit_zero, short_not_above, whole_above, whole_difference, whole_product, whole_quotient, whole_short}
use Rattle.tables.specs.Rule.{k_of}
use Rattle.tables.specs.Division.{at_least_zero, k_divided, k_divisor, k_over}

-- ---- the fraction of degree n + 1: (n^2 - m^2) / (4n^2 - 1)
-- its two parts, as the rule has them
squares : (n : ℕ) → (n + 1 - 1) * (n + 1 - 1) ≡ n * n
squares n = let e : n + 1 - 1 ≡ n = omega arith in rw e refl

divisors : (n : ℕ) → 0 < n → (2 * (n + 1) - 1) * (2 * (n + 1) - 3) ≡ 4 * (n * n) - 1
divisors zero h = absurd (omega arith)
divisors (suc n) h =
    let a : 2 * (suc n + 1) - 1 ≡ 2 * n + 3 = omega arith in
    let b : 2 * (suc n + 1) - 3 ≡ 2 * n + 1 = omega arith in
    rw (a, b) (omega arith)

-- ---- the steps of the code on whole numbers
lit_four : of_bits binary32 0x40800000 ≡ lit 4
unfolding lit of_bits of_int round
lit_four = refl

module _ (a b : ℕ) (A : a ≤ 2 ^ 24) (B : b ≤ 2 ^ 24) where
  not_above : a ≤ b → lt (lit 0) (sub binary32 (lit a) (lit b)) ≡ false
  not_above h = elim (eq-or-lt_of_le h) [
    | inl e ↦ rw (whole_difference a b A B (le_of_eq (sym e)), whole_above (a - b) (omega arith)) (le-ltb 0 (a - b) (omega arith))
    | inr l ↦ rw (whole_short a b A B l) (short_not_above (b - a) (omega arith))
  ]

  -- a difference, or 0 where it is below 0: what the natural numbers' own subtraction gives
  kept_above : at_least_zero (sub binary32 (lit a) (lit b)) ≡ lit (a - b)
  unfolding at_least_zero
  kept_above = go (ltb b a) refl
    where
      go : (t : Bool) → ltb b a ≡ t → cond (lt (of_bits binary32 0) (sub binary32 (lit a) (lit b))) (sub binary32 (lit a) (lit b)) (of_bits binary32 0) ≡ lit (a - b)
      go true e =
          let h = ltb-true b a e in
          rw (lit_zero, whole_difference a b A B (le_of_lt h), whole_above (a - b) (omega arith), lt-ltb 0 (a - b) (omega arith)) refl
      go false e =
          let h = ltb-false b a e in
          let z : a - b ≡ 0 = omega arith in
          rw (lit_zero, not_above h, z) refl

-- the divisor of the code, by (n - 1)^2
abbrev divisor : ℕ → ℕ
divisor zero = 1
divisor (suc a) = 4 * suc a - 1

positive : (a : ℕ) → 0 < a → divisor a ≡ 4 * a - 1
positive zero h = absurd (lt_irrefl 0 h)
positive (suc a) h = refl

divisor_is : (a : ℕ) → a ≤ 2 ^ 22 → k_divisor (lit a) ≡ lit (divisor a)
unfolding k_divisor
divisor_is zero h = rw (lit_zero, whole_above 0 zero-le) lit_one
divisor_is (suc a) h =
    let u : suc a ≤ 2 ^ 24 = omega arith in
    rw (lit_zero, lit_one, lit_four, whole_above (suc a) u, lt-ltb 0 (suc a) (zero-lt-suc a), whole_product 4 (suc a) (lit≤ tt) u)
    (whole_difference (4 * suc a) 1 (omega arith) (lit≤ tt) (omega arith))

divisor_fine : (a : ℕ) → a ≤ 2 ^ 22 → (0 < divisor a) × (divisor a ≤ 2 ^ 24)
divisor_fine zero h = (lit< tt, lit≤ tt)
divisor_fine (suc a) h = (omega arith, omega arith)

-- the division of the code: n the degree before, m the order
divided : (n m : ℕ) → n ≤ 2048 → m ≤ 4096 → k_divided (lit n) (lit m) ≡ round binary32 false (n * n - m * m) (divisor (n * n))
unfolding k_divided k_over
divided n m N M =
    let p : n * n ≤ 2 ^ 22 = le_trans (mul-le-mul N N) (lit≤ tt) in
    let q : m * m ≤ 2 ^ 24 = le_trans (mul-le-mul M M) (lit≤ tt) in
    let d = divisor_fine (n * n) p in
    rw (whole_product n n (omega arith) (omega arith), whole_product m m (omega arith) (omega arith), kept_above (n * n) (m * m) (omega arith) q, divisor_is (n * n) p)
    (whole_quotient (n * n - m * m) (divisor (n * n)) (omega arith) d.0 d.1)

-- ---- so the division of n - 1 and m is K, at every degree from 1 to 2049
pub k_whole : (n m : ℕ) → n ≤ 2048 → m ≤ 4096 → k_divided (lit n) (lit m) ≡ k_of (n + 1) m
unfolding k_of
k_whole n m N M = divided n m N M ∙ go (leb (m + 2) (n + 1)) refl
  where
    before : m + 2 ≤ n + 1 → 0 < n
    before h = omega arith

    go : (t : Bool) → leb (m + 2) (n + 1) ≡ t
        → round binary32 false (n * n - m * m) (divisor (n * n)) ≡ cond t (round binary32 false ((n + 1 - 1) * (n + 1 - 1) - m * m) ((2 * (n + 1) - 1) * (2 * (n + 1) - 3))) (fin false 0 (pos 0))
    go true e =
        let h = leb-true (m + 2) (n + 1) e in
        rw (squares n, divisors n (before h)) (ap (round binary32 false (n * n - m * m)) (positive (n * n) (mul-pos (before h) (before h))))
    go false e =
        let h = leb-false (m + 2) (n + 1) e in
        let l : n * n ≤ m * m = mul-le-mul (omega arith) (omega arith) in
        round_null false _ _ (omega arith) (divisor_fine (n * n) (le_trans (mul-le-mul N N) (lit≤ tt))).0

-- ---- outside n ≥ 2 and m ≤ n - 2 it is +0
pub k_zero : (n m : ℕ) → n < m + 2 → k_of n m ≡ fin false 0 (pos 0)
unfolding k_of
k_zero n m h = rw (lt-leb (m + 2) n h)

-- ---- it is finite, and at most 1
-- its fraction is of numbers above 0, the upper at most the lower
below_one : (n m : ℕ) → 2 ≤ n → (0 < (2 * n - 1) * (2 * n - 3)) × ((n - 1) * (n - 1) - m * m ≤ 1 * ((2 * n - 1) * (2 * n - 3)))
below_one n m h =
    let d = le_dest h in
    let a : n - 1 ≡ d.0 + 1 = omega (arith, d.1) in
    let b : 2 * n - 1 ≡ 2 * d.0 + 3 = omega (arith, d.1) in
    let c : 2 * n - 3 ≡ 2 * d.0 + 1 = omega (arith, d.1) in
    rw (a, b, c) (omega arith, omega arith)

pub k_small : (n m : ℕ) → T (finite (k_of n m)) × AtMost 1 (k_of n m)
unfolding k_of own
k_small n m = go (leb (m + 2) n) (leb→le (m + 2) n)
  where
    go : (t : Bool) → (T t → m + 2 ≤ n)
        → T (finite (cond t (round binary32 false ((n - 1) * (n - 1) - m * m) ((2 * n - 1) * (2 * n - 3))) (fin false 0 (pos 0))))
        × AtMost 1 (cond t (round binary32 false ((n - 1) * (n - 1) - m * m) ((2 * n - 1) * (2 * n - 3))) (fin false 0 (pos 0)))
    go true l = let f = below_one n m (le_trans (omega arith) (l tt)) in round_fit 1 1 (pos 0) false _ _ holds_one f.0 f.1
    go false l = (tt, lit≤ tt)
