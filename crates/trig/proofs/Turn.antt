-- The angle by its bit pattern, and the pair of each part of the half circle. Assumes nothing.
use mathlib.Core.Path.{◌≡◌, refl, sym, ap, ◌∙◌}
use Prim.Native.Nat.{ℕ, zero, suc, ◌+◌, ◌-◌, ◌*◌, ◌/◌, ◌%◌, ◌^◌, ◌≤◌, ◌<◌}
use native.Mathlib.Nat.{zero-mul, le_trans, le_of_eq, mul_assoc, mul-le-mul_right, pow-le-pow_right, lt_of_le_of_lt, lt_of_lt_of_le, lt_of_mul-lt-mul_right, mul-lt-mul_of_pos_right}
use native.Mathlib.Omega.{arith}
use mathlib.Core.Bool.{Bool, true, false, not}
use lib.Dec.{leb, eqb, lit<}
use lib.Pow.{pow_pos}
use lib.Count.{count_leading_zeros, leading_top}
use lib.Ieee.{Float, nan, inf, fin, binary32, of_bits, neg, size}
use lib.Ieee.Digits.{size-lt, size_reaches, size-le}
use lib.Ieee.Exact.{HasValue}
use borrow.Author.Tests.{leb-true, leb-false, eq-eqb, ne_eqb, eqb-true, eqb-false}
use Rattle.trig.specs.declared.Pair.{Pair}
use Rattle.float32.proofs.Values.{shift_whole, cancel, powers, same, normal, few}
use Rattle.trig.specs.Fixed.{lift_by}
use Rattle.trig.specs.Angle.{SineOf, CosineOf, Turned}

pub above : (x : ℕ) → (x ≡ 0 → ⊥) → 0 < x
above zero f = absurd (f refl)
above (suc x) f = omega arith

-- ---- lifting
-- y of 2 ^ -18 degree is m / (2 ^ k * 2 ^ 18) degrees
pub record Lifted (y m k : ℕ) : Type 0 where
  pub same : y * 2 ^ k ≡ m
  pub less : m < 2 ^ 24
  pub few : k ≤ 131
  pub most : k ≤ 125 → 2 ^ 23 ≤ m

few_turns : (k m : ℕ) → 2 ^ k ≤ m → m < 2 ^ 24 → k ≤ 23
few_turns k m h l = go (leb 24 k) refl
  where
    go : (b : Bool) → leb 24 k ≡ b → k ≤ 23
    go true e = absurd (let x : 2 ^ 24 ≤ 2 ^ k = pow-le-pow_right (lit< tt) (leb-true 24 k e) in omega arith)
    go false e = let x = leb-false 24 k e in omega arith

-- the places are as many as the digits that are missing
pub lift_zero : (y : ℕ) → y ≡ 0 → lift_by y ≡ 131
unfolding lift_by
lift_zero y e = rw (eq-eqb y 0 e)

lift_some : (y : ℕ) → 0 < y → lift_by y ≡ 24 - size y
unfolding lift_by
lift_some y p = rw (ne_eqb y 0 (λ e. omega arith))

lift_one : (y k : ℕ) → 0 < y → k ≤ 23 → y * 2 ^ k < 2 ^ 24 → 2 ^ 23 ≤ y * 2 ^ k → k ≡ lift_by y
lift_one y k p f h l =
    let a : 2 ^ (24 - k) * 2 ^ k ≡ 2 ^ 24 = powers (24 - k) k 24 (omega arith) in
    let b : size y ≤ 24 - k = size-le y (24 - k) (lt_of_mul-lt-mul_right (2 ^ k) (lt_of_lt_of_le h (le_of_eq (sym a)))) in
    let d : 2 ^ (size y) * 2 ^ k ≡ 2 ^ (size y + k) = powers (size y) k (size y + k) refl in
    let e : 2 ^ 23 < 2 ^ (size y + k) = lt_of_le_of_lt l (lt_of_lt_of_le (mul-lt-mul_of_pos_right (size-lt y) (pow_pos k)) (le_of_eq d)) in
    go (leb (size y + k) 23) refl b e
  where
    go : (t : Bool) → leb (size y + k) 23 ≡ t → size y ≤ 24 - k → 2 ^ 23 < 2 ^ (size y + k) → k ≡ lift_by y
    go true g b e = absurd (let x : 2 ^ (size y + k) ≤ 2 ^ 23 = pow-le-pow_right (lit< tt) (leb-true (size y + k) 23 g) in omega arith)
    go false g b e = let x = leb-false (size y + k) 23 g in sym (lift_some y p ∙ omega arith)

-- the zeros before it count them
pub lifted_by : (y : ℕ) → 0 < y → y ≤ 11796480 → (40 ≤ count_leading_zeros 64 y) × (count_leading_zeros 64 y - 40 ≤ 23) × (count_leading_zeros 64 y - 40 ≡ lift_by y)
lifted_by y p h = go (leading_top 64 y p (lt_of_le_of_lt h (lit< tt)))
  where
    go : (j : ℕ) × (count_leading_zeros 64 y + suc j ≡ 64) × (2 ^ j ≤ y) × (y < 2 ^ suc j) → (40 ≤ count_leading_zeros 64 y) × (count_leading_zeros 64 y - 40 ≤ 23) × (count_leading_zeros 64 y - 40 ≡ lift_by y)
    go (j, e, l, u) =
        let few : j ≤ 23 = few_turns j y l (omega arith) in
        let k : count_leading_zeros 64 y - 40 ≡ 23 - j = omega arith in
        let top : 2 ^ suc j * 2 ^ (23 - j) ≡ 2 ^ 24 = powers (suc j) (23 - j) 24 (omega arith) in
        let lead : 2 ^ j * 2 ^ (23 - j) ≡ 2 ^ 23 = powers j (23 - j) 23 (omega arith) in
        (omega arith, omega arith, k ∙ lift_one y (23 - j) p (omega arith) (lt_of_lt_of_le (mul-lt-mul_of_pos_right u (pow_pos (23 - j))) (le_of_eq top)) (le_trans (le_of_eq (sym lead)) (mul-le-mul_right (2 ^ (23 - j)) l)))

pub lifts : (y : ℕ) → y ≤ 11796480 → Lifted y (y * 2 ^ lift_by y) (lift_by y)
lifts y h = go (eqb y 0) refl
  where
    go : (t : Bool) → eqb y 0 ≡ t → Lifted y (y * 2 ^ lift_by y) (lift_by y)
    go true e =
        let z : y ≡ 0 = eqb-true y 0 e in
        let k : lift_by y ≡ 131 = lift_zero y z in
        record { same = refl; less = rw (k, z) (lit< tt); few = omega arith; most = λ l. absurd (omega arith) }
    go false e =
        let p : 0 < y = (let w = eqb-false y 0 e in above y w) in
        let k : lift_by y ≡ 24 - size y = lift_some y p in
        let s : size y ≤ 24 = size-le y 24 (omega arith) in
        let n : 0 < size y = above (size y) (λ z. let w : y < 2 ^ 0 = (let x = size-lt y in rw z at x) in omega arith) in
        let a : 2 ^ (size y) * 2 ^ (24 - size y) ≡ 2 ^ 24 = powers (size y) (24 - size y) 24 (omega arith) in
        let b : 2 ^ (size y - 1) * 2 ^ (24 - size y) ≡ 2 ^ 23 = powers (size y - 1) (24 - size y) 23 (omega arith) in
        let m : y * 2 ^ lift_by y ≡ y * 2 ^ (24 - size y) = ap (λ (x : ℕ). y * 2 ^ x) k in
        record {
          same = refl;
          less = lt_of_le_of_lt (le_of_eq m) (lt_of_lt_of_le (mul-lt-mul_of_pos_right (size-lt y) (pow_pos (24 - size y))) (le_of_eq a));
          few = omega arith;
          most = λ l. le_trans (le_of_eq (sym b)) (le_trans (mul-le-mul_right (2 ^ (24 - size y)) (size_reaches y (size y - 1) (omega arith))) (le_of_eq (sym m)));
        }

pub lifted_most : (y m k : ℕ) → y ≤ 11796480 → y * 2 ^ k ≡ m → m ≤ 11796480 * 2 ^ k
lifted_most y m k h e = le_trans (le_of_eq (sym e)) (mul-le-mul_right (2 ^ k) h)

-- what is made of y on each way is `lift_by`'s
pub zero_lifted : (y : ℕ) → y ≡ 0 → (0 ≡ y * 2 ^ lift_by y) × (131 ≡ lift_by y)
zero_lifted y z = (sym (ap (λ (x : ℕ). x * 2 ^ lift_by y) z ∙ zero-mul (2 ^ lift_by y)), sym (lift_zero y z))

pub some_lifted : (y : ℕ) → (y ≡ 0 → ⊥) → y ≤ 11796480 → (y * 2 ^ (count_leading_zeros 64 y - 40) % 18446744073709551616 ≡ y * 2 ^ lift_by y) × (count_leading_zeros 64 y - 40 ≡ lift_by y)
some_lifted y z h =
    let b = lifted_by y (above y z) h in
    (shift_whole y (count_leading_zeros 64 y - 40) (omega arith) (omega (arith, b.1)) ∙ ap (λ (x : ℕ). y * 2 ^ x) b.2, b.2)

-- and fits
pub lifted_fits : (y m k : ℕ) → y ≤ 11796480 → (m ≡ y * 2 ^ lift_by y) × (k ≡ lift_by y) → (m < 2 ^ 24) × (m ≤ 11796480 * 2 ^ k) × (k ≤ 131)
lifted_fits y m k h e = let l = lifts y h in rw (e.0, e.1) (l.less, lifted_most y _ _ h refl, l.few)

pub lifted_same : (y m k n d : ℕ) → y * 2 ^ k ≡ m → n * 262144 ≡ y * d → n * (2 ^ k * 262144) ≡ m * d
lifted_same y m k n d e f = left n (2 ^ k) ∙ ap (λ (x : ℕ). x * 2 ^ k) f ∙ right y d (2 ^ k) ∙ ap (λ (x : ℕ). x * d) e
  where
    left : (n K : ℕ) → n * (K * 262144) ≡ n * 262144 * K
    left n K = omega arith

    right : (y d K : ℕ) → y * d * K ≡ y * K * d
    right y d K = omega arith

module _ (b n d : ℕ) (v : HasValue (of_bits binary32 b) false n d) where
  pub at_tiny : b / 8388608 ≡ 0 → n * (2 ^ 131 * 262144) ≡ b % 8388608 * d
  at_tiny e =
      let f : b % 8388608 ≡ b = omega arith in
      rw f (same (of_bits binary32 b) false n d b (2 ^ 149) v (few b (omega arith)))

  pub at_normal : 0 < b / 8388608 → b / 8388608 ≤ 132 → n * (2 ^ (132 - b / 8388608) * 262144) ≡ (b % 8388608 + 8388608) * d
  at_normal h l =
      let j = b / 8388608 - 1 in
      let q = b % 8388608 + 8388608 in
      let s = same (of_bits binary32 b) false n d (q * 2 ^ j) (2 ^ 149) v (normal b h (omega arith)) in
      cancel (n * (2 ^ (132 - b / 8388608) * 262144)) (q * d) (2 ^ j) (pow_pos j)
      (mul_assoc n (2 ^ (132 - b / 8388608) * 262144) (2 ^ j)
      ∙ ap (λ (x : ℕ). n * x) (mid (2 ^ (132 - b / 8388608)) (2 ^ j) ∙ ap (λ (x : ℕ). x * 262144) (powers (132 - b / 8388608) j 131 (omega arith))) ∙ s ∙ swap q (2 ^ j) d)
    where
      mid : (x y : ℕ) → x * 262144 * y ≡ x * y * 262144
      mid x y = omega arith

      swap : (x y z : ℕ) → x * y * z ≡ x * z * y
      swap x y z = omega arith

  pub at_large : 132 ≤ b / 8388608 → b < 2139095040 → n * 262144 ≡ (b % 8388608 + 8388608) * 2 ^ (b / 8388608 - 132) * d
  at_large h l =
      let i = b / 8388608 - 132 in
      let j = b / 8388608 - 1 in
      let q = b % 8388608 + 8388608 in
      let s = same (of_bits binary32 b) false n d (q * 2 ^ j) (2 ^ 149) v (normal b (omega arith) l) in
      cancel (n * 262144) (q * 2 ^ i * d) (2 ^ 131) (pow_pos 131)
      (mul_assoc n 262144 (2 ^ 131) ∙ s ∙ ap (λ (x : ℕ). q * x * d) (sym (powers i 131 j (omega arith))) ∙ shape q (2 ^ i) (2 ^ 131) d)
    where
      shape : (q x y d : ℕ) → q * (x * y) * d ≡ q * x * d * y
      shape q x y d = omega arith

-- ---- the parts of the half circle
pub y_range : (b y : ℕ) → 1110704128 < b → b ≤ 1127481344 → y ≡ (b % 8388608 + 8388608) * 2 ^ (b / 8388608 - 132) → (11796480 < y) × (y ≤ 47185920)
y_range b y h l e = go (b / 8388608 - 132) refl
  where
    go : (j : ℕ) → b / 8388608 - 132 ≡ j → (11796480 < y) × (y ≤ 47185920)
    go zero f = let g : y ≡ (b % 8388608 + 8388608) * 1 = e ∙ rw f in (omega arith, omega arith)
    go (suc zero) f = let g : y ≡ (b % 8388608 + 8388608) * 2 = e ∙ rw f in (omega arith, omega arith)
    go (suc (suc zero)) f = let g : y ≡ (b % 8388608 + 8388608) * 4 = e ∙ rw f in (omega arith, omega arith)
    go (suc (suc (suc j))) f = absurd (omega arith)

pub turned_small : (n d : ℕ) (p : Pair) → n ≤ 45 * d → SineOf false n d p.sine → CosineOf false n d p.cosine → Turned false n d p
turned_small n d p l s c =
    record {
      to45 = λ h. (s, c);
      to90 = λ h k. absurd (omega arith);
      to135 = λ h k. absurd (omega arith);
      to180 = λ h k. absurd (omega arith);
    }

flip_sine : (n d : ℕ) (r : Float) → SineOf false n d r → SineOf true n d (neg r)
unfolding neg
flip_sine n d nan h = h
flip_sine n d (inf t) h = h
flip_sine n d (fin t m e) h = (ap not h.0, h.1, h.2)

flip_cosine : (n d : ℕ) (r : Float) → CosineOf false n d r → CosineOf true n d (neg r)
unfolding neg
flip_cosine n d nan h = h
flip_cosine n d (inf t) h = h
flip_cosine n d (fin t m e) h = (ap not h.0, h.1, h.2)

-- the promise of `near`
abbrev pub Near : ℕ → Pair → Type 0
Near y p = (n d : ℕ) → 0 < d → n * 262144 ≡ y * d → SineOf false n d p.sine × CosineOf false n d p.cosine

module _ (n d y : ℕ) (g : 0 < d) (e : n * 262144 ≡ y * d) where
  most : (A : ℕ) → y ≤ A → n * 262144 ≤ A * d
  most A h = le_trans (le_of_eq e) (mul-le-mul_right d h)

  more : (A : ℕ) → A < y → A * d < n * 262144
  more A h = let x : (A + 1) * d ≤ y * d = mul-le-mul_right d (omega arith) in omega arith

  less_by : (A y' n' B : ℕ) → y' + y ≡ A → n' + n ≡ B * d → A ≡ B * 262144 → n' * 262144 ≡ y' * d
  less_by A y' n' B h i j = let x : (y' + y) * d ≡ A * d = ap (λ (z : ℕ). z * d) h in let w : A * d ≡ B * 262144 * d = ap (λ (z : ℕ). z * d) j in omega arith

  more_by : (A y' n' B : ℕ) → y' + A ≡ y → n' + B * d ≡ n → A ≡ B * 262144 → n' * 262144 ≡ y' * d
  more_by A y' n' B h i j = let x : (y' + A) * d ≡ y * d = ap (λ (z : ℕ). z * d) h in let w : A * d ≡ B * 262144 * d = ap (λ (z : ℕ). z * d) j in omega arith

  pub turned_90 : (p : Pair) (r : Pair) → r.sine ≡ p.cosine → r.cosine ≡ p.sine → 11796480 < y → y ≤ 23592960 → Near (23592960 - y) p → Turned false n d r
  turned_90 p r rs rc l h f =
      let a = more 11796480 l in
      let b = most 23592960 h in
      let to : n ≤ 90 * d = omega arith in
      let t = f (90 * d - n) d g (less_by 23592960 (23592960 - y) (90 * d - n) 90 (omega arith) (omega arith) refl) in
      record {
        to45 = λ k. absurd (omega arith);
        to90 = λ k m. (rw rs t.1, rw rc t.0);
        to135 = λ k m. absurd (omega arith);
        to180 = λ k m. absurd (omega arith);
      }

  pub turned_135 : (p : Pair) (r : Pair) → r.sine ≡ p.cosine → r.cosine ≡ neg p.sine → 23592960 < y → y ≤ 35389440 → Near (y - 23592960) p → Turned false n d r
  turned_135 p r rs rc l h f =
      let a = more 23592960 l in
      let b = most 35389440 h in
      let from : 90 * d < n = omega arith in
      let t = f (n - 90 * d) d g (more_by 23592960 (y - 23592960) (n - 90 * d) 90 (omega arith) (omega arith) refl) in
      record {
        to45 = λ k. absurd (omega arith);
        to90 = λ k m. absurd (omega arith);
        to135 = λ k m. (rw rs t.1, rw rc (flip_sine (n - 90 * d) d p.sine t.0));
        to180 = λ k m. absurd (omega arith);
      }

  pub turned_180 : (p : Pair) (r : Pair) → r.sine ≡ p.sine → r.cosine ≡ neg p.cosine → 35389440 < y → y ≤ 47185920 → Near (47185920 - y) p → Turned false n d r
  turned_180 p r rs rc l h f =
      let a = more 35389440 l in
      let b = most 47185920 h in
      let to : n ≤ 180 * d = omega arith in
      let t = f (180 * d - n) d g (less_by 47185920 (47185920 - y) (180 * d - n) 180 (omega arith) (omega arith) refl) in
      record {
        to45 = λ k. absurd (omega arith);
        to90 = λ k m. absurd (omega arith);
        to135 = λ k m. absurd (omega arith);
        to180 = λ k m. (rw rs t.0, rw rc (flip_cosine (180 * d - n) d p.cosine t.1));
      }

-- the angle below zero
pub turned_back : (n d : ℕ) (p r : Pair) → r.sine ≡ neg p.sine → r.cosine ≡ p.cosine → Turned false n d p → Turned true n d r
turned_back n d p r rs rc t =
    record {
      to45 = λ k. (rw rs (flip_sine n d p.sine (t.to45 k).0), rw rc (t.to45 k).1);
      to90 = λ k m. (rw rs (flip_cosine (90 * d - n) d p.sine (t.to90 k m).0), rw rc (t.to90 k m).1);
      to135 = λ k m. (rw rs (flip_cosine (n - 90 * d) d p.sine (t.to135 k m).0), rw rc (t.to135 k m).1);
      to180 = λ k m. (rw rs (flip_sine (180 * d - n) d p.sine (t.to180 k m).0), rw rc (t.to180 k m).1);
    }
