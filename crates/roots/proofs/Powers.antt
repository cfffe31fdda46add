-- Products with powers of two. Assumes nothing.
use mathlib.Core.Path.{◌≡◌, sym, ap, ◌∙◌}
use Prim.Native.Nat.{ℕ, suc, ◌+◌, ◌-◌, ◌*◌, ◌/◌, ◌%◌, ◌^◌, ◌≤◌, ◌<◌}
use native.Mathlib.Nat.{mul-le-mul_right, mul-lt-mul_of_pos_right, add-mul, mul_assoc, mod-eq_of_lt, lt_of_lt_of_le, div-eq_of_eq-mul_left}
use native.Mathlib.Omega.{arith}
use lib.Pow.{pow_mono, pow_pos, pow-add}
use lib.Count.{count_leading_zeros, leading_top}
use lib.Dec.{lit≤}
use lib.Ieee.{size}
use lib.Ieee.Digits.{size-lt, size-le, size_reaches}
use Rattle.roots.specs.Parts.{Lifted}

-- ---- t's leading digit brought to the 24th place: by as many places as zeros stand before it, of 32, less 8
-- in the code's words
abbrev pub up_by : ℕ → ℕ
up_by t = count_leading_zeros 32 t - 8

pub lifted_is : (t : ℕ) → 0 < t → t < 2 ^ 23 → (8 ≤ count_leading_zeros 32 t) × Lifted t (t * 2 ^ up_by t % 4294967296) (65 - up_by t)
lifted_is t p h = go (leading_top 32 t p (omega arith))
  where
    go : (j : ℕ) × (count_leading_zeros 32 t + suc j ≡ 32) × (2 ^ j ≤ t) × (t < 2 ^ suc j) → (8 ≤ count_leading_zeros 32 t) × Lifted t (t * 2 ^ up_by t % 4294967296) (65 - up_by t)
    go (j, e, l, u) =
        let large : 23 ≤ j → ⊥ = λ m. (let a : 2 ^ 23 ≤ 2 ^ j = pow_mono m in omega arith) in
        let few : j ≤ 22 = omega arith in
        let k : up_by t ≡ 23 - j = omega arith in
        let g : j + (23 - j) ≡ 23 = omega arith in
        let i : suc j + (23 - j) ≡ 24 = omega arith in
        let a : 2 ^ j * 2 ^ (23 - j) ≡ 2 ^ 23 = sym (pow-add 2 j (23 - j)) ∙ ap (λ (z : ℕ). 2 ^ z) g in
        let b : 2 ^ suc j * 2 ^ (23 - j) ≡ 2 ^ 24 = sym (pow-add 2 (suc j) (23 - j)) ∙ ap (λ (z : ℕ). 2 ^ z) i in
        let low : 2 ^ j * 2 ^ (23 - j) ≤ t * 2 ^ (23 - j) = mul-le-mul_right (2 ^ (23 - j)) l in
        let high : t * 2 ^ (23 - j) < 2 ^ suc j * 2 ^ (23 - j) = mul-lt-mul_of_pos_right u (pow_pos (23 - j)) in
        let most : t * 2 ^ (23 - j) < 2 ^ 24 = rw b at high in
        let whole : t * 2 ^ up_by t % 4294967296 ≡ t * 2 ^ (23 - j) = ap (λ (z : ℕ). t * 2 ^ z % 4294967296) k ∙ mod-eq_of_lt (lt_of_lt_of_le most (lit≤ tt)) in
        let f : (23 - j) + (65 - up_by t) ≡ 65 = omega arith in (
          omega arith,
          record {
            least = omega arith;
            most = rw whole most;
            from = omega arith;
            to = omega arith;
            same = rw whole (ap (λ (z : ℕ). t * 2 ^ z) (sym f) ∙ ap (λ (z : ℕ). t * z) (pow-add 2 (23 - j) (65 - up_by t)) ∙ sym (mul_assoc t (2 ^ (23 - j)) (2 ^ (65 - up_by t))));
          },
        )

-- ---- how many digits n has, for n * 2 ^ 65 ≡ m * 2 ^ f and m of 24 digits: f - 41
module _ (n m g : ℕ) (least : 2 ^ 23 ≤ m) (most : m < 2 ^ 24) (same : n * 2 ^ 65 ≡ m * 2 ^ (g + 42)) where
  digits_low : 2 ^ g ≤ n
  digits_low =
      let a : 2 ^ 23 * 2 ^ (g + 42) ≤ m * 2 ^ (g + 42) = mul-le-mul_right (2 ^ (g + 42)) least in
      omega (arith, pow-add 2 g 42)

  digits_high : n < 2 ^ (g + 1)
  digits_high =
      let a : (m + 1) * 2 ^ (g + 42) ≤ 2 ^ 24 * 2 ^ (g + 42) = mul-le-mul_right (2 ^ (g + 42)) (omega arith) in
      omega (arith, pow-add 2 g 42, add-mul m 1 (2 ^ (g + 42)), pow_pos g, pow-add 2 g 1)

  pub digits : size n ≡ g + 1
  digits =
      let a : size n ≤ g + 1 = size-le n (g + 1) digits_high in
      let b : size n ≤ g → ⊥ = λ h. omega (arith, size-lt n, digits_low, pow_mono h) in
      omega arith

-- n * 2 ^ 149 is m with i + k digits put after it, so without its last k digits it is m with i of them
pub placed : (n m f i k : ℕ) → n * 2 ^ 65 ≡ m * 2 ^ f → f + 84 ≡ i + k → n * 2 ^ 149 ≡ m * 2 ^ i * 2 ^ k
placed n m f i k e h =
    let a : n * 2 ^ 149 ≡ m * 2 ^ f * 2 ^ 84 = sym (mul_assoc n (2 ^ 65) (2 ^ 84)) ∙ ap (λ (z : ℕ). z * 2 ^ 84) e in
    let b : m * 2 ^ f * 2 ^ 84 ≡ m * 2 ^ (f + 84) = rw (pow-add 2 f 84, mul_assoc) in
    let d : m * 2 ^ (i + k) ≡ m * 2 ^ i * 2 ^ k = rw (pow-add 2 i k, mul_assoc) in
    a ∙ b ∙ ap (λ (z : ℕ). m * 2 ^ z) h ∙ d

pub places : (n m f i k : ℕ) → n * 2 ^ 65 ≡ m * 2 ^ f → f + 84 ≡ i + k → n * 2 ^ 149 / 2 ^ k ≡ m * 2 ^ i
places n m f i k e h = div-eq_of_eq-mul_left (pow_pos k) (placed n m f i k e h)

-- ---- every m * 2 ^ k has its leading digit at the 24th place of some M
module _ (n m k : ℕ) (is : n ≡ m * 2 ^ k) (some : 0 < m) (few : m < 2 ^ 24) (high : k ≤ 253) where
  one_digit : 0 < size m
  one_digit = let a : size m ≤ 0 → ⊥ = λ h. omega (arith, size-lt m, pow_mono h) in omega arith

  at_most : size m ≤ 24
  at_most = size-le m 24 few

  abbrev pub M : ℕ
  M = m * 2 ^ (24 - size m)

  abbrev pub F : ℕ
  F = k + 65 - (24 - size m)

  pub lift : Lifted n M F
  lift =
      let o = one_digit in
      let t = at_most in
      let a : 2 ^ (size m - 1) * 2 ^ (24 - size m) ≤ m * 2 ^ (24 - size m) = mul-le-mul_right (2 ^ (24 - size m)) (size_reaches m (size m - 1) (omega arith)) in
      let b : (m + 1) * 2 ^ (24 - size m) ≤ 2 ^ size m * 2 ^ (24 - size m) = mul-le-mul_right (2 ^ (24 - size m)) (omega (arith, size-lt m)) in
      let e : (size m - 1) + (24 - size m) ≡ 23 = omega arith in
      let g : size m + (24 - size m) ≡ 24 = omega arith in
      let i : (24 - size m) + (k + 65 - (24 - size m)) ≡ k + 65 = omega arith in
      record {
        least = omega (arith, a, pow-add 2 (size m - 1) (24 - size m), ap (λ (z : ℕ). 2 ^ z) e);
        most = omega (arith, b, add-mul m 1 (2 ^ (24 - size m)), pow_pos (24 - size m), pow-add 2 (size m) (24 - size m), ap (λ (z : ℕ). 2 ^ z) g);
        from = omega arith;
        to = omega arith;
        same = ap (λ (z : ℕ). z * 2 ^ 65) is ∙ mul_assoc m (2 ^ k) (2 ^ 65) ∙ ap (λ (z : ℕ). m * z) (sym (pow-add 2 k 65) ∙ ap (λ (z : ℕ). 2 ^ z) (sym i) ∙ pow-add 2 (24 - size m) (k + 65 - (24 - size m))) ∙ sym (mul_assoc m (2 ^ (24 - size m)) (2 ^ (k + 65 - (24 - size m))));
      }
