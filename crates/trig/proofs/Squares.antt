-- The code's square of the angle against the exact one. Assumes nothing.
use mathlib.Core.Path.{◌≡◌, refl, sym, ap, ◌∙◌, subst}
use Prim.Native.Nat.{ℕ, ◌+◌, ◌*◌, ◌/◌, ◌^◌, ◌≤◌, ◌<◌}
use native.Mathlib.Nat.{le_trans, le_of_eq, le_of_lt, mul_assoc, mul-pos, mul-le-mul, mul-le-mul_left, mul-le-mul_right, div-mul-le_self, lt-div-mul-add, div-le_of_le-mul, le_of_mul-le-mul_right}
use native.Mathlib.Omega.{arith}
use lib.Dec.{lit≤}
use lib.Pow.{pow_pos}
use Rattle.trig.specs.Circle.{pi_low, pi_high, pi_over}
use Rattle.trig.specs.Fixed.{square_of}
use Rattle.trig.proofs.Sums.{Square}
use Rattle.trig.proofs.Chains.{scale}

-- from a ≤ x / K to squares, and back
sq : (a K x : ℕ) → a * K ≤ x → a * a * (K * K) ≤ x * x
sq a K x h = le_trans (le_of_eq (shape a K)) (mul-le-mul h h)
  where
    shape : (a K : ℕ) → a * a * (K * K) ≡ a * K * (a * K)
    shape a K = omega arith

-- m * d = n * (K * 2 ^ 18), squared
same_squares : (m d n K : ℕ) → n * (K * 262144) ≡ m * d → m * m * (d * d) ≡ n * n * (K * K) * 68719476736
same_squares m d n K e = shape m d ∙ sym (ap (λ (x : ℕ). x * x) e) ∙ shape' n K
  where
    shape : (m d : ℕ) → m * m * (d * d) ≡ m * d * (m * d)
    shape m d = omega arith

    shape' : (n K : ℕ) → n * (K * 262144) * (n * (K * 262144)) ≡ n * n * (K * K) * 68719476736
    shape' n K = omega arith

module _ (m k n d : ℕ) (e : n * (2 ^ k * 262144) ≡ m * d) (h : m ≤ 11796480 * 2 ^ k) (g : 0 < d) where
  pub a : ℕ
  a = m * 64 / 2 ^ k

  pub b : ℕ
  b = a * a / 134217728

  pub z : ℕ
  z = b * 2679443160 / 4294967296

  pub z_is : square_of m k ≡ z
  unfolding square_of a b z
  z_is = refl

  a_low : a * 2 ^ k ≤ m * 64
  unfolding a
  a_low = div-mul-le_self (m * 64) (2 ^ k)

  a_high : m * 64 ≤ (a + 1) * 2 ^ k
  unfolding a
  a_high = shape (m * 64 / 2 ^ k) (2 ^ k) (m * 64) (lt-div-mul-add {a = m * 64} {b = 2 ^ k} (pow_pos k))
    where
      shape : (t b a : ℕ) → a < t * b + b → a ≤ (t + 1) * b
      shape t b a h = omega arith

  a_most : a ≤ 754974720
  unfolding a
  a_most = div-le_of_le-mul (2 ^ k) (shape m (2 ^ k) h)
    where
      shape : (m K : ℕ) → m ≤ 11796480 * K → m * 64 ≤ K * 754974720
      shape m K h = omega arith

  b_low : b * 134217728 ≤ a * a
  unfolding b
  b_low = omega arith

  b_high : a * a ≤ (b + 1) * 134217728
  unfolding b
  b_high = omega arith

  z_low : z * 4294967296 ≤ b * 2679443160
  unfolding z
  z_low = omega arith

  z_high : b * 2679443160 ≤ (z + 1) * 4294967296
  unfolding z
  z_high = omega arith

  b_most : b ≤ 4294967295
  b_most = let x : a * a ≤ 754974720 * 754974720 = mul-le-mul a_most a_most in let y = b_low in omega arith

  pub z_most : z < 4294967296
  z_most = let x = b_most in let y = z_low in omega arith

  -- z * d * d * 2 ^ 11 ≤ C * n * n
  pub z_from_above : z * (d * d) * 2048 ≤ 2679443160 * (n * n)
  z_from_above = le_of_mul-le-mul_right (go (2 ^ k * 2 ^ k) (a * a) b z (m * m) (d * d) (n * n) z_low b_low (le_trans (sq a (2 ^ k) (m * 64) a_low) (le_of_eq (four m))) (same_squares m d n (2 ^ k) e)) (mul-pos (pow_pos k) (pow_pos k))
    where
      four : (m : ℕ) → m * 64 * (m * 64) ≡ m * m * 4096
      four m = omega arith

      go : (K A b z M D N : ℕ) → z * 4294967296 ≤ b * 2679443160 → b * 134217728 ≤ A → A * K ≤ M * 4096 → M * D ≡ N * K * 68719476736 → z * D * 2048 * K ≤ 2679443160 * N * K
      go K A b z M D N h i j e =
          let x : z * 576460752303423488 ≤ A * 2679443160 = omega arith in
          let y : z * 576460752303423488 * (K * D) ≤ A * 2679443160 * (K * D) = mul-le-mul_right (K * D) x in
          let w : A * K * (D * 2679443160) ≤ M * 4096 * (D * 2679443160) = mul-le-mul_right (D * 2679443160) j in
          omega arith

  pub z_from_below : 2679443161 * (n * n) ≤ (z + 11) * (d * d) * 2048
  z_from_below = le_of_mul-le-mul_right (go (2 ^ k * 2 ^ k) a b z (m * m) (d * d) (n * n) z_high b_high a_most b_most (le_trans (le_of_eq (four m)) (le_trans (mul-le-mul a_high a_high) (le_of_eq (shape a (2 ^ k))))) (same_squares m d n (2 ^ k) e)) (mul-pos (pow_pos k) (pow_pos k))
    where
      four : (m : ℕ) → m * m * 4096 ≡ m * 64 * (m * 64)
      four m = omega arith

      shape : (a K : ℕ) → (a + 1) * K * ((a + 1) * K) ≡ (a * a + 2 * a + 1) * (K * K)
      shape a K = omega arith

      go : (K a b z M D N : ℕ) → b * 2679443160 ≤ (z + 1) * 4294967296 → a * a ≤ (b + 1) * 134217728 → a ≤ 754974720 → b ≤ 4294967295 → M * 4096 ≤ (a * a + 2 * a + 1) * K → M * D ≡ N * K * 68719476736
          → 2679443161 * N * K ≤ (z + 11) * D * 2048 * K
      go K a b z M D N h i l l' j e =
          let x : (a * a + 2 * a + 1) * 2679443161 ≤ (z + 11) * 576460752303423488 = omega arith in
          let y : (a * a + 2 * a + 1) * 2679443161 * (K * D) ≤ (z + 11) * 576460752303423488 * (K * D) = mul-le-mul_right (K * D) x in
          let w : M * 4096 * (D * 2679443161) ≤ (a * a + 2 * a + 1) * K * (D * 2679443161) = mul-le-mul_right (D * 2679443161) j in
          last K (a * a + 2 * a + 1) z M D N y w e
        where
          last : (K A z M D N : ℕ) → A * 2679443161 * (K * D) ≤ (z + 11) * 576460752303423488 * (K * D) → M * 4096 * (D * 2679443161) ≤ A * K * (D * 2679443161) → M * D ≡ N * K * 68719476736 → 2679443161 * N * K ≤ (z + 11) * D * 2048 * K
          last K A z M D N y w e = omega arith

  pub n_most : n ≤ 45 * d
  n_most = le_of_mul-le-mul_right (go (2 ^ k) (le_trans (le_of_eq e) (mul-le-mul_right d h))) (pow_pos k)
    where
      go : (K : ℕ) → n * (K * 262144) ≤ 11796480 * K * d → n * K ≤ 45 * d * K
      go K x = omega arith

  -- the same at a value p of pi, with C / 2 ^ 43 ≤ (p / (180 * pi_over)) ^ 2 ≤ (C + 1) / 2 ^ 43
  pub square_at_lem : (p : ℕ) → p * 45 ≤ pi_over * 180 → 2679443160 * (pi_over * 180 * (pi_over * 180)) ≤ p * p * 8796093022208 → p * p * 8796093022208 ≤ 2679443161 * (pi_over * 180 * (pi_over * 180))
      → Square scale (square_of m k) (p * n * (p * n)) (pi_over * 180 * d * (pi_over * 180 * d))
  square_at_lem p t l r =
      record {
        most = subst (λ (x : ℕ). x ≤ 4294967296) (sym z_is) (le_of_lt z_most);
        less = mul-le-mul_left 1 (mul-le-mul less' less');
        high = subst (λ (x : ℕ). x * (pi_over * 180 * d * (pi_over * 180 * d)) ≤ p * n * (p * n) * 4294967296) (sym z_is) (high' z (pi_over * 180) z_from_above l);
        low = subst (λ (x : ℕ). p * n * (p * n) * 4294967296 ≤ (x + 11) * (pi_over * 180 * d * (pi_over * 180 * d))) (sym z_is) (low' z (pi_over * 180) z_from_below r);
      }
    where
      less' : p * n ≤ pi_over * 180 * d
      less' = le_trans (mul-le-mul_left p n_most) (le_trans (le_of_eq (sym (mul_assoc p 45 d))) (mul-le-mul_right d t))

      high' : (z Q : ℕ) → z * (d * d) * 2048 ≤ 2679443160 * (n * n) → 2679443160 * (Q * Q) ≤ p * p * 8796093022208 → z * (Q * d * (Q * d)) ≤ p * n * (p * n) * 4294967296
      high' z Q x y = two z (d * d) (n * n) (Q * Q) (p * p) (shape z Q) shape' (mul-le-mul_right (Q * Q) x) (mul-le-mul_right (n * n) y)
        where
          shape : (z Q : ℕ) → z * (Q * d * (Q * d)) ≡ z * (d * d) * (Q * Q)
          shape z Q = omega arith

          shape' : p * n * (p * n) ≡ p * p * (n * n)
          shape' = omega arith

          two : (z D N Q P : ℕ) {x y : ℕ} → x ≡ z * D * Q → y ≡ P * N → z * D * 2048 * Q ≤ 2679443160 * N * Q → 2679443160 * Q * N ≤ P * 8796093022208 * N → x ≤ y * 4294967296
          two z D N Q P e f x y = omega arith

      low' : (z Q : ℕ) → 2679443161 * (n * n) ≤ (z + 11) * (d * d) * 2048 → p * p * 8796093022208 ≤ 2679443161 * (Q * Q) → p * n * (p * n) * 4294967296 ≤ (z + 11) * (Q * d * (Q * d))
      low' z Q x y = two (z + 11) (d * d) (n * n) (Q * Q) (p * p) (shape (z + 11) Q) shape' (mul-le-mul_right (Q * Q) x) (mul-le-mul_right (n * n) y)
        where
          shape : (z Q : ℕ) → z * (Q * d * (Q * d)) ≡ z * (d * d) * (Q * Q)
          shape z Q = omega arith

          shape' : p * n * (p * n) ≡ p * p * (n * n)
          shape' = omega arith

          two : (z D N Q P : ℕ) {x y : ℕ} → x ≡ z * D * Q → y ≡ P * N → 2679443161 * N * Q ≤ z * D * 2048 * Q → P * 8796093022208 * N ≤ 2679443161 * Q * N → y * 4294967296 ≤ x
          two z D N Q P e f x y = omega arith

  pub at_low : Square scale (square_of m k) (pi_low * n * (pi_low * n)) (pi_over * 180 * d * (pi_over * 180 * d))
  at_low = square_at_lem pi_low (lit≤ tt) (lit≤ tt) (lit≤ tt)

  pub at_high : Square scale (square_of m k) (pi_high * n * (pi_high * n)) (pi_over * 180 * d * (pi_over * 180 * d))
  at_high = square_at_lem pi_high (lit≤ tt) (lit≤ tt) (lit≤ tt)
