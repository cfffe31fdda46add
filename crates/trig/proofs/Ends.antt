-- The last steps: the code's answers are within 2 ^ -22 of the exact sums. Assumes nothing.
use mathlib.Core.Path.{◌≡◌, ap}
use Prim.Native.Nat.{ℕ, ◌+◌, ◌*◌, ◌/◌, ◌^◌, ◌≤◌, ◌<◌}
use native.Mathlib.Nat.{le_refl, le_trans, le_of_eq, mul-le-mul, mul-le-mul_left, mul-le-mul_right}
use native.Mathlib.Omega.{arith}
use lib.Dec.{lit≤}
use Rattle.trig.specs.Circle.{circular, fine, pi_low, pi_high, pi_over, IsSine, IsCosine}
use Rattle.trig.specs.Fixed.{sine_part, cosine_part, square_of, sine_long, cosine_top}
use Rattle.trig.proofs.Sums.{sum_most}
use Rattle.trig.proofs.Chains.{sine_under, sine_over, cosine_under, cosine_over}
use Rattle.trig.proofs.Squares.{at_low, at_high, n_most}

-- ---- the cosine
cosine_above : (h q t b : ℕ) → q * 256 ≤ h + 128 → h * b ≤ t * 4294967296 + 9 * b → fine * q * b ≤ (fine * t + b) * 2 ^ 24
cosine_above h q t b x y = let w : q * 256 * b ≤ (h + 128) * b = mul-le-mul_right b x in omega arith

cosine_below : (h q t b : ℕ) → h ≤ q * 256 + 128 → t * 4294967296 ≤ (h + 11) * b → fine * 2 ^ 24 * t ≤ (fine * q + 2 ^ 24) * b
cosine_below h q t b x y = let w : h * b ≤ (q * 256 + 128) * b = mul-le-mul_right b x in omega arith

-- ---- the sine: A units of 1 / (K * 2 ^ 24), for m * F units of 1 / (K * 2 ^ 63)
sine_above : (A m F h K n d p Q t b : ℕ) → A * 549755813888 ≤ m * F + K * 549755813888 → F * 16777216 ≤ 2398762259 * h → h * b ≤ t * 4294967296 + 5 * b → t ≤ b
    → 2398762259 * Q ≤ p * 137438953472 + Q → n * (K * 262144) ≡ m * d → n ≤ 45 * d
    → fine * A * (Q * d * b) ≤ (fine * (p * n * t) + Q * d * b) * (K * 2 ^ 24)
sine_above A m F h K n d p Q t b x y w l c e s =
    let one : A * 9223372036854775808 ≤ m * (2398762259 * h) + K * 9223372036854775808 = from_long A m F h K x (mul-le-mul_left m y) in
    let two : A * 9223372036854775808 * b ≤ m * 2398762259 * (t * 4294967296 + 5 * b) + K * 9223372036854775808 * b = times_b A m h b t K (mul-le-mul_right b one) (mul-le-mul_left (m * 2398762259) w) in
    let three : A * 9223372036854775808 * b * (Q * d) ≤ n * (K * 262144) * (2398762259 * Q) * (t * 4294967296 + 5 * b) + K * 9223372036854775808 * b * (Q * d)
    = by_e A m b t (n * (K * 262144)) e (mul-le-mul_right (Q * d) two) in
    let four : n * (K * 262144) * t * (2398762259 * Q) ≤ n * (K * 262144) * t * (p * 137438953472 + Q) = mul-le-mul_left (n * (K * 262144) * t) c in
    let five : n * (K * b * Q) ≤ 45 * d * (K * b * Q) = mul-le-mul_right (K * b * Q) s in
    let six : n * t * (K * Q) ≤ 45 * d * b * (K * Q) = mul-le-mul_right (K * Q) (mul-le-mul s l) in
    finish A b t n K d p Q three four five six
  where
    from_long : (A m F h K : ℕ) → A * 549755813888 ≤ m * F + K * 549755813888 → m * (F * 16777216) ≤ m * (2398762259 * h) → A * 9223372036854775808 ≤ m * (2398762259 * h) + K * 9223372036854775808
    from_long A m F h K x y = omega arith

    times_b : (A m h b t K : ℕ) → A * 9223372036854775808 * b ≤ (m * (2398762259 * h) + K * 9223372036854775808) * b → m * 2398762259 * (h * b) ≤ m * 2398762259 * (t * 4294967296 + 5 * b) → A * 9223372036854775808 * b ≤ m * 2398762259 * (t * 4294967296 + 5 * b) + K * 9223372036854775808 * b
    times_b A m h b t K x y = omega arith

    by_e : (A m b t y : ℕ) → y ≡ m * d → A * 9223372036854775808 * b * (Q * d) ≤ (m * 2398762259 * (t * 4294967296 + 5 * b) + K * 9223372036854775808 * b) * (Q * d) → A * 9223372036854775808 * b * (Q * d) ≤ y * (2398762259 * Q) * (t * 4294967296 + 5 * b) + K * 9223372036854775808 * b * (Q * d)
    by_e A m b t y e x = rw e (le_trans x (le_of_eq (shape m d Q b t K)))
      where
        shape : (m d Q b t K : ℕ) → (m * 2398762259 * (t * 4294967296 + 5 * b) + K * 9223372036854775808 * b) * (Q * d) ≡ m * d * (2398762259 * Q) * (t * 4294967296 + 5 * b) + K * 9223372036854775808 * b * (Q * d)
        shape m d Q b t K = omega arith

    finish : (A b t n K d p Q : ℕ) → A * 9223372036854775808 * b * (Q * d) ≤ n * (K * 262144) * (2398762259 * Q) * (t * 4294967296 + 5 * b) + K * 9223372036854775808 * b * (Q * d)
        → n * (K * 262144) * t * (2398762259 * Q) ≤ n * (K * 262144) * t * (p * 137438953472 + Q) → n * (K * b * Q) ≤ 45 * d * (K * b * Q) → n * t * (K * Q) ≤ 45 * d * b * (K * Q)
        → fine * A * (Q * d * b) ≤ (fine * (p * n * t) + Q * d * b) * (K * 2 ^ 24)
    finish A b t n K d p Q a c e f = named (A * b * Q * d) (n * K * t * Q) (n * K * b * Q) (d * K * b * Q) (d * K * b * Q) (n * K * t * p) (omega arith) (omega arith) (omega arith) (omega arith) (le_refl _) (omega arith) (omega arith)
      where
        named : (x a b g d p : ℕ) {y z : ℕ} → x * 9223372036854775808 ≤ 1125899906842624 * (2398762259 * a) + 1310720 * (2398762259 * b) + 9223372036854775808 * d → 2398762259 * a ≤ 137438953472 * p + a → a ≤ 45 * g → b ≤ 45 * g → d ≤ g
            → y ≡ 4194304 * x → z ≡ 70368744177664 * p + 16777216 * g → y ≤ z
        named x a b g d p h i j k l e f = last x (2398762259 * a) (2398762259 * b) a g d p h i (small b g k) j l e f
          where
            small : (b g : ℕ) → b ≤ 45 * g → 2398762259 * b ≤ 137438953472 * g
            small b g h = omega arith

            last : (x c l a g d p : ℕ) {y z : ℕ} → x * 9223372036854775808 ≤ 1125899906842624 * c + 1310720 * l + 9223372036854775808 * d → c ≤ 137438953472 * p + a → l ≤ 137438953472 * g → a ≤ 45 * g → d ≤ g
                → y ≡ 4194304 * x → z ≡ 70368744177664 * p + 16777216 * g → y ≤ z
            last x c l a g d p h i j k m e f = omega arith

sine_below : (A m F h K n d p Q t b : ℕ) → m * F ≤ A * 549755813888 + K * 549755813888 → 2398762259 * h ≤ (F + 1) * 16777216 → t * 4294967296 ≤ (h + 2) * b
    → p * 137438953472 ≤ 2398762259 * Q → n * (K * 262144) ≡ m * d → m ≤ 11796480 * K
    → fine * (K * 2 ^ 24) * (p * n * t) ≤ (fine * A + K * 2 ^ 24) * (Q * d * b)
sine_below A m F h K n d p Q t b x y w c e s =
    let one : p * 137438953472 * (n * (K * 262144) * t) ≤ 2398762259 * Q * (n * (K * 262144) * t) = mul-le-mul_right (n * (K * 262144) * t) c in
    let two : m * d * 2398762259 * Q * (t * 4294967296) ≤ m * d * 2398762259 * Q * ((h + 2) * b) = mul-le-mul_left (m * d * 2398762259 * Q) w in
    let three : 2398762259 * h * (m * (d * Q * b)) ≤ (F + 1) * 16777216 * (m * (d * Q * b)) = mul-le-mul_right (m * (d * Q * b)) y in
    let four : m * F * (d * Q * b) ≤ (A * 549755813888 + K * 549755813888) * (d * Q * b) = mul-le-mul_right (d * Q * b) x in
    let five : m * (d * Q * b) ≤ 11796480 * K * (d * Q * b) = mul-le-mul_right (d * Q * b) s in
    let seven : n * (K * 262144) * (2398762259 * Q * t) ≡ m * d * (2398762259 * Q * t) = ap (λ (y : ℕ). y * (2398762259 * Q * t)) e in
    finish A m F h K n d p Q t b one two three four five seven
  where
    finish : (A m F h K n d p Q t b : ℕ) → p * 137438953472 * (n * (K * 262144) * t) ≤ 2398762259 * Q * (n * (K * 262144) * t)
        → m * d * 2398762259 * Q * (t * 4294967296) ≤ m * d * 2398762259 * Q * ((h + 2) * b)
        → 2398762259 * h * (m * (d * Q * b)) ≤ (F + 1) * 16777216 * (m * (d * Q * b))
        → m * F * (d * Q * b) ≤ (A * 549755813888 + K * 549755813888) * (d * Q * b)
        → m * (d * Q * b) ≤ 11796480 * K * (d * Q * b)
        → n * (K * 262144) * (2398762259 * Q * t) ≡ m * d * (2398762259 * Q * t)
        → fine * (K * 2 ^ 24) * (p * n * t) ≤ (fine * A + K * 2 ^ 24) * (Q * d * b)
    finish A m F h K n d p Q t b a c e f g j = omega arith

module _ (m k n d : ℕ) (e : n * (2 ^ k * 262144) ≡ m * d) (h : m ≤ 11796480 * 2 ^ k) (g : 0 < d) where
  pub is_cosine : IsCosine n d (cosine_top m k) (2 ^ 24)
  unfolding cosine_top
  is_cosine =
      record {
        above = cosine_above (cosine_part (square_of m k)) _ _ _ (omega arith) (cosine_under _ _ _ (at_high m k n d e h g));
        below = cosine_below (cosine_part (square_of m k)) _ _ _ (omega arith) (cosine_over _ _ _ (at_low m k n d e h g));
      }

  -- A is the long product in units of 1 / (2 ^ k * 2 ^ 24), up to 2 ^ k of these
  pub is_sine : (A : ℕ) → A * 549755813888 ≤ sine_long m k + 2 ^ k * 549755813888 → sine_long m k ≤ A * 549755813888 + 2 ^ k * 549755813888 → IsSine n d A (2 ^ k * 2 ^ 24)
  unfolding sine_long
  is_sine A x y =
      record {
        above = sine_above A m (2398762259 * sine_part (square_of m k) / 16777216) (sine_part (square_of m k)) (2 ^ k) n d pi_low (pi_over * 180) _ _ x (omega arith) (sine_under _ _ _ (at_low m k n d e h g)) (sum_most circular 5 1 _ _) (lit≤ tt) e (n_most m k n d e h g);
        below = sine_below A m (2398762259 * sine_part (square_of m k) / 16777216) (sine_part (square_of m k)) (2 ^ k) n d pi_high (pi_over * 180) _ _ y (omega arith) (sine_over _ _ _ (at_high m k n d e h g)) (lit≤ tt) e h;
      }
