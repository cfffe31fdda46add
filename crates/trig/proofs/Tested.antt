-- The float part of the circle test: two floats whose exact squares add to 1 within 2 ^ -21 pass it, three roundings and all. Assumes nothing.
use mathlib.Core.Path.{◌≡◌, refl, ap₂, ◌∙◌}
use Prim.Native.Nat.{ℕ, ◌+◌, ◌*◌, ◌^◌, ◌≤◌, ◌<◌}
use native.Mathlib.Nat.{lt_of_le_of_lt, mul-pos, mul-le-mul_right, mul-lt-mul_of_pos_right, le_of_mul-le-mul_right}
use native.Mathlib.Omega.{arith}
use mathlib.Core.Bool.{Bool, false, ◌&&◌}
use lib.Dec.{T, lit≤, lit<}
use lib.Pow.{pow_pos}
use lib.Ieee.{Float, nan, inf, fin, binary32, round, add, mul, le, of_bits}
use lib.Ieee.Fits.{and_i}
use lib.Ieee.Exact.{HasValue}
use lib.Ieee.Scale.{finite, grid}
use lib.Ieee.Order.{round_mono}
use Rattle.exact.proofs.Once.{square_is, add_is}
use Rattle.exact.proofs.Round.{moved, moved_high, moved_low, round_value}
use Rattle.exact.specs.Tests.{circle}

pub has_finite : (x : Float) (s : Bool) (a c : ℕ) → HasValue x s a c → T (finite x)
has_finite nan s a c v = absurd v
has_finite (inf t) s a c v = absurd v
has_finite (fin t m e) s a c v = tt

-- ---- the ends of the test
low_end : of_bits binary32 0x3f7ffff0 ≡ round binary32 false 1048575 1048576
unfolding of_bits round
low_end = refl

high_end : of_bits binary32 0x3f800008 ≡ round binary32 false 1048577 1048576
unfolding of_bits round
high_end = refl

-- ---- the roundings: U units are one, and A / C, B / D the exact squares
scaled : (A C D U g : ℕ) → 33554432 * g * C ≤ 33554434 * (A * U) + 16777216 * C → 33554432 * (g * (C * D)) ≤ 33554434 * (A * D * U) + 16777216 * (C * D)
scaled A C D U g h = let x = mul-le-mul_right D h in omega arith

scaled' : (A C D U g : ℕ) → 33554430 * (A * U) ≤ 33554432 * g * C + 16777216 * C → 33554430 * (A * D * U) ≤ 33554432 * (g * (C * D)) + 16777216 * (C * D)
scaled' A C D U g h = let x = mul-le-mul_right D h in omega arith

by_unit : (a b X M U : ℕ) → a * X ≤ b * M → a * (X * U) ≤ b * (U * M)
by_unit a b X M U h = let w = mul-le-mul_right U h in omega arith

module _ (U A B C D g h : ℕ) (u : 1099511627776 ≤ U) (p : 0 < C * D) where
  pub sum_high : 33554432 * g * C ≤ 33554434 * (A * U) + 16777216 * C → 33554432 * h * D ≤ 33554434 * (B * U) + 16777216 * D
      → 2097152 * (A * D + B * C) ≤ 2097153 * (C * D) → (g + h) * 1048576 ≤ 1048577 * U
  sum_high a b c =
      le_of_mul-le-mul_right
      (last (g * (C * D)) (h * (C * D)) (A * D * U) (B * C * U) (U * (C * D)) (C * D) (scaled A C D U g a) (other (scaled B D C U h b)) (both (by_unit 2097152 2097153 (A * D + B * C) (C * D) U c)) (mul-le-mul_right (C * D) u) (shape g h (C * D)) (shape' U (C * D))) p
    where
      other : 33554432 * (h * (D * C)) ≤ 33554434 * (B * C * U) + 16777216 * (D * C) → 33554432 * (h * (C * D)) ≤ 33554434 * (B * C * U) + 16777216 * (C * D)
      other x = omega arith

      both : 2097152 * ((A * D + B * C) * U) ≤ 2097153 * (U * (C * D)) → 2097152 * (A * D * U + B * C * U) ≤ 2097153 * (U * (C * D))
      both x = omega arith

      last : (g h x y L M : ℕ) {l r : ℕ} → 33554432 * g ≤ 33554434 * x + 16777216 * M → 33554432 * h ≤ 33554434 * y + 16777216 * M → 2097152 * (x + y) ≤ 2097153 * L → 1099511627776 * M ≤ L
          → l ≡ (g + h) * 1048576 → r ≡ 1048577 * L → l ≤ r
      last g h x y L M a b c d e f = omega arith

      shape : (g h M : ℕ) → (g + h) * 1048576 * M ≡ (g * M + h * M) * 1048576
      shape g h M = omega arith

      shape' : (U M : ℕ) → 1048577 * U * M ≡ 1048577 * (U * M)
      shape' U M = omega arith

  pub sum_low : 33554430 * (A * U) ≤ 33554432 * g * C + 16777216 * C → 33554430 * (B * U) ≤ 33554432 * h * D + 16777216 * D
      → 2097151 * (C * D) ≤ 2097152 * (A * D + B * C) → 1048575 * U ≤ (g + h) * 1048576
  sum_low a b c =
      le_of_mul-le-mul_right
      (last (g * (C * D)) (h * (C * D)) (A * D * U) (B * C * U) (U * (C * D)) (C * D) (scaled' A C D U g a) (other (scaled' B D C U h b)) (both (mul-le-mul_right U c)) (mul-le-mul_right (C * D) u) (shape' U (C * D)) (shape g h (C * D))) p
    where
      other : 33554430 * (B * C * U) ≤ 33554432 * (h * (D * C)) + 16777216 * (D * C) → 33554430 * (B * C * U) ≤ 33554432 * (h * (C * D)) + 16777216 * (C * D)
      other x = omega arith

      both : 2097151 * (C * D) * U ≤ 2097152 * (A * D + B * C) * U → 2097151 * (U * (C * D)) ≤ 2097152 * (A * D * U + B * C * U)
      both x = omega arith

      last : (g h x y L M : ℕ) {l r : ℕ} → 33554430 * x ≤ 33554432 * g + 16777216 * M → 33554430 * y ≤ 33554432 * h + 16777216 * M → 2097151 * L ≤ 2097152 * (x + y) → 1099511627776 * M ≤ L
          → l ≡ 1048575 * L → r ≡ (g + h) * 1048576 → l ≤ r
      last g h x y L M a b c d e f = omega arith

      shape : (g h M : ℕ) → (g + h) * 1048576 * M ≡ (g * M + h * M) * 1048576
      shape g h M = omega arith

      shape' : (U M : ℕ) → 1048575 * U * M ≡ 1048575 * (U * M)
      shape' U M = omega arith

-- a square of at most 2 does not overflow
small : (A C D X : ℕ) → 0 < C → 0 < D → A * D ≤ X → 2097152 * X ≤ 2097153 * (C * D) → A < 2 ^ 127 * C
small A C D X c d a b =
    let x : A ≤ 2 * C = le_of_mul-le-mul_right (go A C D X a b) d in
    lt_of_le_of_lt x (mul-lt-mul_of_pos_right {m = 2} {n = 2 ^ 127} (lit< tt) c)
  where
    go : (A C D X : ℕ) → A * D ≤ X → 2097152 * X ≤ 2097153 * (C * D) → A * D ≤ 2 * C * D
    go A C D X a b = omega arith

-- a square that is rounded, in units
record Rounded (A C g : ℕ) : Type 0 where
  value : HasValue (round binary32 false A C) false g (2 ^ 149)
  above : 33554432 * g * C ≤ 33554434 * (A * 2 ^ 149) + 16777216 * C
  below : 33554430 * (A * 2 ^ 149) ≤ 33554432 * g * C + 16777216 * C

squared : (A C : ℕ) → 0 < C → A < 2 ^ 127 * C → Rounded A C (grid binary32 A C)
squared A C p h =
    let m = moved A C p in
    record { value = round_value false A C p h; above = moved_high (2 ^ 149) (A * 2 ^ 149) C (grid binary32 A C) m; below = moved_low (2 ^ 149) (A * 2 ^ 149) C (grid binary32 A C) m }

-- ---- the test
-- the ends of the test, with what the test sees between them
middle : (W : Float) (g U : ℕ) → 0 < U → W ≡ round binary32 false g U → 1048575 * U ≤ g * 1048576 → g * 1048576 ≤ 1048577 * U
    → T (le (of_bits binary32 0x3f7ffff0) W && le W (of_bits binary32 0x3f800008))
middle W g U u e l h =
    rw (low_end, high_end, e)
    (and_i (le (round binary32 false 1048575 1048576) (round binary32 false g U)) (le (round binary32 false g U) (round binary32 false 1048577 1048576))
    (round_mono binary32 1048575 1048576 g U (lit< tt) u l) (round_mono binary32 g U 1048577 1048576 u (lit< tt) h))

pub on_circle : (x y : Float) (s t : Bool) (a c b d : ℕ) → 0 < c → 0 < d → HasValue x s a c → HasValue y t b d
    → 2097151 * (c * c * (d * d)) ≤ 2097152 * (a * a * (d * d) + b * b * (c * c))
    → 2097152 * (a * a * (d * d) + b * b * (c * c)) ≤ 2097153 * (c * c * (d * d)) → T (circle x y)
unfolding circle
on_circle x y s t a c b d p q v w l h =
    let C : 0 < c * c = mul-pos p p in
    let D : 0 < d * d = mul-pos q q in
    let e = squared (a * a) (c * c) C (small (a * a) (c * c) (d * d) (a * a * (d * d) + b * b * (c * c)) C D (omega arith) h) in
    let f = squared (b * b) (d * d) D (small (b * b) (d * d) (c * c) (a * a * (d * d) + b * b * (c * c)) D C (omega arith) (turned h)) in
    let g = grid binary32 (a * a) (c * c) in
    let k = grid binary32 (b * b) (d * d) in
    let big : 1099511627776 ≤ 2 ^ 149 = lit≤ tt in
    let is : add binary32 (mul binary32 x x) (mul binary32 y y) ≡ round binary32 false (g + k) (2 ^ 149)
    = ap₂ (add binary32) (square_is x s a c p v) (square_is y t b d q w) ∙ add_is (round binary32 false (a * a) (c * c)) (round binary32 false (b * b) (d * d)) g k (2 ^ 149) (pow_pos 149) e.value f.value in
    and_i (finite x && finite y) _ (and_i (finite x) (finite y) (has_finite x s a c v) (has_finite y t b d w))
    (middle (add binary32 (mul binary32 x x) (mul binary32 y y)) (g + k) (2 ^ 149) (pow_pos 149) is
    (sum_low (2 ^ 149) (a * a) (b * b) (c * c) (d * d) g k big (mul-pos C D) e.below f.below l)
    (sum_high (2 ^ 149) (a * a) (b * b) (c * c) (d * d) g k big (mul-pos C D) e.above f.above h))
  where
    turned : 2097152 * (a * a * (d * d) + b * b * (c * c)) ≤ 2097153 * (c * c * (d * d)) → 2097152 * (a * a * (d * d) + b * b * (c * c)) ≤ 2097153 * (d * d * (c * c))
    turned h = go (a * a * (d * d) + b * b * (c * c)) (c * c) (d * d) h
      where
        go : (X C D : ℕ) → 2097152 * X ≤ 2097153 * (C * D) → 2097152 * X ≤ 2097153 * (D * C)
        go X C D h = omega arith
