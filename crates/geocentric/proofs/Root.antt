-- The rounded root of a float above zero, as a fraction, and its bounds from those of what it is taken of. Assumes nothing.
use mathlib.Core.Path.{◌≡◌, refl, sym, ap, ◌∙◌}
use Prim.Native.Nat.{ℕ, ◌*◌, ◌^◌, ◌≤◌, ◌<◌}
use native.Mathlib.Nat.{le_refl, le_of_lt, le_trans, lt_of_lt_of_le, mul-pos, mul-le-mul, mul-le-mul_left, mul-le-mul_right, le_of_mul-le-mul_right, not-le_of_lt}
use native.Mathlib.Omega.{arith}
use mathlib.Core.Bool.{Bool, true, false, not}
use lib.Dec.{T, leb, leb→le, nleb→lt, lit<}
use lib.Pow.{pow_pos}
use lib.Ieee.{Float, binary32, fits}
use lib.Ieee.Positive.{num, den, positive, den_pos, value→cross}
use Rattle.exact.specs.Exact.{units_of}
use Rattle.exact.proofs.Frac.{by_le}
use Rattle.roots.specs.Root.{sqrt_of}
use Rattle.roots.proofs.Laws.{own_units, squared, is_root}
use Rattle.geocentric.proofs.Fractions.{Between, num_pos}

-- ---- the root's square, from units of the smallest f32 to fractions
scale_x : (K u nx dx y U : ℕ) → nx * U ≡ u * dx → K * (nx * y) * (U * U) ≡ K * (u * U) * (dx * y)
scale_x K u nx dx y U e = mid (ap (λ (z : ℕ). z * (K * y * U)) e)
  where
    mid : nx * U * (K * y * U) ≡ u * dx * (K * y * U) → K * (nx * y) * (U * U) ≡ K * (u * U) * (dx * y)
    mid x = omega arith

scale_r : (L v nr dr dx U : ℕ) → nr * U ≡ v * dr → L * (v * v) * (dx * (dr * dr)) ≡ L * (dx * (nr * nr)) * (U * U)
scale_r L v nr dr dx U f = a v dr L dx ∙ ap (λ (z : ℕ). L * (dx * (z * z))) (sym f) ∙ b L nr U dx
  where
    a : (v dr L dx : ℕ) → L * (v * v) * (dx * (dr * dr)) ≡ L * (dx * (v * dr * (v * dr)))
    a v dr L dx = omega arith

    b : (L nr U dx : ℕ) → L * (dx * (nr * U * (nr * U))) ≡ L * (dx * (nr * nr)) * (U * U)
    b L nr U dx = omega arith

abbrev pub Rooted : Float → Float → Type 0
Rooted x r = (8388608 * (num x * (den r * den r)) ≤ 8388609 * (den x * (num r * num r))) × (8388607 * (den x * (num r * num r)) ≤ 8388608 * (num x * (den r * den r)))

pub rooted : (x : Float) → T (fits binary32 x) → T (positive x) → Rooted x (sqrt_of x)
rooted x h p =
    let i = is_root x h p in
    let r = sqrt_of x in
    let U = 2 ^ 149 in
    let a = value→cross x (units_of x) U (own_units x h p) in
    let b = value→cross r (units_of r) U (own_units r i.held i.above_zero) in
    let q = squared x h p in
    let y = den r * den r in (
      le_of_mul-le-mul_right (by_le (mul-le-mul_right (den x * y) q.0) (scale_x 8388608 (units_of x) (num x) (den x) y U a) (scale_r 8388609 (units_of r) (num r) (den r) (den x) U b)) (mul-pos (pow_pos 149) (pow_pos 149)),
      le_of_mul-le-mul_right (by_le (mul-le-mul_right (den x * y) q.1) (sym (scale_r 8388607 (units_of r) (num r) (den r) (den x) U b)) (sym (scale_x 8388608 (units_of x) (num x) (den x) y U a))) (mul-pos (pow_pos 149) (pow_pos 149)),
    )

pub root_le : (x y : ℕ) → x * x ≤ y * y → x ≤ y
root_le x y h = go (leb x y) (leb→le x y) (nleb→lt x y)
  where
    go : (b : Bool) → (T b → x ≤ y) → (T (not b) → y < x) → x ≤ y
    go true p q = p tt
    go false p q = absurd (not-le_of_lt (strict y x (q tt)) h)
      where
        strict : (y x : ℕ) → y < x → y * y < x * x
        strict y x l = lt_of_lt_of_le (omega (arith, mul-le-mul (le_of_lt l) (le_refl y))) (mul-le-mul l l)

-- ---- bounds
-- a / c ≤ n / d, and n / d is at most L / K times (s / t) squared: a' / c' ≤ s / t where a' / c' squared is small enough
beyond : (K L a c a' c' n d s t : ℕ) → 0 < c → 0 < L → 0 < d → a * d ≤ n * c → K * (n * (t * t)) ≤ L * (d * (s * s)) → a' * a' * (c * L) ≤ c' * c' * (a * K) → a' * t ≤ s * c'
beyond K L a c a' c' n d s t C LP D h k g =
    root_le (a' * t) (s * c')
    (le_of_mul-le-mul_right
    (le_trans (by_le (mul-le-mul_right (t * t) g) (r1 a' t c L) (r2 c' a K t))
    (by_le (mul-le-mul_left (c' * c') mid) refl (r3 c' c L s))) (mul-pos C LP))
  where
    r1 : (a' t c L : ℕ) → a' * t * (a' * t) * (c * L) ≡ a' * a' * (c * L) * (t * t)
    r1 a' t c L = omega arith

    r2 : (c' a K t : ℕ) → c' * c' * (a * K) * (t * t) ≡ c' * c' * (a * K * (t * t))
    r2 c' a K t = omega arith

    r3 : (c' c L s : ℕ) → c' * c' * (c * L * (s * s)) ≡ s * c' * (s * c') * (c * L)
    r3 c' c L s = omega arith

    s1 : (a K y d : ℕ) → a * K * y * d ≡ a * d * (K * y)
    s1 a K y d = omega arith

    s2 : (c n K y : ℕ) → n * c * (K * y) ≡ c * (K * (n * y))
    s2 c n K y = omega arith

    s3 : (c L y d : ℕ) → c * (L * (d * y)) ≡ c * L * y * d
    s3 c L y d = omega arith

    mid : a * K * (t * t) ≤ c * L * (s * s)
    mid = le_of_mul-le-mul_right (le_trans (by_le (mul-le-mul_right (K * (t * t)) h) (s1 a K (t * t) d) (s2 c n K (t * t))) (by_le (mul-le-mul_left c k) refl (s3 c L (s * s) d))) D

pub root : (a b c a' b' c' : ℕ) (x : Float) → T (fits binary32 x) → Between a b c x → 0 < c → 0 < b → a' * a' * (c * 8388609) ≤ c' * c' * (a * 8388608) → c' * c' * (b * 8388608) ≤ b' * b' * (c * 8388607)
    → Between a' b' c' (sqrt_of x)
root a b c a' b' c' x f w C B t u =
    let r = sqrt_of x in
    let k = rooted x f w.above in
    record {
      above = (is_root x f w.above).above_zero;
      low = beyond 8388608 8388609 a c a' c' (num x) (den x) (num r) (den r) C (lit< tt) (den_pos x) w.low k.0 t;
      high = high_of (num r) (den r) (beyond 8388607 8388608 c b c' b' (den x) (num x) (den r) (num r) B (lit< tt) (num_pos x w.above) (turn (num x) (den x) w.high) k.1 u);
    }
  where
    turn : (n d : ℕ) → n * c ≤ b * d → c * n ≤ d * b
    turn n d h = omega arith

    high_of : (n d : ℕ) → c' * n ≤ d * b' → n * c' ≤ b' * d
    high_of n d h = omega arith
