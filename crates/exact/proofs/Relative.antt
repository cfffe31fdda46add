-- A float near a number without minus, where the slack is small against that number, lies within the factor 1 - 2 ^ -15 to 1 + 2 ^ -15 of it.
use mathlib.Core.Path.{◌≡◌, refl, ap}
use Prim.Native.Nat.{ℕ, ◌+◌, ◌*◌, ◌^◌, ◌≤◌, ◌<◌}
use native.Mathlib.Nat.{le_trans, mul-pos, mul-le-mul_left, mul-le-mul_right, le_of_mul-le-mul_right}
use native.Mathlib.Omega.{arith}
use mathlib.Core.Bool.{true, false}
use lib.Dec.{T}
use lib.Pow.{pow_pos}
use lib.Ieee.{Float, nan, inf, fin}
use lib.Ieee.Scale.{finite}
use Rattle.exact.proofs.Frac.{Upper, by_le}
use Rattle.exact.specs.Exact.{own}
use Rattle.exact.proofs.Near.{Near, finite_is, hi, lo, lo_pos, own_pos, rank_bound}
use Rattle.exact.proofs.Reach.{flat_lower, is_cross}

-- f lies within the factor 1 - 2 ^ -15 to 1 + 2 ^ -15 of P / O
pub record Relative (f : Float) (P O : ℕ) : Type 0 where
  pub is_finite : T (finite f)
  pub no_minus : (own f).minus ≡ 0
  pub low : 32767 * (P * (own f).over) ≤ 32768 * ((own f).plus * O)
  pub high : 32768 * ((own f).plus * O) ≤ 32769 * (P * (own f).over)

-- ---- without the rank and the slack: v, w are a rank's factor, h the units in 1
-- X / O, where X is P or 0, with the slack E, which is at most 2 ^ -17 of P / O
flat_high : (v w h E p d X P O : ℕ) → 0 < v → 0 < h → w * 131072 ≤ 131073 * v → E * O * 131072 ≤ h * P → Upper v w h E p d X O → 131072 * 131072 * (p * O) ≤ 131073 * ((131072 * X + P) * d)
flat_high v w h E p d X P O vp hp l e u =
    le_of_mul-le-mul_right
    (le_trans (by_le (mul-le-mul_left (131072 * 131072) u) (r1 v h (p * O)) (r2 w E h d X O))
    (le_trans (mul-le-mul_right ((X * h * 131072 + E * O * 131072) * d) l) (by_le (mul-le-mul_left (131073 * v * d) (lift e)) (r3 v h E d X O) (r4 v h d X P)))) (mul-pos hp vp)
  where
    lift : E * O * 131072 ≤ h * P → X * h * 131072 + E * O * 131072 ≤ X * h * 131072 + h * P
    lift e = omega arith

    r1 : (v h A : ℕ) → 131072 * 131072 * A * (h * v) ≡ 131072 * 131072 * (A * (h * v))
    r1 v h A = omega arith

    r2 : (w E h d X O : ℕ) → 131072 * 131072 * (w * ((X * h + E * O) * d)) ≡ w * 131072 * ((X * h * 131072 + E * O * 131072) * d)
    r2 w E h d X O = omega arith

    r3 : (v h E d X O : ℕ) → 131073 * v * ((X * h * 131072 + E * O * 131072) * d) ≡ 131073 * v * d * (X * h * 131072 + E * O * 131072)
    r3 v h E d X O = omega arith

    r4 : (v h d X P : ℕ) → 131073 * v * d * (X * h * 131072 + h * P) ≡ 131073 * ((131072 * X + P) * d) * (h * v)
    r4 v h d X P = omega arith

-- ---- from (p - q) / d to the float
module _ (a b c p q d P O : ℕ) (l : 131072 * (P * d) ≤ 131073 * (p * O)) (h : 131072 * 131072 * (p * O) ≤ 131073 * ((131072 * P + P) * d)) (s : 131072 * 131072 * (q * O) ≤ 131073 * ((131072 * 0 + P) * d))
    (e : p * c + b * d ≡ q * c + a * d) where
  -- the same four, each multiplied out
  l2 : 131072 * (P * d * c) ≤ 131073 * (p * O * c)
  l2 = omega (arith, mul-le-mul_right c l)

  h2 : 131072 * 131072 * (p * O * c) ≤ 131073 * (131073 * (P * d * c))
  h2 = omega (arith, mul-le-mul_right c h)

  s2 : 131072 * 131072 * (q * O * c) ≤ 131073 * (P * d * c)
  s2 = omega (arith, mul-le-mul_right c s)

  e2 : p * O * c + b * d * O ≡ q * O * c + a * d * O
  e2 = omega (arith, ap (λ (x : ℕ). x * O) e)

  below : (y1 y2 y3 y4 : ℕ) → 131072 * y3 ≤ 131073 * y1 → 131072 * 131072 * y2 ≤ 131073 * y3 → y1 ≡ y2 + y4 → 32767 * y3 ≤ 32768 * y4
  below y1 y2 y3 y4 l s e = omega arith

  above : (y1 y2 y3 y4 : ℕ) → 131072 * 131072 * y1 ≤ 131073 * (131073 * y3) → y1 ≡ y2 + y4 → 32768 * y4 ≤ 32769 * y3
  above y1 y2 y3 y4 h e = omega arith

  -- of a float above zero
  low_of : b ≡ 0 → 0 < d → 32767 * (P * c) ≤ 32768 * (a * O)
  low_of z D = le_of_mul-le-mul_right (by_le (below (p * O * c) (q * O * c) (P * d * c) (a * d * O) l2 s2 (omega (arith, e2, ap (λ (x : ℕ). x * d * O) z))) (r1 P c d) (r2 a O d)) D
    where
      r1 : (P c d : ℕ) → 32767 * (P * c) * d ≡ 32767 * (P * d * c)
      r1 P c d = omega arith

      r2 : (a O d : ℕ) → 32768 * (a * d * O) ≡ 32768 * (a * O) * d
      r2 a O d = omega arith

  high_of : b ≡ 0 → 0 < d → 32768 * (a * O) ≤ 32769 * (P * c)
  high_of z D = le_of_mul-le-mul_right (by_le (above (p * O * c) (q * O * c) (P * d * c) (a * d * O) h2 (omega (arith, e2, ap (λ (x : ℕ). x * d * O) z))) (r1 a O d) (r2 P c d)) D
    where
      r1 : (a O d : ℕ) → 32768 * (a * O) * d ≡ 32768 * (a * d * O)
      r1 a O d = omega arith

      r2 : (P c d : ℕ) → 32769 * (P * d * c) ≡ 32769 * (P * c) * d
      r2 P c d = omega arith

  -- a float below zero is none of these
  not_below : a ≡ 0 → 0 < P * d * c → ⊥
  not_below z k = go (p * O * c) (q * O * c) (P * d * c) (b * d * O) k l2 s2 (omega (arith, e2, ap (λ (x : ℕ). x * d * O) z))
    where
      go : (y1 y2 y3 y5 : ℕ) → 0 < y3 → 131072 * y3 ≤ 131073 * y1 → 131072 * 131072 * y2 ≤ 131073 * y3 → y1 + y5 ≡ y2 → ⊥
      go y1 y2 y3 y5 k l s e = omega arith

-- no minus, unless no plus
unless_plus : (f : Float) → ((own f).plus ≡ 0 → ⊥) → (own f).minus ≡ 0
unfolding own
unless_plus nan n = refl
unless_plus (inf s) n = refl
unless_plus (fin false m e) n = refl
unless_plus (fin true m e) n = absurd (n refl)

pub relative : {k B E : ℕ} {f : Float} {P O : ℕ} → Near k B E f (record { plus = P; minus = 0; over = O }) → k ≤ 127 → 0 < P → E * O * 131072 ≤ 2 ^ 150 * P → Relative f P O
relative {k} {B} {E} {f} {P} {O} m r pos e =
    let c = m.close in
    let l = flat_lower (lo k) (hi k) m.p m.d P O (lo_pos k) (rank_bound k r) c.plo in
    let h = flat_high (lo k) (hi k) (2 ^ 150) E m.p m.d P P O (lo_pos k) (pow_pos 150) (rank_bound k r) e c.phi in
    let s = flat_high (lo k) (hi k) (2 ^ 150) E m.q m.d 0 P O (lo_pos k) (pow_pos 150) (rank_bound k r) e c.qhi in
    let i = is_cross f m.p m.q m.d m.is in
    let t = finite_is f m.p m.q m.d m.is in
    let z = unless_plus f (λ (n : (own f).plus ≡ 0). not_below (own f).plus (own f).minus (own f).over m.p m.q m.d P O l h s i n (mul-pos (mul-pos pos c.pos) (own_pos f))) in
    record {
      is_finite = t;
      no_minus = z;
      low = low_of (own f).plus (own f).minus (own f).over m.p m.q m.d P O l h s i z c.pos;
      high = high_of (own f).plus (own f).minus (own f).over m.p m.q m.d P O l h s i z c.pos;
    }
