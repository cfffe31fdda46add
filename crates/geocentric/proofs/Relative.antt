-- From nearness to a factor: a float above zero that is near an exact number of 1/4 or more is that number times M' / M or its inverse, at most.
-- The slack, a few units of 2 ^ -150, goes into the factor. Assumes nothing.
use mathlib.Core.Path.{◌≡◌, refl, ap}
use Prim.Native.Nat.{ℕ, ◌+◌, ◌*◌, ◌^◌, ◌≤◌, ◌<◌}
use native.Mathlib.Nat.{le_refl, le_trans, le_of_eq, mul-pos, mul-le-mul_left, mul-le-mul_right, le_of_mul-le-mul_right, add-le-add}
use native.Mathlib.Omega.{arith}
use mathlib.Core.Bool.{Bool, true, false, ◌&&◌}
use lib.Dec.{T, leb, leb→le}
use lib.Pow.{pow_pos}
use lib.Ieee.{Float, nan, inf, fin}
use lib.Ieee.Fits.{and_l, and_r}
use lib.Ieee.Positive.{num, den, positive}
use Rattle.exact.proofs.Frac.{by_le}
use Rattle.exact.proofs.Ops.{Is}
use Rattle.exact.proofs.Near.{Near, lo, hi, lo_pos}
use Rattle.geocentric.proofs.Fractions.{mk}

is_above : (f : Float) (p q d : ℕ) → T (positive f) → Is f p q d → p * den f ≡ q * den f + num f * d
is_above nan p q d a i = absurd a
is_above (inf s) p q d a i = absurd a
is_above (fin true m e) p q d a i = absurd a
is_above (fin false m e) p q d a i = i

-- ---- f is (p - q) / d; without p, q and d
up_of : (L W H E n fd p q d P O : ℕ) → 0 < d → p * fd ≡ q * fd + n * d → p * O * (H * L) ≤ W * ((P * H + E * O) * d) → n * O * (H * L) ≤ W * ((P * H + E * O) * fd)
up_of L W H E n fd p q d P O D i u = le_of_mul-le-mul_right (le_trans (le_of_eq (r1 n O H L d)) (le_trans (mul-le-mul_left (O * (H * L)) (part i)) (by_le (mul-le-mul_right fd u) (r2 O H L p fd) (r3 W (P * H + E * O) d fd)))) D
  where
    part : p * fd ≡ q * fd + n * d → n * d ≤ p * fd
    part e = omega arith

    r1 : (n O H L d : ℕ) → n * O * (H * L) * d ≡ O * (H * L) * (n * d)
    r1 n O H L d = omega arith

    r2 : (O H L p fd : ℕ) → O * (H * L) * (p * fd) ≡ p * O * (H * L) * fd
    r2 O H L p fd = omega arith

    r3 : (W X d fd : ℕ) → W * (X * d) * fd ≡ W * (X * fd) * d
    r3 W X d fd = omega arith

down_of : (L W H E n fd p q d P O : ℕ) → 0 < d → 0 < O → p * fd ≡ q * fd + n * d → P * d * L ≤ W * (p * O) → q * O * (H * L) ≤ W * ((0 * H + E * O) * d)
    → P * fd * (L * (H * L)) ≤ W * O * (W * E * fd + n * (H * L))
down_of L W H E n fd p q d P O D OP i l u =
    let small : q * (H * L) ≤ W * (E * d) = le_of_mul-le-mul_right (by_le u (s1 q H L O) (s2 W H E O d)) OP in
    le_of_mul-le-mul_right
    (le_trans (by_le (mul-le-mul_right (fd * (H * L)) l) (r1 P fd L H d) (r2 W p O fd (H * L)))
    (le_trans (le_of_eq (ap (λ (x : ℕ). W * O * (H * L) * x) i))
    (by_le (add-le-add (mul-le-mul_left (W * O * fd) small) (le_refl (W * O * (H * L) * (n * d)))) (r3 W O (H * L) q fd n d) (r4 W O (H * L) E fd n d)))) D
  where
    s1 : (q H L O : ℕ) → q * (H * L) * O ≡ q * O * (H * L)
    s1 q H L O = omega arith

    s2 : (W H E O d : ℕ) → W * ((0 * H + E * O) * d) ≡ W * (E * d) * O
    s2 W H E O d = omega arith

    r1 : (P fd L H d : ℕ) → P * fd * (L * (H * L)) * d ≡ P * d * L * (fd * (H * L))
    r1 P fd L H d = omega arith

    r2 : (W p O fd K : ℕ) → W * (p * O) * (fd * K) ≡ W * O * K * (p * fd)
    r2 W p O fd K = omega arith

    r3 : (W O K q fd n d : ℕ) → W * O * K * (q * fd + n * d) ≡ W * O * fd * (q * K) + W * O * K * (n * d)
    r3 W O K q fd n d = omega arith

    r4 : (W O K E fd n d : ℕ) → W * O * fd * (W * (E * d)) + W * O * K * (n * d) ≡ W * O * (W * E * fd + n * K) * d
    r4 W O K E fd n d = omega arith

-- ---- the slack taken in by the factor
rel_up : (n d P O L W H E M M' : ℕ) → 0 < H * L → n * O * (H * L) ≤ W * ((P * H + E * O) * d) → O ≤ 4 * P → W * (H + 4 * E) * M ≤ M' * (H * L) → M * (n * O) ≤ M' * (P * d)
rel_up n d P O L W H E M M' HL u g t =
    le_of_mul-le-mul_right
    (le_trans (by_le (mul-le-mul_left M u) (r1 M n O (H * L)) refl)
    (le_trans (mul-le-mul_left M (mul-le-mul_left W (mul-le-mul_right d (add-le-add (le_refl (P * H)) (mul-le-mul_left E g)))))
    (by_le (mul-le-mul_right (P * d) t) (r2 M W P H E d) (r3 M' (H * L) P d)))) HL
  where
    r1 : (M n O K : ℕ) → M * (n * O) * K ≡ M * (n * O * K)
    r1 M n O K = omega arith

    r2 : (M W P H E d : ℕ) → M * (W * ((P * H + E * (4 * P)) * d)) ≡ W * (H + 4 * E) * M * (P * d)
    r2 M W P H E d = omega arith

    r3 : (M' K P d : ℕ) → M' * K * (P * d) ≡ M' * (P * d) * K
    r3 M' K P d = omega arith

rel_down : (n d P O L W H E M M' : ℕ) → 0 < L * (H * L) → P * d * (L * (H * L)) ≤ W * O * (W * E * d + n * (H * L)) → d ≤ 4 * n → W * (W * E * 4 + H * L) * M ≤ M' * (L * (H * L)) → M * (d * P) ≤ M' * (O * n)
rel_down n d P O L W H E M M' K u g t =
    le_of_mul-le-mul_right
    (le_trans (by_le (mul-le-mul_left M u) (r1 M P d (L * (H * L))) refl)
    (le_trans (mul-le-mul_left M (mul-le-mul_left (W * O) (add-le-add (mul-le-mul_left (W * E) g) (le_refl (n * (H * L))))))
    (by_le (mul-le-mul_right (n * O) t) (r2 M W O E n (H * L)) (r3 M' (L * (H * L)) n O)))) K
  where
    r1 : (M P d K : ℕ) → M * (d * P) * K ≡ M * (P * d * K)
    r1 M P d K = omega arith

    r2 : (M W O E n K : ℕ) → M * (W * O * (W * E * (4 * n) + n * K)) ≡ W * (W * E * 4 + K) * M * (n * O)
    r2 M W O E n K = omega arith

    r3 : (M' K n O : ℕ) → M' * K * (n * O) ≡ M' * (O * n) * K
    r3 M' K n O = omega arith

-- f over P / O is between M / M' and M' / M
pub record Ratio (M M' : ℕ) (f : Float) (P O : ℕ) : Type 0 where
  pub above : M * (num f * O) ≤ M' * (P * den f)
  pub below : M * (den f * P) ≤ M' * (O * num f)

-- M' / M has room for k roundings and a slack E
unfoldable pub tight : ℕ → ℕ → ℕ → ℕ → Bool
unfolding lo hi
tight k E M M' = leb (hi k * (2 ^ 150 + 4 * E) * M) (M' * (2 ^ 150 * lo k)) && leb (hi k * (hi k * E * 4 + 2 ^ 150 * lo k) * M) (M' * (lo k * (2 ^ 150 * lo k)))

pub ratio_of_lem : {k B E : ℕ} {f : Float} (M M' P O : ℕ) → Near k B E f (mk P 0 O) → T (positive f) → O ≤ 4 * P → den f ≤ 4 * num f → T (tight k E M M') → Ratio M M' f P O
unfolding tight
ratio_of_lem {k} {B} {E} {f} M M' P O m a g h s =
    let c = m.close in
    let i = is_above f m.p m.q m.d a m.is in
    let L = lo_pos k in
    let H = pow_pos 150 in
    let x : Bool = leb (hi k * (2 ^ 150 + 4 * E) * M) (M' * (2 ^ 150 * lo k)) in
    let y : Bool = leb (hi k * (hi k * E * 4 + 2 ^ 150 * lo k) * M) (M' * (lo k * (2 ^ 150 * lo k))) in
    record {
      above = rel_up (num f) (den f) P O (lo k) (hi k) (2 ^ 150) E M M' (mul-pos H L) (up_of (lo k) (hi k) (2 ^ 150) E (num f) (den f) m.p m.q m.d P O c.pos i c.phi) g
          (leb→le (hi k * (2 ^ 150 + 4 * E) * M) (M' * (2 ^ 150 * lo k)) (and_l x y s));
      below = rel_down (num f) (den f) P O (lo k) (hi k) (2 ^ 150) E M M' (mul-pos L (mul-pos H L)) (down_of (lo k) (hi k) (2 ^ 150) E (num f) (den f) m.p m.q m.d P O c.pos c.over i c.plo c.qhi) h
          (leb→le (hi k * (hi k * E * 4 + 2 ^ 150 * lo k) * M) (M' * (lo k * (2 ^ 150 * lo k))) (and_r x y s));
    }
