-- The sign of the computed sine. The cosine of the latitude is at least -2 ^ -20. Where it has a minus, the sine is below 1e-3 in size; where it has none,
-- neither has the sine. Assumes nothing.
use mathlib.Core.Path.{◌≡◌, refl, sym, ap, ◌∙◌, subst}
use Prim.Native.Nat.{ℕ, zero, suc, ◌*◌, ◌≤◌, ◌<◌}
use native.Mathlib.Nat.{zero-lt-suc, zero-mul, mul-pos, mul-le-mul_right, mul-le-mul_left}
use native.Mathlib.Omega.{arith}
use mathlib.Core.Bool.{Bool, true, false, not}
use lib.IntN.{ℤ, pos, negsuc}
use lib.Dec.{T, lt→ltb, nltb→le, lit≤, lit<}
use lib.Ieee.{Float, nan, inf, fin, binary32, up, down, unlike, round, mul, div, le, lt, eq, neg, of_bits}
use lib.Ieee.Fits.{down_pos}
use lib.Ieee.Positive.{num, den, positive, den_pos}
use lib.Ieee.Order.{round_mono}
use lib.Ieee.Scale.{finite}
use Rattle.exact.specs.Tests.{abs}
use Rattle.exact.proofs.Sizes.{or_le, or_ge, own_size, own_over}
use Rattle.exact.proofs.Range.{round_neg, round_fit, Holds}
use Rattle.roots.specs.Root.{clear}
use Rattle.roots.proofs.Signs.{abs_clear, clear_round}
use Rattle.geocentric.specs.Geo.{beyond_pole}
use Rattle.geocentric.proofs.Fractions.{num_pos}
use Rattle.geocentric.proofs.Steps.{sign, div_at}

-- the f32 1e-3
abbrev pub threshold : Float
threshold = fin false 8589935 (negsuc 32)

-- ---- a sign that is clear stays so
clear_mul : (x y : Float) → T (positive x) → T (finite y) → T (clear y) → T (clear (mul binary32 x y))
unfolding clear mul
clear_mul nan y p f c = absurd p
clear_mul (inf s) y p f c = absurd p
clear_mul (fin true m e) y p f c = absurd p
clear_mul (fin false m e) nan p f c = absurd f
clear_mul (fin false m e) (inf t) p f c = absurd f
clear_mul (fin false m e) (fin true n d) p f c = absurd c
clear_mul (fin false m e) (fin false n d) p f c = clear_round binary32 (m * up e * (n * up d)) (down e * down d)

clear_div : (x y : Float) → T (finite x) → T (clear x) → T (positive y) → T (clear (div binary32 x y))
unfolding clear
clear_div nan y f c p = absurd f
clear_div (inf s) y f c p = absurd f
clear_div (fin true m e) y f c p = absurd c
clear_div (fin false m e) y f c p = rw (div_at (fin false m e) y tt p) (clear_round binary32 (m * up e * den y) (num y * down e))

-- ---- the size of a rounded fraction
abs_neg : (x : Float) → abs (neg x) ≡ abs x
unfolding neg
abs_neg nan = refl
abs_neg (inf s) = refl
abs_neg (fin s m e) = refl

abs_round : (s : Bool) (n d : ℕ) → abs (round binary32 s n d) ≡ round binary32 false n d
abs_round false n d = abs_clear (round binary32 false n d) (clear_round binary32 n d)
abs_round true n d = ap abs (round_neg n d) ∙ abs_neg (round binary32 false n d) ∙ abs_clear (round binary32 false n d) (clear_round binary32 n d)

-- ---- with a minus: at most 7 in size, and over the radius below the threshold
holds_seven : Holds 7 7 (pos 0)
unfolding round
holds_seven = record { is = refl; at_most = lit≤ tt }

tiny_product : (q : Float) (m : ℕ) (e : ℤ) → T (positive q) → num q * 1 ≤ 7268000 * den q → m * up e * 1048576 ≤ 1 * down e → num (mul binary32 q (fin true m e)) ≤ 7 * den (mul binary32 q (fin true m e))
unfolding mul
tiny_product nan m e p a b = absurd p
tiny_product (inf s) m e p a b = absurd p
tiny_product (fin true n d) m e p a b = absurd p
tiny_product (fin false n d) m e p a b =
    let z = round binary32 true (n * up d * (m * up e)) (down d * down e) in
    let k = (round_fit 7 7 (pos 0) true (n * up d * (m * up e)) (down d * down e) holds_seven (mul-pos (down_pos d) (down_pos e)) (go (n * up d) (down d) (m * up e) (down e) (mul-le-mul_right (m * up e) a) (mul-le-mul_left (down d) b))).1 in
    rw (own_size z, own_over z) at k
  where
    go : (nq dq nc dc : ℕ) → nq * 1 * nc ≤ 7268000 * dq * nc → dq * (nc * 1048576) ≤ dq * (1 * dc) → nq * nc ≤ 7 * (dq * dc)
    go nq dq nc dc h k = omega arith

-- 2 ^ -10
tenth : round binary32 false 1 1024 ≡ fin false 1 (negsuc 9)
unfolding round
tenth = refl

below_threshold : (x : Float) → T (clear x) → T (le x (fin false 1 (negsuc 9))) → T (lt x threshold)
unfolding clear le lt eq
below_threshold nan c h = absurd c
below_threshold (inf false) c h = absurd h
below_threshold (inf true) c h = absurd c
below_threshold (fin true m e) c h = absurd c
below_threshold (fin false m e) c h = lt→ltb (m * up e * 8589934592) (8589935 * 1 * down e) (go (m * up e) (down e) (down_pos e) (or_le (m * up e * 1024) (1 * 1 * down e) true h))
  where
    go : (a d : ℕ) → 0 < d → a * 1024 ≤ 1 * 1 * d → a * 8589934592 < 8589935 * 1 * d
    go a d D h = omega arith

tiny_quotient : (x y : Float) → T (finite x) → T (positive y) → num x ≤ 7 * den x → 6290000 * den y ≤ num y * 1 → T (lt (abs (div binary32 x y)) threshold)
tiny_quotient x y f p a b =
    let n = num x * den y in
    let d = num y * den x in
    subst (λ (z : Float). T (lt z threshold)) (sym (ap abs (div_at x y f p) ∙ abs_round (unlike (sign x) false) n d))
    (below_threshold (round binary32 false n d) (clear_round binary32 n d)
    (subst (λ (z : Float). T (le (round binary32 false n d) z)) tenth
    (round_mono binary32 n d 1 1024 (mul-pos (num_pos y p) (den_pos x)) (lit< tt) (go (num x) (den x) (num y) (den y) (mul-le-mul_right (den y) a) (mul-le-mul_right (den x) b)))))
  where
    go : (nx dx ny dy : ℕ) → nx * dy ≤ 7 * dx * dy → 6290000 * dy * dx ≤ ny * 1 * dx → nx * dy * 1024 ≤ 1 * (ny * dx)
    go nx dx ny dy h k = omega arith

-- ---- with none: above zero, where it is not below the threshold
above_threshold : (x : Float) → T (finite x) → T (clear x) → T (not (lt (abs x) threshold)) → T (positive x)
unfolding clear lt
above_threshold nan f c h = absurd f
above_threshold (inf s) f c h = absurd f
above_threshold (fin true m e) f c h = absurd c
above_threshold (fin false zero e) f c h = absurd (go (zero * up e) (down e) (down_pos e) (zero-mul (up e)) (nltb→le (zero * up e * 8589934592) (8589935 * 1 * down e) h))
  where
    go : (a d : ℕ) → 0 < d → a ≡ 0 → 8589935 * 1 * d ≤ a * 8589934592 → ⊥
    go a d D e h = omega arith
above_threshold (fin false (suc m) e) f c h = lt→ltb 0 (suc m) (zero-lt-suc m)

-- ---- both
-- a cosine below zero that is accepted is at most 2 ^ -20 in size
behind_size : (m : ℕ) (e : ℤ) → T (le beyond_pole (fin true m e)) → m * up e * 1048576 ≤ 1 * down e
unfolding le lt eq neg of_bits
behind_size m e h = omega (arith, or_ge (num beyond_pole * down e) (m * up e * den beyond_pole) true h)

pub sine_above : (q c r : Float) → T (positive q) → num q * 1 ≤ 7268000 * den q → T (positive r) → 6290000 * den r ≤ num r * 1 → T (le beyond_pole c)
    → T (finite c) → T (finite (mul binary32 q c)) → T (finite (div binary32 (mul binary32 q c) r)) → T (not (lt (abs (div binary32 (mul binary32 q c) r)) threshold))
    → T (positive (div binary32 (mul binary32 q c) r))
sine_above q nan r pq a pr b f fc fp fs g = absurd fc
sine_above q (inf s) r pq a pr b f fc fp fs g = absurd fc
sine_above q (fin false m e) r pq a pr b f fc fp fs g =
    let p = mul binary32 q (fin false m e) in
    above_threshold (div binary32 p r) fs (clear_div p r fp (clear_mul q (fin false m e) pq tt (unfold clear in tt)) pr) g
sine_above q (fin true m e) r pq a pr b f fc fp fs g =
    let p = mul binary32 q (fin true m e) in
    absurd (contra (lt (abs (div binary32 p r)) threshold) (tiny_quotient p r fp pr (tiny_product q m e pq a (behind_size m e f)) b) g)
  where
    contra : (b : Bool) → T b → T (not b) → ⊥
    contra true t f = f
    contra false t f = t
