-- The rounded sum and product of two floats, each given as a difference (p - q) / d: again a difference, whose two parts are those of the exact
-- result, each moved by the factor and the slack of one rounding.
use mathlib.Core.Path.{◌≡◌, sym, ap, ap₂, ◌∙◌, subst}
use Prim.Native.Nat.{ℕ, zero, suc, ◌+◌, ◌-◌, ◌*◌, ◌^◌, ◌≤◌, ◌<◌}
use native.Mathlib.Nat.{zero-lt-suc, lt_irrefl, zero-mul, le_trans, le_of_eq, le_of_lt, lt_of_le_of_lt, lt_of_lt_of_le, add-sub_of_le, mul-pos, mul_comm, mul_right_comm, mul-le-mul_left, mul-le-mul_right, mul-lt-mul_of_pos_right, lt_of_mul-lt-mul_right, eq_of_mul-eq-mul_right, add-le-add}
use native.Mathlib.Omega.{arith}
use mathlib.Core.Bool.{Bool, true, false, not, cond}
use lib.Dec.{T, ltb, ltb→lt, nltb→le, eqb, eqb→eq, lit≤}
use lib.Pow.{pow_pos}
use lib.IntN.{ℤ}
use lib.Ieee.{Float, nan, inf, fin, binary32, up, down, unlike, round, sum, add, mul, div}
use lib.Ieee.Fits.{down_pos}
use lib.Ieee.Exact.{HasValue}
use lib.Ieee.Scale.{grid}
use Rattle.exact.proofs.Frac.{Lower, Upper, by_le}
use Rattle.exact.proofs.Round.{moved, round_value}
use Rattle.exact.specs.Exact.{Exact, own, inv_e}

-- ---- the number of sign s and size n / c is (p - q) / d
abbrev pub Rep : Bool → (n c p q d : ℕ) → Type 0
Rep false n c p q d = p * c ≡ q * c + n * d
Rep true n c p q d = q * c ≡ p * c + n * d

abbrev pub Is : Float → ℕ → ℕ → ℕ → Type 0
Is nan p q d = ⊥
Is (inf s) p q d = ⊥
Is (fin s m e) p q d = Rep s (m * up e) (down e) p q d

-- the same size as another fraction
same : (p q n c n' c' d : ℕ) → 0 < c → n' * c ≡ n * c' → p * c ≡ q * c + n * d → p * c' ≡ q * c' + n' * d
same p q n c n' c' d C e r = eq_of_mul-eq-mul_right c C (p * c') (q * c' + n' * d) (mid (ap (λ (x : ℕ). x * c') r) (ap (λ (x : ℕ). x * d) e))
  where
    mid : p * c * c' ≡ (q * c + n * d) * c' → n' * c * d ≡ n * c' * d → p * c' * c ≡ (q * c' + n' * d) * c
    mid a b = omega arith

rep_same : (s : Bool) (p q n c n' c' d : ℕ) → 0 < c → n' * c ≡ n * c' → Rep s n c p q d → Rep s n' c' p q d
rep_same false p q n c n' c' d C e r = same p q n c n' c' d C e r
rep_same true p q n c n' c' d C e r = same q p n c n' c' d C e r

pub is_of_value : (z : Float) (s : Bool) (g U p q d : ℕ) → 0 < U → HasValue z s g U → Rep s g U p q d → Is z p q d
is_of_value nan s g U p q d UP h r = h
is_of_value (inf t) s g U p q d UP h r = h
is_of_value (fin t m e) s g U p q d UP h r = subst (λ (b : Bool). Rep b (m * up e) (down e) p q d) (sym h.0) (rep_same s p q g U (m * up e) (down e) d UP h.1 r)

-- ---- one rounding
pub record Rounded (z : Float) (P Q D : ℕ) : Type 0 where
  pub p : ℕ
  pub q : ℕ
  pub d : ℕ
  pub pos : 0 < d
  pub is : Is z p q d
  pub plo : Lower 16777216 16777217 p d P D
  pub phi : Upper 16777216 16777217 (2 ^ 150) 1 p d P D
  pub qlo : Lower 16777216 16777217 q d Q D
  pub qhi : Upper 16777216 16777217 (2 ^ 150) 1 q d Q D

piece_lower : (v w P D r s t : ℕ) → v * s ≤ w * r → Lower v w (P * r + t * D) (D * s) P D
piece_lower v w P D r s t a = omega (arith, mul-le-mul_left (P * D) a)

pu_l : (v h P D r t : ℕ) → (P * r + t * D) * D * (h * v) ≡ P * D * h * (v * r) + D * D * v * (t * h)
pu_l v h P D r t = omega arith

pu_r : (w h P D s : ℕ) → P * D * h * (w * s) + D * D * w * s ≡ w * ((P * h + 1 * D) * (D * s))
pu_r w h P D s = omega arith

piece_upper : (v w h P D r s t : ℕ) → v ≤ w → v * r ≤ w * s → t * h ≤ s → Upper v w h 1 (P * r + t * D) (D * s) P D
piece_upper v w h P D r s t l a b = by_le (add-le-add (mul-le-mul_left (P * D * h) a) (le_trans (mul-le-mul_left (D * D * v) b) (mul-le-mul_right s (mul-le-mul_left (D * D) l)))) (pu_l v h P D r t) (pu_r w h P D s)

moved_is : (U num den P Q D r s t u g : ℕ) → 0 < den → P * den ≡ Q * den + num * D → num * U * r + t * (den * U) ≡ g * s * den + u * (den * U)
    → (P * r + t * D) * U ≡ (Q * r + u * D) * U + g * (D * s)
moved_is U num den P Q D r s t u g C e f = eq_of_mul-eq-mul_right den C ((P * r + t * D) * U) ((Q * r + u * D) * U + g * (D * s)) (mid (ap (λ (x : ℕ). x * (r * U)) e) (ap (λ (x : ℕ). x * D) f))
  where
    mid : P * den * (r * U) ≡ (Q * den + num * D) * (r * U) → (num * U * r + t * (den * U)) * D ≡ (g * s * den + u * (den * U)) * D
        → (P * r + t * D) * U * den ≡ ((Q * r + u * D) * U + g * (D * s)) * den
    mid a b = omega arith

module _ (num den P Q D : ℕ) (C : 0 < den) (DP : 0 < D) (small : num < 2 ^ 127 * den) where
  private_lit : 16777216 ≤ 16777217
  private_lit = lit≤ tt

  round_rounded : (s : Bool) → Rep s num den P Q D → Rounded (round binary32 s num den) P Q D
  round_rounded false e =
      let m = moved num den C in
      record {
        p = P * m.r + m.t * D;
        q = Q * m.r + m.u * D;
        d = D * m.s;
        pos = mul-pos DP m.pos;
        is = is_of_value (round binary32 false num den) false (grid binary32 num den) (2 ^ 149) (P * m.r + m.t * D) (Q * m.r + m.u * D) (D * m.s) (pow_pos 149) (round_value false num den C small)
            (moved_is (2 ^ 149) num den P Q D m.r m.s m.t m.u (grid binary32 num den) C e m.is);
        plo = piece_lower 16777216 16777217 P D m.r m.s m.t m.down;
        phi = piece_upper 16777216 16777217 (2 ^ 150) P D m.r m.s m.t private_lit m.up m.more;
        qlo = piece_lower 16777216 16777217 Q D m.r m.s m.u m.down;
        qhi = piece_upper 16777216 16777217 (2 ^ 150) Q D m.r m.s m.u private_lit m.up m.less;
      }
  round_rounded true e =
      let m = moved num den C in
      record {
        p = P * m.r + m.u * D;
        q = Q * m.r + m.t * D;
        d = D * m.s;
        pos = mul-pos DP m.pos;
        is = is_of_value (round binary32 true num den) true (grid binary32 num den) (2 ^ 149) (P * m.r + m.u * D) (Q * m.r + m.t * D) (D * m.s) (pow_pos 149) (round_value true num den C small)
            (moved_is (2 ^ 149) num den Q P D m.r m.s m.t m.u (grid binary32 num den) C e m.is);
        plo = piece_lower 16777216 16777217 P D m.r m.s m.u m.down;
        phi = piece_upper 16777216 16777217 (2 ^ 150) P D m.r m.s m.u private_lit m.up m.less;
        qlo = piece_lower 16777216 16777217 Q D m.r m.s m.t m.down;
        qhi = piece_upper 16777216 16777217 (2 ^ 150) Q D m.r m.s m.t private_lit m.up m.more;
      }

-- ---- no overflow
pub size_of : (s : Bool) (L num den P Q D : ℕ) → Rep s num den P Q D → num * D ≤ (P + Q) * den
size_of false L num den P Q D e = omega arith
size_of true L num den P Q D e = omega arith

small_of : (s : Bool) (L num den P Q D : ℕ) → 0 < den → Rep s num den P Q D → P + Q < L * D → num < L * den
small_of s L num den P Q D C e h =
    lt_of_mul-lt-mul_right D (lt_of_le_of_lt (size_of s L num den P Q D e) (lt_of_lt_of_le (mul-lt-mul_of_pos_right h C) (le_of_eq (mul_right_comm L D den))))

pub rounded : (s : Bool) (num den P Q D : ℕ) → 0 < den → 0 < D → P + Q < 2 ^ 127 * D → Rep s num den P Q D → Rounded (round binary32 s num den) P Q D
rounded s num den P Q D C DP h e = round_rounded num den P Q D C DP (small_of s (2 ^ 127) num den P Q D C e h) s e

-- ---- products
square : (X Y Z X' Y' Z' : ℕ) → X ≡ Y + Z → X' ≡ Y' + Z' → X * X' + Y * Y' ≡ X * Y' + Y * X' + Z * Z'
square X Y Z X' Y' Z' e f = ap₂ (λ (x x' : ℕ). x * x' + Y * Y') e f ∙ ring Y Z Y' Z' ∙ sym (ap₂ (λ (x x' : ℕ). x * Y' + Y * x' + Z * Z') e f)
  where
    ring : (Y Z Y' Z' : ℕ) → (Y + Z) * (Y' + Z') + Y * Y' ≡ (Y + Z) * Y' + Y * (Y' + Z') + Z * Z'
    ring Y Z Y' Z' = omega arith

spread : (p q n c d p' q' n' c' d' : ℕ) → p * c * (p' * c') + q * c * (q' * c') ≡ p * c * (q' * c') + q * c * (p' * c') + n * d * (n' * d')
    → (p * p' + q * q') * (c * c') ≡ (p * q' + q * p') * (c * c') + n * n' * (d * d')
spread p q n c d p' q' n' c' d' e = omega arith

mul_rep : (s t : Bool) (n c p q d n' c' p' q' d' : ℕ) → Rep s n c p q d → Rep t n' c' p' q' d'
    → Rep (unlike s t) (n * n') (c * c') (p * p' + q * q') (p * q' + q * p') (d * d')
mul_rep false false n c p q d n' c' p' q' d' e f = spread p q n c d p' q' n' c' d' (square (p * c) (q * c) (n * d) (p' * c') (q' * c') (n' * d') e f)
mul_rep false true n c p q d n' c' p' q' d' e f = spread p q n c d q' p' n' c' d' (square (p * c) (q * c) (n * d) (q' * c') (p' * c') (n' * d') e f)
mul_rep true false n c p q d n' c' p' q' d' e f =
    flip (spread q p n c d p' q' n' c' d' (square (q * c) (p * c) (n * d) (p' * c') (q' * c') (n' * d') e f))
  where
    flip : (q * p' + p * q') * (c * c') ≡ (q * q' + p * p') * (c * c') + n * n' * (d * d') → (p * q' + q * p') * (c * c') ≡ (p * p' + q * q') * (c * c') + n * n' * (d * d')
    flip h = omega arith
mul_rep true true n c p q d n' c' p' q' d' e f =
    flip (spread q p n c d q' p' n' c' d' (square (q * c) (p * c) (n * d) (q' * c') (p' * c') (n' * d') e f))
  where
    flip : (q * q' + p * p') * (c * c') ≡ (q * p' + p * q') * (c * c') + n * n' * (d * d') → (p * p' + q * q') * (c * c') ≡ (p * q' + q * p') * (c * c') + n * n' * (d * d')
    flip h = omega arith

pub mul_rounded : (x y : Float) (p q d p' q' d' : ℕ) → 0 < d → 0 < d' → Is x p q d → Is y p' q' d' → p * p' + q * q' + (p * q' + q * p') < 2 ^ 127 * (d * d')
    → Rounded (mul binary32 x y) (p * p' + q * q') (p * q' + q * p') (d * d')
unfolding mul
mul_rounded nan y p q d p' q' d' D D' i j h = absurd i
mul_rounded (inf s) y p q d p' q' d' D D' i j h = absurd i
mul_rounded (fin s m e) nan p q d p' q' d' D D' i j h = absurd j
mul_rounded (fin s m e) (inf t) p q d p' q' d' D D' i j h = absurd j
mul_rounded (fin s m e) (fin t n c) p q d p' q' d' D D' i j h =
    rounded (unlike s t) (m * up e * (n * up c)) (down e * down c) (p * p' + q * q') (p * q' + q * p') (d * d') (mul-pos (down_pos e) (down_pos c)) (mul-pos D D') h
    (mul_rep s t (m * up e) (down e) p q d (n * up c) (down c) p' q' d' i j)

-- ---- sums
widen : (p q n c d c' d' : ℕ) → p * c ≡ q * c + n * d → p * d' * (c * c') ≡ q * d' * (c * c') + n * c' * (d * d')
widen p q n c d c' d' e = mid (ap (λ (x : ℕ). x * (c' * d')) e)
  where
    mid : p * c * (c' * d') ≡ (q * c + n * d) * (c' * d') → p * d' * (c * c') ≡ q * d' * (c * c') + n * c' * (d * d')
    mid a = omega arith

rep_widen : (s : Bool) (n c p q d c' d' : ℕ) → Rep s n c p q d → Rep s (n * c') (c * c') (p * d') (q * d') (d * d')
rep_widen false n c p q d c' d' e = widen p q n c d c' d' e
rep_widen true n c p q d c' d' e = widen q p n c d c' d' e

module _ (c p q p' q' D : ℕ) (C : 0 < c) (DP : 0 < D) (h : p + p' + (q + q') < 2 ^ 127 * D) where
  abbrev R : Float → Type 0
  R z = Rounded z (p + p') (q + q') D

  like_rep : (s : Bool) (a b : ℕ) → Rep s a c p q D → Rep s b c p' q' D → Rep s (a + b) c (p + p') (q + q') D
  like_rep false a b i j = omega arith
  like_rep true a b i j = omega arith

  -- the second is the larger
  unlike_more : (t : Bool) (a b : ℕ) → a < b → Rep (not t) a c p q D → Rep t b c p' q' D → Rep t (b - a) c (p + p') (q + q') D
  unlike_more false a b l i j = go (b - a) (add-sub_of_le (le_of_lt l))
    where
      go : (k : ℕ) → a + k ≡ b → (p + p') * c ≡ (q + q') * c + k * D
      go k e = let f = ap (λ (x : ℕ). x * D) e in omega arith
  unlike_more true a b l i j = go (b - a) (add-sub_of_le (le_of_lt l))
    where
      go : (k : ℕ) → a + k ≡ b → (q + q') * c ≡ (p + p') * c + k * D
      go k e = let f = ap (λ (x : ℕ). x * D) e in omega arith

  -- the first is no smaller
  unlike_less : (s : Bool) (a b : ℕ) → b ≤ a → Rep s a c p q D → Rep (not s) b c p' q' D → Rep s (a - b) c (p + p') (q + q') D
  unlike_less false a b l i j = go (a - b) (add-sub_of_le l)
    where
      go : (k : ℕ) → b + k ≡ a → (p + p') * c ≡ (q + q') * c + k * D
      go k e = let f = ap (λ (x : ℕ). x * D) e in omega arith
  unlike_less true a b l i j = go (a - b) (add-sub_of_le l)
    where
      go : (k : ℕ) → b + k ≡ a → (q + q') * c ≡ (p + p') * c + k * D
      go k e = let f = ap (λ (x : ℕ). x * D) e in omega arith

  -- a zero's sign is free
  zero_sign : (s t : Bool) (k : ℕ) → k ≡ 0 → Rep s k c (p + p') (q + q') D → Rep t k c (p + p') (q + q') D
  zero_sign false false k e r = r
  zero_sign false true k e r = let f = ap (λ (x : ℕ). x * D) e in omega arith
  zero_sign true false k e r = let f = ap (λ (x : ℕ). x * D) e in omega arith
  zero_sign true true k e r = r

  none : (a b : ℕ) → a ≤ b → a - b ≡ 0
  none a b l = omega arith

  fit : (s : Bool) (k : ℕ) → Rep s k c (p + p') (q + q') D → R (round binary32 s k c)
  fit s k r = rounded s k c (p + p') (q + q') D C DP h r

  cut : (s t : Bool) (k l : ℕ) (b : Bool) → (T b → Rep s k c (p + p') (q + q') D) → (T (not b) → Rep t l c (p + p') (q + q') D)
      → R (cond b (round binary32 s k c) (round binary32 t l c))
  cut s t k l true f g = fit s k (f tt)
  cut s t k l false f g = fit t l (g tt)

  sign : (k : ℕ) (b : Bool) → (T (not b) → k ≡ 0) → Rep true k c (p + p') (q + q') D → Rep b k c (p + p') (q + q') D
  sign k true n r = r
  sign k false n r = zero_sign true false k (n tt) r

  sum_rounded : (s t : Bool) (a b : ℕ) → Rep s a c p q D → Rep t b c p' q' D → R (sum binary32 s a t b c)
  unfolding sum
  sum_rounded false false a b i j = fit false (a + b) (like_rep false a b i j)
  sum_rounded true true a b i j = fit true (a + b) (like_rep true a b i j)
  sum_rounded false true a b i j =
      cut true false (b - a) (a - b) (ltb a b) (λ (x : T (ltb a b)). unlike_more true a b (ltb→lt a b x) i j) (λ (x : T (not (ltb a b))). unlike_less false a b (nltb→le a b x) i j)
  sum_rounded true false a b i j =
      cut false (ltb b a) (b - a) (a - b) (ltb a b) (λ (x : T (ltb a b)). unlike_more false a b (ltb→lt a b x) i j)
      (λ (x : T (not (ltb a b))). sign (a - b) (ltb b a) (λ (y : T (not (ltb b a))). none a b (nltb→le b a y)) (unlike_less true a b (nltb→le a b x) i j))

pub add_rounded : (x y : Float) (p q d p' q' d' : ℕ) → 0 < d → 0 < d' → Is x p q d → Is y p' q' d' → p * d' + p' * d + (q * d' + q' * d) < 2 ^ 127 * (d * d')
    → Rounded (add binary32 x y) (p * d' + p' * d) (q * d' + q' * d) (d * d')
unfolding add
add_rounded nan y p q d p' q' d' D D' i j h = absurd i
add_rounded (inf s) y p q d p' q' d' D D' i j h = absurd i
add_rounded (fin s m e) nan p q d p' q' d' D D' i j h = absurd j
add_rounded (fin s m e) (inf t) p q d p' q' d' D D' i j h = absurd j
add_rounded (fin s m e) (fin t n c) p q d p' q' d' D D' i j h =
    sum_rounded (down e * down c) (p * d') (q * d') (p' * d) (q' * d) (d * d') (mul-pos (down_pos e) (down_pos c)) (mul-pos D D') h s t (m * up e * down c) (n * up c * down e)
    (rep_widen s (m * up e) (down e) p q d (down c) d' i) (turn t (rep_widen t (n * up c) (down c) p' q' d' (down e) d j))
  where
    turn : (t : Bool) → Rep t (n * up c * down e) (down c * down e) (p' * d) (q' * d) (d' * d) → Rep t (n * up c * down e) (down e * down c) (p' * d) (q' * d) (d * d')
    turn t r = subst (λ (x : ℕ). Rep t (n * up c * down e) x (p' * d) (q' * d) (d * d')) (mul_comm (down c) (down e))
        (subst (λ (x : ℕ). Rep t (n * up c * down e) (down c * down e) (p' * d) (q' * d) x) (mul_comm d' d) r)

-- ---- quotients by a float that is not zero
inv_rep : (s : Bool) (m : ℕ) (e : ℤ) → Rep s (down e) (m * up e) (inv_e (own (fin s m e))).plus (inv_e (own (fin s m e))).minus (inv_e (own (fin s m e))).over
unfolding own inv_e
inv_rep false m e = omega arith
inv_rep true m e = omega arith

nonzero : (s : Bool) (m : ℕ) (e : ℤ) → 0 < (inv_e (own (fin s m e))).over → 0 < m * up e
unfolding own inv_e
nonzero false m e h = go (m * up e) h
  where
    go : (a : ℕ) → 0 < a * a + 0 * 0 → 0 < a
    go zero h = h
    go (suc a) h = zero-lt-suc a
nonzero true m e h = go (m * up e) h
  where
    go : (a : ℕ) → 0 < 0 * 0 + a * a → 0 < a
    go zero h = h
    go (suc a) h = zero-lt-suc a

no_zero : (n u : ℕ) → 0 < n * u → n ≡ 0 → ⊥
no_zero n u h e = lt_irrefl 0 (subst (λ (x : ℕ). 0 < x) (ap (λ (x : ℕ). x * u) e ∙ zero-mul u) h)

pub div_rounded : (x y : Float) (p q d : ℕ) → 0 < d → Is x p q d → Is y (own y).plus (own y).minus (own y).over → 0 < (inv_e (own y)).over
    → p * (inv_e (own y)).plus + q * (inv_e (own y)).minus + (p * (inv_e (own y)).minus + q * (inv_e (own y)).plus) < 2 ^ 127 * (d * (inv_e (own y)).over)
    → Rounded (div binary32 x y) (p * (inv_e (own y)).plus + q * (inv_e (own y)).minus) (p * (inv_e (own y)).minus + q * (inv_e (own y)).plus) (d * (inv_e (own y)).over)
unfolding div
div_rounded nan y p q d D i j o h = absurd i
div_rounded (inf s) y p q d D i j o h = absurd i
div_rounded (fin s m e) nan p q d D i j o h = absurd j
div_rounded (fin s m e) (inf t) p q d D i j o h = absurd j
div_rounded (fin s m e) (fin t n c) p q d D i j o h = go (eqb n 0) (λ (b : T (eqb n 0)). no_zero n (up c) (nonzero t n c o) (eqb→eq n 0 b))
  where
    w : Exact
    w = inv_e (own (fin t n c))

    go : (b : Bool) → (T b → ⊥) → Rounded (cond b (cond (eqb m 0) nan (inf (unlike s t))) (round binary32 (unlike s t) (m * up e * down c) (n * up c * down e)))
        (p * w.plus + q * w.minus) (p * w.minus + q * w.plus) (d * w.over)
    go true k = absurd (k tt)
    go false k =
        rounded (unlike s t) (m * up e * down c) (n * up c * down e) (p * w.plus + q * w.minus) (p * w.minus + q * w.plus) (d * w.over)
        (mul-pos (nonzero t n c o) (down_pos e)) (mul-pos D o) h
        (subst (λ (z : ℕ). Rep (unlike s t) (m * up e * down c) z (p * w.plus + q * w.minus) (p * w.minus + q * w.plus) (d * w.over)) (mul_comm (down e) (n * up c))
        (mul_rep s t (m * up e) (down e) p q d (down c) (n * up c) w.plus w.minus w.over i (inv_rep t n c)))
