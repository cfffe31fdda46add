-- What `sine_and_cosine` says is near the sine and the cosine, passes the circle test, and is one answer. Assumes nothing.
use mathlib.Core.Path.{◌≡◌, refl, sym, ap, ◌∙◌, subst}
use Prim.Native.Nat.{ℕ, ◌+◌, ◌-◌, ◌*◌, ◌/◌, ◌%◌, ◌^◌, ◌≤◌, ◌<◌}
use native.Mathlib.Nat.{le_trans, mul-pos, mul-le-mul_right}
use native.Mathlib.Omega.{arith}
use mathlib.Core.Bool.{Bool, true, false, not, cond}
use lib.Dec.{T, leb, ltb, eqb, lit≤, lit<}
use lib.IntN.{ℤ}
use lib.Pow.{pow_pos}
use lib.Ieee.{Float, nan, inf, fin, binary32, of_bits, to_bits, fits, neg, up, down}
use lib.Ieee.Fits.{down_pos}
use lib.Ieee.Exact.{HasValue}
use lib.Ieee.Bits.{is_true}
use borrow.Author.Tests.{leb-true, leb-false, ltb-true, ltb-false, eqb-true, eqb-false, lt-leb, le-leb}
use Rattle.exact.specs.Tests.{circle}
use Rattle.std.specs.Prelude.{Ok, Err, Result}
use Rattle.refusals.specs.Paper.{answered, paper, said}
use Rattle.refusals.proofs.Laws.{passed, answered_one, said_one}
use Rattle.refusals.specs.declared.Refusal.{Refusal}
use Rattle.refusals.specs.declared.Refusal.TheVariants.{Angle}
use Rattle.float32.proofs.Bits.{float_back}
use Rattle.trig.specs.declared.Pair.{Pair}
use Rattle.trig.specs.Fixed.{cosine_top, small_pair, lift_by, near_pair, left_of, far_pair, pair_of, pair_at, less90, more90, less180, below, accepted, sine_says}
use Rattle.trig.specs.Angle.{SineOf, CosineOf, Turned, TurnedAt, PairOf, OnCircle}
use Rattle.float32.proofs.Values.{negated}
use Rattle.trig.proofs.Squares.{n_most}
use Rattle.trig.proofs.Whole.{sine_at, cosine_at}
use Rattle.trig.proofs.Small.{small_sine, small_cosine}
use Rattle.trig.proofs.Turn.{above, lifts, lifted_most, lifted_same, Near, at_tiny, at_normal, at_large, y_range, turned_small, turned_90, turned_135, turned_180, turned_back}
use Rattle.float32.proofs.Unsigned.{unsigned}
use Rattle.trig.proofs.Entry.{normal_most, accepted_size, accepted_finite, accepted_bits, all_accepted}
use Rattle.trig.proofs.OnCircle.{circle_above, circle_below}
use Rattle.trig.proofs.Tested.{on_circle}

-- ---- near the sine and the cosine
near_near : (y : ℕ) → y ≤ 11796480 → Near y (near_pair y)
unfolding near_pair small_pair
near_near y h = λ n d g e.
    let m = y * 2 ^ lift_by y in
    let k = lift_by y in
    let l = lifts y h in
    let s = lifted_same y m k n d refl e in
    let b = lifted_most y m k h refl in
    (small_sine m k n d s l.less b g l.few l.most, small_cosine m k n d s l.less b g)

small_turned : (m k n d : ℕ) → n * (2 ^ k * 262144) ≡ m * d → m < 2 ^ 24 → m ≤ 11796480 * 2 ^ k → 0 < d → k ≤ 131 → (k ≤ 125 → 2 ^ 23 ≤ m) → Turned false n d (small_pair m k)
unfolding small_pair
small_turned m k n d e l h g t u = turned_small n d (small_pair m k) (n_most m k n d e h g) (small_sine m k n d e l h g t u) (small_cosine m k n d e l h g)

-- the pair of an angle from 45 degrees on, by that of what is left: up to 90 degrees, up to 135, and beyond
abbrev quadrant : Bool → Bool → Pair → Pair
quadrant p q r = cond p (less90 r) (cond q (more90 r) (less180 r))

module _ (b n d : ℕ) (top : b ≤ 1127481344) (g : 0 < d) (v : HasValue (of_bits binary32 b) false n d) where
  far_turned : 1110704128 < b → Turned false n d (far_pair ((b % 8388608 + 8388608) * 2 ^ (b / 8388608 - 132)))
  unfolding far_pair left_of
  far_turned low = at ((b % 8388608 + 8388608) * 2 ^ (b / 8388608 - 132)) (y_range b _ low top refl) (at_large b n d v (omega arith) (omega arith))
    where
      at : (y : ℕ) → (11796480 < y) × (y ≤ 47185920) → n * 262144 ≡ y * d → Turned false n d (far_pair y)
      at y r e = go (leb y 23592960) refl (leb y 35389440) refl
        where
          go : (p : Bool) → leb y 23592960 ≡ p → (q : Bool) → leb y 35389440 ≡ q → Turned false n d (quadrant p q (near_pair (cond p (23592960 - y) (cond q (y - 23592960) (47185920 - y)))))
          go true p q o = turned_90 n d y g e (near_pair (23592960 - y)) _ refl refl r.0 (leb-true y 23592960 p) (near_near (23592960 - y) (let x = r.0 in omega arith))
          go false p true o = let h = leb-true y 35389440 o in turned_135 n d y g e (near_pair (y - 23592960)) _ refl refl (leb-false y 23592960 p) h (near_near (y - 23592960) (omega arith))
          go false p false o = let h = leb-false y 35389440 o in turned_180 n d y g e (near_pair (47185920 - y)) _ refl refl h r.1 (near_near (47185920 - y) (omega arith))

  pub pair_turned : Turned false n d (pair_of b)
  unfolding pair_of
  pair_turned = go (eqb (b / 8388608) 0) refl (leb b 1110704128) refl
    where
      go : (p : Bool) → eqb (b / 8388608) 0 ≡ p → (q : Bool) → leb b 1110704128 ≡ q
          → Turned false n d (cond p (small_pair (b % 8388608) 131) (cond q (small_pair (b % 8388608 + 8388608) (132 - b / 8388608)) (far_pair ((b % 8388608 + 8388608) * 2 ^ (b / 8388608 - 132)))))
      go true p q o = small_turned (b % 8388608) 131 n d (at_tiny b n d v (eqb-true (b / 8388608) 0 p)) (omega arith) (le_trans {m = 8388608} (omega arith) (lit≤ tt)) g (lit≤ tt) (λ k. absurd (omega arith))
      go false p true o =
          let h = leb-true b 1110704128 o in
          let some : 0 < b / 8388608 = above (b / 8388608) (eqb-false (b / 8388608) 0 p) in
          small_turned (b % 8388608 + 8388608) (132 - b / 8388608) n d (at_normal b n d v some (omega arith)) (omega arith) (normal_most b h) g (omega arith) (λ k. omega arith)
      go false p false o = far_turned (leb-false b 1110704128 o)

-- ---- on the circle
-- the exact squares of two floats, added
record Squared (x y : Float) : Type 0 where
  s : Bool
  t : Bool
  a : ℕ
  c : ℕ
  b : ℕ
  d : ℕ
  c_pos : 0 < c
  d_pos : 0 < d
  x_is : HasValue x s a c
  y_is : HasValue y t b d
  low : 2097151 * (c * c * (d * d)) ≤ 2097152 * (a * a * (d * d) + b * b * (c * c))
  high : 2097152 * (a * a * (d * d) + b * b * (c * c)) ≤ 2097153 * (c * c * (d * d))

tested : {x y : Float} → Squared x y → T (circle x y)
tested {x} {y} q = on_circle x y q.s q.t q.a q.c q.b q.d q.c_pos q.d_pos q.x_is q.y_is q.low q.high

swapped : {x y : Float} → Squared x y → Squared y x
swapped q = record {
  s = q.t;
  t = q.s;
  a = q.b;
  c = q.d;
  b = q.a;
  d = q.c;
  c_pos = q.d_pos;
  d_pos = q.c_pos;
  x_is = q.y_is;
  y_is = q.x_is;
  low = down (q.a * q.a) (q.c * q.c) (q.b * q.b) (q.d * q.d) q.low;
  high = up' (q.a * q.a) (q.c * q.c) (q.b * q.b) (q.d * q.d) q.high;
}
  where
    down : (A C B D : ℕ) → 2097151 * (C * D) ≤ 2097152 * (A * D + B * C) → 2097151 * (D * C) ≤ 2097152 * (B * C + A * D)
    down A C B D h = omega arith

    up' : (A C B D : ℕ) → 2097152 * (A * D + B * C) ≤ 2097153 * (C * D) → 2097152 * (B * C + A * D) ≤ 2097153 * (D * C)
    up' A C B D h = omega arith

minus : {x y : Float} → Squared x y → Squared (neg x) y
minus {x} q = record {
  s = not q.s;
  t = q.t;
  a = q.a;
  c = q.c;
  b = q.b;
  d = q.d;
  c_pos = q.c_pos;
  d_pos = q.d_pos;
  x_is = negated x q.s q.a q.c q.x_is;
  y_is = q.y_is;
  low = q.low;
  high = q.high;
}

abbrev Round : Pair → Type 0
Round p = Squared p.sine p.cosine

small_round : (m k : ℕ) → m < 2 ^ 24 → m ≤ 11796480 * 2 ^ k → k ≤ 131 → (k ≤ 125 → 2 ^ 23 ≤ m) → Round (small_pair m k)
unfolding small_pair
small_round m k h l t u =
    let a = sine_at m k h l t u in
    record {
      s = false;
      t = false;
      a = a.top;
      c = 2 ^ k * 2 ^ 24;
      b = cosine_top m k;
      d = 2 ^ 24;
      c_pos = mul-pos (pow_pos k) (lit< tt);
      d_pos = lit< tt;
      x_is = a.value;
      y_is = cosine_at m k l;
      low = wide_low (2 ^ 24) (2 ^ k) a.top (cosine_top m k) (from_low (2 ^ k * 2 ^ k) (a.top * a.top + cosine_top m k * cosine_top m k * (2 ^ k * 2 ^ k)) (circle_below m k a.top l a.high a.low));
      high = wide_high (2 ^ 24) (2 ^ k) a.top (cosine_top m k) (from_high (2 ^ k * 2 ^ k) (a.top * a.top + cosine_top m k * cosine_top m k * (2 ^ k * 2 ^ k)) (circle_above m k a.top l a.high a.low));
    }
  where
    from_low : (K X : ℕ) → 281474842492928 * K ≤ X → 2097151 * (281474976710656 * K) ≤ 2097152 * X
    from_low K X h = omega arith

    from_high : (K X : ℕ) → X ≤ 281475110928384 * K → 2097152 * X ≤ 2097153 * (281474976710656 * K)
    from_high K X h = omega arith

    wide_low : (W K A q : ℕ) → 2097151 * (W * W * (K * K)) ≤ 2097152 * (A * A + q * q * (K * K)) → 2097151 * (K * W * (K * W) * (W * W)) ≤ 2097152 * (A * A * (W * W) + q * q * (K * W * (K * W)))
    wide_low W K A q h = let x = mul-le-mul_right (W * W) h in omega arith

    wide_high : (W K A q : ℕ) → 2097152 * (A * A + q * q * (K * K)) ≤ 2097153 * (W * W * (K * K)) → 2097152 * (A * A * (W * W) + q * q * (K * W * (K * W))) ≤ 2097153 * (K * W * (K * W) * (W * W))
    wide_high W K A q h = let x = mul-le-mul_right (W * W) h in omega arith

near_round : (y : ℕ) → y ≤ 11796480 → Round (near_pair y)
unfolding near_pair
near_round y h = let l = lifts y h in small_round (y * 2 ^ lift_by y) (lift_by y) l.less (lifted_most y _ _ h refl) l.few l.most

far_round : (y : ℕ) → 11796480 < y → y ≤ 47185920 → Round (far_pair y)
unfolding far_pair left_of
far_round y l h = go (leb y 23592960) refl (leb y 35389440) refl
  where
    go : (p : Bool) → leb y 23592960 ≡ p → (q : Bool) → leb y 35389440 ≡ q → Round (quadrant p q (near_pair (cond p (23592960 - y) (cond q (y - 23592960) (47185920 - y)))))
    go true p q o = swapped (near_round (23592960 - y) (omega arith))
    go false p true o = let k = leb-true y 35389440 o in swapped (minus (near_round (y - 23592960) (omega arith)))
    go false p false o = let k = leb-false y 35389440 o in swapped (minus (swapped (near_round (47185920 - y) (omega arith))))

pair_round : (b : ℕ) → b ≤ 1127481344 → Round (pair_of b)
unfolding pair_of
pair_round b top = go (eqb (b / 8388608) 0) refl (leb b 1110704128) refl
  where
    go : (p : Bool) → eqb (b / 8388608) 0 ≡ p → (q : Bool) → leb b 1110704128 ≡ q
        → Round (cond p (small_pair (b % 8388608) 131) (cond q (small_pair (b % 8388608 + 8388608) (132 - b / 8388608)) (far_pair ((b % 8388608 + 8388608) * 2 ^ (b / 8388608 - 132)))))
    go true p q o = small_round (b % 8388608) 131 (omega arith) (le_trans {m = 8388608} (omega arith) (lit≤ tt)) (lit≤ tt) (λ k. absurd (omega arith))
    go false p true o = let h = leb-true b 1110704128 o in let some = eqb-false (b / 8388608) 0 p in let k : 0 < b / 8388608 = above (b / 8388608) some in small_round (b % 8388608 + 8388608) (132 - b / 8388608) (omega arith) (normal_most b h) (omega arith) (λ k. omega arith)
    go false p false o = let r = y_range b _ (leb-false b 1110704128 o) top refl in far_round _ r.0 r.1

-- ---- the entry
module _ (x : Float) (held : T (fits binary32 x)) (ok : T (accepted x)) where
  pub turned_at : TurnedAt x (pair_at x)
  unfolding pair_at
  turned_at = go x (float_back x held) ok
    where
      go : (y : Float) → of_bits binary32 (to_bits binary32 x) ≡ y → T (accepted y) → TurnedAt y (cond (ltb (to_bits binary32 x) 2147483648) (pair_of (to_bits binary32 x % 2147483648)) (below (pair_of (to_bits binary32 x % 2147483648))))
      go nan e a = accepted_finite nan a
      go (inf t) e a = accepted_finite (inf t) a
      go (fin s m k) e a = sign (ltb (to_bits binary32 x) 2147483648) refl
        where
          u : (s ≡ leb (2 ^ 31) (to_bits binary32 x)) × HasValue (of_bits binary32 (to_bits binary32 x % 2147483648)) false (m * up k) (down k)
          u = unsigned (to_bits binary32 x) s m k e

          size : Turned false (m * up k) (down k) (pair_of (to_bits binary32 x % 2147483648))
          size = pair_turned (to_bits binary32 x % 2147483648) (m * up k) (down k) (accepted_bits x held ok) (down_pos k) u.1

          sign : (b : Bool) → ltb (to_bits binary32 x) 2147483648 ≡ b → Turned s (m * up k) (down k) (cond b (pair_of (to_bits binary32 x % 2147483648)) (below (pair_of (to_bits binary32 x % 2147483648))))
          sign true p = subst (λ (b : Bool). Turned b (m * up k) (down k) (pair_of (to_bits binary32 x % 2147483648))) (sym (u.0 ∙ lt-leb (2 ^ 31) (to_bits binary32 x) (ltb-true (to_bits binary32 x) 2147483648 p))) size
          sign false p = subst (λ (b : Bool). Turned b (m * up k) (down k) (below (pair_of (to_bits binary32 x % 2147483648)))) (sym (u.0 ∙ le-leb (2 ^ 31) (to_bits binary32 x) (ltb-false (to_bits binary32 x) 2147483648 p))) (turned_back (m * up k) (down k) (pair_of (to_bits binary32 x % 2147483648)) (below (pair_of (to_bits binary32 x % 2147483648))) refl refl size)

  -- the circle test of document 01 passes
  pub pair_on_circle : T (circle (pair_at x).sine (pair_at x).cosine)
  unfolding pair_at
  pair_on_circle = go (ltb (to_bits binary32 x) 2147483648)
    where
      size : Round (pair_of (to_bits binary32 x % 2147483648))
      size = pair_round (to_bits binary32 x % 2147483648) (accepted_bits x held ok)

      go : (b : Bool) → T (circle (cond b (pair_of (to_bits binary32 x % 2147483648)) (below (pair_of (to_bits binary32 x % 2147483648)))).sine (cond b (pair_of (to_bits binary32 x % 2147483648)) (below (pair_of (to_bits binary32 x % 2147483648)))).cosine)
      go true = tested size
      go false = tested (minus size)

-- up to 90 degrees the cosine has no minus
pub cosine_plus : (s : Bool) (m : ℕ) (e : ℤ) (p : Pair) → TurnedAt (fin s m e) p → m * up e ≤ 90 * down e → (k : ℕ) × (l : ℤ) × (p.cosine ≡ fin false k l)
cosine_plus s m e p t h = go (leb (m * up e) (45 * down e)) refl
  where
    of_cosine : (n d : ℕ) (c : Float) → CosineOf false n d c → (k : ℕ) × (l : ℤ) × (c ≡ fin false k l)
    of_cosine n d nan o = absurd o
    of_cosine n d (inf t) o = absurd o
    of_cosine n d (fin t k l) o = (k, l, ap (λ (b : Bool). fin b k l) o.0)

    of_sine : (n d : ℕ) (c : Float) → SineOf false n d c → (k : ℕ) × (l : ℤ) × (c ≡ fin false k l)
    of_sine n d nan o = absurd o
    of_sine n d (inf t) o = absurd o
    of_sine n d (fin t k l) o = (k, l, ap (λ (b : Bool). fin b k l) o.0)

    go : (b : Bool) → leb (m * up e) (45 * down e) ≡ b → (k : ℕ) × (l : ℤ) × (p.cosine ≡ fin false k l)
    go true q = of_cosine (m * up e) (down e) p.cosine (t.to45 (leb-true (m * up e) (45 * down e) q)).1
    go false q = of_sine (90 * down e - m * up e) (down e) p.cosine (t.to90 (leb-false (m * up e) (45 * down e) q) h).1

-- ---- what is said
pub refusal_said : (x : Float) → accepted x ≡ false → paper Angle ≡ sine_says x
unfolding sine_says
refusal_said x h = rw h

pub pair_said : (x : Float) (p : Pair) → accepted x ≡ true → p ≡ pair_at x → answered p ≡ sine_says x
unfolding sine_says
pair_said x p h e = rw (e, h)

-- each angle from -180 to 180 is answered, and no other number is
pub in_range : (s : Bool) (m : ℕ) (e : ℤ) → m * up e ≤ 180 * down e → sine_says (fin s m e) ≡ answered (pair_at (fin s m e))
in_range s m e h = sym (pair_said (fin s m e) (pair_at (fin s m e)) (is_true (accepted (fin s m e)) (all_accepted s m e h)) refl)

pub out_of_range : (s : Bool) (m : ℕ) (e : ℤ) → 180 * down e < m * up e → sine_says (fin s m e) ≡ paper Angle
out_of_range s m e h = sym (refusal_said (fin s m e) (go (accepted (fin s m e)) (accepted_size s m e)))
  where
    go : (b : Bool) → (T b → m * up e ≤ 180 * down e) → b ≡ false
    go true f = absurd (let l = f tt in omega arith)
    go false f = refl

pub made_pair : (x : Float) (p : Pair) → sine_says x ≡ answered p → T (accepted x) × (pair_at x ≡ p)
unfolding sine_says
made_pair x p e =
    let q = passed (accepted x) Angle (answered (pair_at x)) p e in
    (subst T (sym q.0) tt, answered_one (pair_at x) p q.1)

pub answer_near : (x : Float) (r : Result Pair Refusal) → fits binary32 x ≡ true → said r ≡ sine_says x → PairOf x r
answer_near x (Ok p) held e = let q = made_pair x p (sym e) in subst (TurnedAt x) q.1 (turned_at x (subst T (sym held) tt) q.0)
answer_near x (Err k) held e = tt

pub answer_on_circle : (x : Float) (r : Result Pair Refusal) → fits binary32 x ≡ true → said r ≡ sine_says x → OnCircle r
answer_on_circle x (Ok p) held e = let q = made_pair x p (sym e) in subst (λ (z : Pair). T (circle z.sine z.cosine)) q.1 (pair_on_circle x (subst T (sym held) tt) q.0)
answer_on_circle x (Err k) held e = tt

-- the contract leaves one answer
pub answer_one : (x : Float) (r s : Result Pair Refusal) → said r ≡ sine_says x → said s ≡ sine_says x → r ≡ s
answer_one x r s p q = said_one r s (p ∙ sym q)
