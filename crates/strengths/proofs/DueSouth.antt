-- One name for due south (document 02, Wish 5): no grid variation is -180, exactly where ours is not the crate's, and that it lies above -180 and up to 180. Assumes nothing.
use mathlib.Core.Path.{◌≡◌, refl, sym, ap, ◌∙◌, subst}
use mathlib.Core.Logic.{⊎_elim}
use Prim.Native.Nat.{ℕ, suc, ◌+◌, ◌-◌, ◌*◌, ◌^◌, ◌≤◌, ◌<◌}
use native.Mathlib.Nat.{eq-zero-or-pos, lt_of_lt_of_le, mul-one, mul-lt-mul_of_pos_right}
use native.Mathlib.Omega.{arith}
use borrow.Author.Tests.{lt-ltb}
use mathlib.Core.Bool.{Bool, true, false, not, ◌&&◌, cond, true≢false}
use lib.Dec.{T, eqb, eqb→eq, ltb, ltb→lt, nltb→le, lit<, lit≤}
use lib.Arith.{lt_of_le-ne}
use lib.IntN.{ℤ, pos, negsuc}
use lib.Pow.{pow_mono, shl_lt}
use lib.Ieee.{Float, nan, inf, fin, binary32, up, down, fits, of_bits, neg, round, sum, add, sub, le, lt, eq}
use lib.Ieee.Bits.{is_true}
use lib.Ieee.Exact.{HasValue, round_exact}
use lib.Ieee.Fits.{add-fits, down_pos, eq→eqb, sub-fits}
use lib.Ieee.Order.{le_of_values}
use Rattle.exact.proofs.Range.{Fit, Holds, add_fit, fit_neg, most, round_fit}
use Rattle.exact.proofs.Round.{digits, in_units_lem}
use Rattle.exact.proofs.Sizes.{between_size}
use Rattle.exact.specs.Exact.{own}
use Rattle.exact.specs.Tests.{between}
use Rattle.refusals.specs.Paper.{answered}
use Rattle.refusals.specs.declared.Refusal.TheVariants.{Latitude, Longitude, Unusable}
use Rattle.refusals.proofs.Laws.{passed, answered_one}
use Rattle.roots.specs.Root.{clear}
use Rattle.roots.proofs.Signs.{clear_round}
use Rattle.std.specs.Prelude.{Option, Some, None}
use Rattle.strengths.specs.Grid.{d55, d90, d180, d360, crate_wrapped, wrapped, variation_by, variation_of, grid_says}
use Rattle.strengths.proofs.NeverMinus180.{never_minus_180}

-- an angle of -180
abbrev pub south : Option Float → Bool
south (Some v) = eq v (neg d180)
south None = false

-- what holds of the sum in the north, of the sum in the south and of none, under any wraps, holds of the variations
by_place : (lat lon d : Float) (P : ((Float → Float) → Option Float) → Type 0) → P (λ w. Some (w (sub binary32 d lon))) → P (λ w. Some (w (add binary32 d lon))) → P (λ w. None) → P (λ w. variation_by w lat lon d)
unfolding variation_by
by_place lat lon d P n s a = go (le d55 lat) (le lat (neg d55))
  where
    go : (b c : Bool) → P (λ w. cond b (Some (w (sub binary32 d lon))) (cond c (Some (w (add binary32 d lon))) None))
    go true c = n
    go false true = s
    go false false = a

-- ---- no grid variation is -180
never_south : (lat lon d : Float) → south (variation_of lat lon d) ≡ false
unfolding variation_of
never_south lat lon d = by_place lat lon d (λ v. south (v wrapped) ≡ false) (never_minus_180 (sub binary32 d lon)) (never_minus_180 (add binary32 d lon)) refl

-- what an answer has passed, and what it is
answered_is : (lat lon d : Float) (v : Option Float) → grid_says lat lon d ≡ answered v → T (between (neg d180) d180 lon) × T (between (neg d180) d180 d) × (variation_of lat lon d ≡ v)
unfolding grid_says
answered_is lat lon d v e =
    let p = passed (between (neg d90) d90 lat) Latitude _ v e in
    let q = passed (between (neg d180) d180 lon) Longitude _ v p.1 in
    let r = passed (between (neg d180) d180 d) Unusable _ v q.1 in
    (subst T (sym q.0) tt, subst T (sym r.0) tt, answered_one (variation_of lat lon d) v r.1)

pub no_answer_south : (lat lon d : Float) (v : Option Float) → grid_says lat lon d ≡ answered v → south v ≡ false
no_answer_south lat lon d v e = subst (λ (w : Option Float). south w ≡ false) (answered_is lat lon d v e).2 (never_south lat lon d)

-- ---- ours is 180 where the crate's is -180, and else it is the crate's
wrapped_as : (x : Float) → Some (wrapped x) ≡ cond (eq (crate_wrapped x) (neg d180)) (Some d180) (Some (crate_wrapped x))
unfolding wrapped
wrapped_as x = go (eq (crate_wrapped x) (neg d180))
  where
    go : (b : Bool) → Some (cond b d180 (crate_wrapped x)) ≡ cond b (Some d180) (Some (crate_wrapped x))
    go true = refl
    go false = refl

pub as_the_crate : (lat lon d : Float) → variation_of lat lon d ≡ cond (south (variation_by crate_wrapped lat lon d)) (Some d180) (variation_by crate_wrapped lat lon d)
unfolding variation_of
as_the_crate lat lon d =
    by_place lat lon d (λ v. v wrapped ≡ cond (south (v crate_wrapped)) (Some d180) (v crate_wrapped)) (wrapped_as (sub binary32 d lon)) (wrapped_as (add binary32 d lon)) refl

-- ---- and the crate's is -180 exactly where the sum is
-- a number without a minus is not -180
clear_not : (x : Float) → T (clear x) → eq x (neg d180) ≡ false
unfolding clear eq neg of_bits
clear_not nan c = refl
clear_not (inf s) c = refl
clear_not (fin true m e) c = absurd c
clear_not (fin false m e) c = go (eqb (m * up e * 1) (180 * down e)) (eqb (m * up e * 1) 0) (eqb→eq (m * up e * 1) (180 * down e)) (eqb→eq (m * up e * 1) 0)
  where
    go : (p q : Bool) → (T p → m * up e * 1 ≡ 180 * down e) → (T q → m * up e * 1 ≡ 0) → p && q ≡ false
    go true true f g = let a = f tt in let b = g tt in absurd (omega (arith, down_pos e))
    go true false f g = refl
    go false q f g = refl

-- nor is one of another size
size_not : (m : ℕ) (e : ℤ) → (m * up e ≡ 180 * down e → ⊥) → eq (fin true m e) (neg d180) ≡ false
unfolding eq neg of_bits
size_not m e n = go (eqb (m * up e * 1) (180 * down e)) (eqb→eq (m * up e * 1) (180 * down e))
  where
    go : (p : Bool) → (T p → m * up e * 1 ≡ 180 * down e) → p && true ≡ false
    go true f = let a = f tt in absurd (n (omega arith))
    go false f = refl

value_not : (x : Float) (n c : ℕ) → HasValue x true n c → n < 180 * c → eq x (neg d180) ≡ false
value_not nan n c v l = absurd v
value_not (inf s) n c v l = absurd v
value_not (fin false m e) n c v l = absurd (true≢false (sym v.0))
value_not (fin true m e) n c v l = size_not m e (λ h. other h v.1 (mul-lt-mul_of_pos_right l (down_pos e)))
  where
    other : m * up e ≡ 180 * down e → m * up e * c ≡ n * down e → n * down e < 180 * c * down e → ⊥
    other h w z = let k : m * up e * c ≡ 180 * down e * c = rw h in omega arith

-- an f32 above 180 has at most 16 digits after its point
few : (m : ℕ) (e : ℤ) → T (fits binary32 (fin false m e)) → 180 * down e < m * up e → (i : ℕ) × (i ≤ 16) × (down e ≡ 2 ^ i)
few m (pos k) f l = (0, lit≤ tt, refl)
few m (negsuc k) f l = (suc k, ⊎_elim (λ z. omega arith) (λ z. absurd (far z)) (eq-zero-or-pos (suc k - 16)), refl)
  where
    far : 0 < suc k - 16 → ⊥
    far z = let p : 2 ^ 17 ≤ 2 ^ suc k = pow_mono {i = 17} (omega arith) in omega (arith, digits false m (negsuc k) f)

holds_180 : Holds 180 45 (pos 2)
unfolding round
holds_180 = record { is = refl; at_most = lit≤ tt }

holds_360 : Holds 360 45 (pos 3)
unfolding round
holds_360 = record { is = refl; at_most = lit≤ tt }

-- at most half a turn out, and not -180
abbrev Inside : Float → Type 0
Inside v = Fit 180 v × (eq v (neg d180) ≡ false)

module _ (m : ℕ) (e : ℤ) where
  -- an angle and a whole turn, over one divisor
  abbrev a : ℕ
  a = m * up e * 1

  abbrev b : ℕ
  b = 360 * down e

  abbrev c : ℕ
  c = down e * 1

  rounded : (s : Bool) (n : ℕ) → n ≤ 180 * c → Fit 180 (round binary32 s n c)
  rounded s n h = round_fit 180 45 (pos 2) s n c holds_180 (omega (arith, down_pos e)) h

  clear_inside : (n : ℕ) → n ≤ 180 * c → Inside (round binary32 false n c)
  clear_inside n h = (rounded false n h, clear_not (round binary32 false n c) (clear_round binary32 n c))

  module _ (l : 180 * down e < a) (h : a ≤ b) where
    -- so what is left of it, less a turn, is exact, and not -180
    left : T (fits binary32 (fin false m e)) → eq (round binary32 true (b - a) c) (neg d180) ≡ false
    left f =
        let i = few m e f (omega arith) in
        let p : 2 ^ i.0 ≤ 2 ^ 16 = pow_mono i.1 in
        let r = i.2 in
        let q : b - a < 2 ^ 24 = omega arith in
        let u = ap (λ (z : ℕ). z * 2 ^ 149) (sym (mul-one (b - a))) ∙ in_units_lem (b - a) i.0 (omega arith) ∙ ap (λ (z : ℕ). (b - a) * 2 ^ (149 - i.0) * z) (sym r ∙ sym (mul-one (down e))) in
        value_not (round binary32 true (b - a) c) (b - a) c (round_exact binary32 true (b - a) c (b - a) (149 - i.0) (omega (arith, down_pos e)) q (lt_of_lt_of_le (shl_lt 24 (149 - i.0) q) (pow_mono {j = 149 + 128} (omega arith))) u) (omega arith)

    less : T (fits binary32 (fin false m e)) → Inside (sub binary32 (fin false m e) d360)
    unfolding sub add sum neg of_bits
    less f = go (ltb a b)
      where
        go : (p : Bool) → Inside (cond p (round binary32 true (b - a) c) (round binary32 false (a - b) c))
        go true = (rounded true (b - a) (omega arith), left f)
        go false = clear_inside (a - b) (omega arith)

    -- with a turn more, what is not below -360 has no minus
    more : Inside (add binary32 (fin true m e) d360)
    unfolding add sum of_bits
    more = go (ltb a b) (ltb b a) (ltb→lt b a)
      where
        go : (p q : Bool) → (T q → b < a) → Inside (cond p (round binary32 false (b - a) c) (round binary32 q (a - b) c))
        go true q g = clear_inside (b - a) (omega arith)
        go false false g = clear_inside (a - b) (omega arith)
        go false true g = let k = g tt in absurd (omega arith)

-- turned to another, or left as it is
either : (x y : Float) (p : Bool) → (T p → Inside y × (eq x (neg d180) ≡ false)) → (T (not p) → Fit 180 x) → Fit 180 (cond p y x) × (eq (cond p y x) (neg d180) ≡ eq x (neg d180))
either x y true f g = let i = f tt in (i.0.0, i.0.1 ∙ sym i.1)
either x y false f g = (g tt, refl)

-- the wrap of what is at most a turn out is at most half a turn out, and is -180 where it was so before
wrapped_south : (x : Float) → T (fits binary32 x) → Fit 360 x → Fit 180 (crate_wrapped x) × (eq (crate_wrapped x) (neg d180) ≡ eq x (neg d180))
unfolding crate_wrapped lt neg of_bits own
wrapped_south nan f g = absurd g.0
wrapped_south (inf s) f g = absurd g.0
wrapped_south (fin false m e) f g =
    either (fin false m e) (sub binary32 (fin false m e) d360) (ltb (180 * down e) (a m e))
    (λ t. (less m e (ltb→lt (180 * down e) (a m e) t) (omega (arith, most 360 false m e g)) f, clear_not (fin false m e) (unfold clear in tt)))
    (λ t. (tt, omega (arith, nltb→le (180 * down e) (a m e) t)))
wrapped_south (fin true m e) f g =
    either (fin true m e) (add binary32 (fin true m e) d360) (ltb (180 * down e) (a m e))
    (λ t. let l = ltb→lt (180 * down e) (a m e) t in (more m e l (omega (arith, most 360 true m e g)), size_not m e (λ z. omega arith)))
    (λ t. (tt, omega (arith, nltb→le (180 * down e) (a m e) t)))

-- two angles from -180 to 180 add up to one from -360 to 360
angle : (x : Float) → T (between (neg d180) d180 x) → Fit 180 x
unfolding neg of_bits
angle x t = between_size 180 _ _ _ _ _ _ x (lit≤ tt) (lit≤ tt) t

module _ (lon d : Float) (t : T (between (neg d180) d180 lon)) (u : T (between (neg d180) d180 d)) where
  plus : Fit 360 (add binary32 d lon)
  plus = add_fit 180 180 45 (pos 3) holds_360 d lon (angle d u) (angle lon t)

  minus : Fit 360 (sub binary32 d lon)
  unfolding sub
  minus = add_fit 180 180 45 (pos 3) holds_360 d (neg lon) (angle d u) (fit_neg 180 lon (angle lon t))

  pub south_where : (lat : Float) → south (variation_by crate_wrapped lat lon d) ≡ south (variation_by (λ x. x) lat lon d)
  south_where lat =
      by_place lat lon d (λ v. south (v crate_wrapped) ≡ south (v (λ x. x)))
      (wrapped_south (sub binary32 d lon) (sub-fits binary32 d lon) minus).1 (wrapped_south (add binary32 d lon) (add-fits binary32 d lon) plus).1 refl

-- so an answer is the crate's, but 180 where the sum, rounded once, is -180
pub where_changed : (lat lon d : Float) (v : Option Float) → grid_says lat lon d ≡ answered v → v ≡ cond (south (variation_by (λ x. x) lat lon d)) (Some d180) (variation_by crate_wrapped lat lon d)
where_changed lat lon d v e =
    let p = answered_is lat lon d v e in
    sym p.2 ∙ as_the_crate lat lon d ∙ ap (λ (b : Bool). cond b (Some d180) (variation_by crate_wrapped lat lon d)) (south_where lon d p.0 p.1 lat)

-- ---- a grid variation lies above -180 and up to 180
abbrev pub in_turn : Option Float → Bool
in_turn (Some v) = lt (neg d180) v && le v d180
in_turn None = true

inside : (v : Float) → Inside v → T (in_turn (Some v))
unfolding lt le eq neg of_bits
inside nan i = absurd i.0.0
inside (inf s) i = absurd i.0.0
inside (fin false m e) i =
    rw (lt-ltb 0 (180 * down e + m * up e * 1) (omega (arith, down_pos e)))
    (le_of_values (fin false m e) (fin false 45 (pos 2)) (m * up e) (down e) 180 1 (down_pos e) (lit< tt) (refl, refl) (refl, refl) (omega (arith, most 180 false m e i.0)))
inside (fin true m e) i =
    rw (lt-ltb (m * up e * 1) (180 * down e) (lt_of_le-ne (omega (arith, most 180 true m e i.0)) other), lt-ltb 0 (m * up e * 1 + 180 * down e) (omega (arith, down_pos e))) tt
  where
    other : m * up e * 1 ≡ 180 * down e → ⊥
    other h = true≢false (sym (ap (λ (b : Bool). b && true) (is_true (eqb (m * up e * 1) (180 * down e)) (eq→eqb h))) ∙ i.1)

wrapped_inside : (x : Float) → T (fits binary32 x) → Fit 360 x → T (in_turn (Some (wrapped x)))
unfolding wrapped
wrapped_inside x f g = go (eq (crate_wrapped x) (neg d180)) refl
  where
    go : (b : Bool) → eq (crate_wrapped x) (neg d180) ≡ b → T (in_turn (Some (cond b d180 (crate_wrapped x))))
    go true e = unfold lt le eq neg of_bits in tt
    go false e = inside (crate_wrapped x) ((wrapped_south x f g).0, e)

pub in_range : (lat lon d : Float) (v : Option Float) → grid_says lat lon d ≡ answered v → T (in_turn v)
unfolding variation_of
in_range lat lon d v e =
    let p = answered_is lat lon d v e in
    subst (λ (w : Option Float). T (in_turn w)) p.2
    (by_place lat lon d (λ w. T (in_turn (w wrapped))) (wrapped_inside (sub binary32 d lon) (sub-fits binary32 d lon) (minus lon d p.0 p.1)) (wrapped_inside (add binary32 d lon) (add-fits binary32 d lon) (plus lon d p.0 p.1)) tt)
