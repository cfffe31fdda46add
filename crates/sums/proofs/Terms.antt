-- How near the terms of the recurrences on floats lie to the exact ones, by degree and order: P and its derivative, the angles, the powers of the ratio,
-- the coefficients. A rank, a size and a slack for each, by a uniform scheme, for any two arithmetics of which one keeps near the other.
use mathlib.Core.Path.{◌≡◌, sym, subst}
use Prim.Native.Nat.{ℕ, zero, suc, ◌+◌, ◌-◌, ◌*◌, ◌≤◌, ◌<◌}
use native.Mathlib.Nat.{not-suc-le-zero, eq-or-lt_of_le, le_of_suc-le-suc}
use native.Mathlib.Omega.{arith}
use mathlib.Core.Bool.{Bool, true, false, ◌&&◌, cond}
use mathlib.Core.Logic.{inl, inr}
use lib.Dec.{T, eqb, ltb, leb, leb→le, lit≤}
use lib.Ieee.Fits.{and_l, and_r}
use lib.Ieee.Scale.{finite}
use lib.Ieee.{Float}
use Rattle.exact.proofs.Ranks.{Abs, FineA, Leaf, Nr, Under, add_a, fine_below, fine_ok, fine_under, grows, leaf_a, mul_a, nr_under}
use Rattle.exact.specs.Exact.{Exact, own}
use Rattle.sums.specs.Recurrence.{Input, angle, coefficient, dpsn, gc_hs, gs_hc, legendre, lit, power, psn, step}
use Rattle.exact.proofs.Near.{near_own, weaken}
use Rattle.sums.specs.Arithmetic.{Arithmetic, Pair}
use Rattle.sums.proofs.Keeps.{Keeps}

-- the highest degree that the laws speak of
abbrev pub TOP : ℕ
TOP = 13

-- the orders of a row of that degree
abbrev pub ORDERS : ℕ
ORDERS = TOP + 1

-- a coefficient at the date, however it is made: at most four roundings, and at most 720,896 nT (65,536 and five times the gap between two such)
abbrev pub coeff_a : Abs
coeff_a = record { rank = 4; size = 720896; slack = 12 }

-- what the laws ask of two inputs: what the sums read of the one is near what they read of the other, with these sizes
pub record Ok (o : Arithmetic Float) (o' : Arithmetic Exact) (i : Input Float) (i' : Input Exact) : Type 0 where
  pub sine : i'.sin_theta ≡ i.sin_theta
  pub cos_theta : Nr (leaf_a 2) (o.num i.cos_theta) (o'.num i'.cos_theta)
  pub sin_theta : Nr (leaf_a 2) (o.num i.sin_theta) (o'.num i'.sin_theta)
  pub sin_lambda : Nr (leaf_a 2) (o.num i.sin_lambda) (o'.num i'.sin_lambda)
  pub cos_lambda : Nr (leaf_a 2) (o.num i.cos_lambda) (o'.num i'.cos_lambda)
  pub ratio : Nr (leaf_a 2) (o.num i.ratio) (o'.num i'.ratio)
  pub g : (n m : ℕ) → Nr coeff_a (i.g n m) (i'.g n m)
  pub h : (n m : ℕ) → Nr coeff_a (i.h n m) (i'.h n m)
  pub S : (n m : ℕ) → Nr (leaf_a 2048) (o.num (i.S n m)) (o'.num (i'.S n m))
  pub K : (n m : ℕ) → Nr (leaf_a 1) (o.num (i.K n m)) (o'.num (i'.K n m))

abbrev pub NrP : Abs → Pair Float → Pair Exact → Type 0
NrP a f x = Nr a f.fst x.fst × Nr a f.snd x.snd

pub choose : {a : Abs} (b : Bool) (f f' : Pair Float) (x x' : Pair Exact) → NrP a f x → NrP a f' x' → NrP a (cond b f f') (cond b x x')
choose true f f' x x' p q = p
choose false f f' x x' p q = q

pair_under : {a b : Abs} (f : Pair Float) (x : Pair Exact) → Under a b → NrP a f x → NrP b f x
pair_under f x u p = (nr_under u p.0, nr_under u p.1)

-- ---- one row step: three ranks more, five times the size
abbrev pub step_a : Abs → Abs
step_a a = record { rank = 3 + a.rank; size = 5 * a.size; slack = 5 * a.slack + 5 }

abbrev two_a : Abs → Abs
two_a a = record { rank = 1 + a.rank; size = 2 * a.size; slack = 2 * a.slack + 1 }

abbrev one_a : Abs → Abs
one_a a = record { rank = 1 + a.rank; size = a.size; slack = a.slack + 1 }

abbrev four_a : Abs → Abs
four_a a = record { rank = 2 + a.rank; size = 4 * a.size; slack = 4 * a.slack + 3 }

module _ {o : Arithmetic Float} {o' : Arithmetic Exact} (kept : Keeps o o') (a : Abs) (F : FineA (step_a a)) where
  -- by a number of size 2 as it stands, and by one of size 1
  pub by_two : {f g : Float} {x y : Exact} → Nr (leaf_a 2) f x → Nr a g y → Nr (two_a a) (o.times f g) (o'.times x y)
  by_two p q = weaken (omega arith) (omega arith) (omega arith) (kept.times {a = leaf_a 2} {b = a} p q (fine_below F (omega arith) (omega arith) (omega arith)))

  pub by_one : {f g : Float} {x y : Exact} → Nr (leaf_a 1) f x → Nr a g y → Nr (one_a a) (o.times f g) (o'.times x y)
  by_one p q = weaken (omega arith) (omega arith) (omega arith) (kept.times {a = leaf_a 1} {b = a} p q (fine_below F (omega arith) (omega arith) (omega arith)))

  both : {f g : Float} {x y : Exact} → Nr (two_a a) f x → Nr (two_a a) g y → Nr (four_a a) (o.plus f g) (o'.plus x y)
  both p q = weaken (omega arith) (omega arith) (omega arith) (kept.plus {a = two_a a} {b = two_a a} p q (fine_below F (omega arith) (omega arith) (omega arith)))

  differ : {f g : Float} {x y : Exact} → Nr (two_a a) f x → Nr (two_a a) g y → Nr (four_a a) (o.less f g) (o'.less x y)
  differ p q = weaken (omega arith) (omega arith) (omega arith) (kept.less {a = two_a a} {b = two_a a} p q (fine_below F (omega arith) (omega arith) (omega arith)))

  -- c * p - k * q: three roundings
  pub take_away : {f g : Float} {x y : Exact} → Nr (two_a a) f x → Nr (one_a a) g y → Nr (step_a a) (o.less f g) (o'.less x y)
  take_away p q = weaken (omega arith) (omega arith) (omega arith) (kept.less {a = two_a a} {b = one_a a} p q (fine_below F (omega arith) (omega arith) (omega arith)))

  take_more : {f g : Float} {x y : Exact} → Nr (four_a a) f x → Nr (one_a a) g y → Nr (step_a a) (o.less f g) (o'.less x y)
  take_more p q = weaken (omega arith) (omega arith) (omega arith) (kept.less {a = four_a a} {b = one_a a} p q (fine_below F (omega arith) (omega arith) (omega arith)))

  from_two : {f : Float} {x : Exact} → Nr (two_a a) f x → Nr (step_a a) f x
  from_two p = weaken (omega arith) (omega arith) (omega arith) p

  from_four : {f : Float} {x : Exact} → Nr (four_a a) f x → Nr (step_a a) f x
  from_four p = weaken (omega arith) (omega arith) (omega arith) p

  step_near : (i : Input Float) (i' : Input Exact) → Ok o o' i i' → 0 < a.size → (n m : ℕ) (f' f r : Pair Float) (x' x y : Pair Exact) → NrP a f' x' → NrP a f x → NrP a r y
      → NrP (step_a a) (step o (o.num i.cos_theta) (o.num i.sin_theta) (o.num (i.K n m)) n m f' f r) (step o' (o'.num i'.cos_theta) (o'.num i'.sin_theta) (o'.num (i'.K n m)) n m x' x y)
  unfolding step
  step_near i i' w P n m f' f r x' x y d p q =
      let c = w.cos_theta in
      let s = w.sin_theta in
      let k = w.K n m in
      choose (eqb n m) _ _ _ _ (from_two (by_two s d.0), from_four (both (by_two s d.1) (by_two c d.0)))
      (choose (eqb n 1 && eqb m 0) _ _ _ _ (weaken (omega arith) (omega arith) (omega arith) c, weaken (omega arith) (omega arith) (omega arith) (kept.opp {a = leaf_a 2} s))
      (choose (ltb (n - 2) m) _ _ _ _ (from_two (by_two c p.0), from_four (differ (by_two c p.1) (by_two s p.0)))
      (take_away (by_two c p.0) (by_one k q.0), take_more (differ (by_two c p.1) (by_two s p.0)) (by_one k q.1))))

-- ---- P and its derivative, at degree n
unfoldable pub leg_s : ℕ → Abs
leg_s zero = leaf_a 1
leg_s (suc n) = step_a (leg_s n)

leg_size : (n : ℕ) → 0 < (leg_s n).size
unfolding leg_s
leg_size zero = lit≤ tt
leg_size (suc n) = let h = leg_size n in omega arith

pub leg_up : (n : ℕ) → Under (leg_s n) (leg_s (suc n))
unfolding leg_s
leg_up n = (omega arith, omega arith, omega arith)

pub lit_0 : Leaf 1 (lit 0)
unfolding lit lib.Ieee.of_int lib.Ieee.round own
lit_0 = near_own tt (lit≤ tt)

pub lit_1 : Leaf 1 (lit 1)
unfolding lit lib.Ieee.of_int lib.Ieee.round own
lit_1 = near_own tt (lit≤ tt)

pick : {a : Abs} (b : Bool) (f f' : Float) (x x' : Exact) → Nr a f x → Nr a f' x' → Nr a (cond b f f') (cond b x x')
pick true f f' x x' p q = p
pick false f f' x x' p q = q

-- the same bound for every degree of the model
abbrev pub leg_a : Abs
leg_a = leg_s TOP

module _ {o : Arithmetic Float} {o' : Arithmetic Exact} (kept : Keeps o o') (i : Input Float) (i' : Input Exact) (w : Ok o o' i i') where
  legendre_near : (n m : ℕ) → FineA (leg_s n) → NrP (leg_s n) (legendre o i n m) (legendre o' i' n m)
  unfolding legendre leg_s
  legendre_near zero m F = (pick (eqb m 0) _ _ _ _ (kept.num lit_1) (kept.num lit_0), kept.num lit_0)
  legendre_near (suc zero) m F =
      let G : FineA (leaf_a 1) = fine_under (leg_up zero) F in
      step_near kept (leaf_a 1) F i i' w (lit≤ tt) 1 m _ _ _ _ _ _ (legendre_near zero (m - 1) G) (legendre_near zero m G) (kept.num lit_0, kept.num lit_0)
  legendre_near (suc (suc n)) m F =
      let G : FineA (leg_s (suc n)) = fine_under (leg_up (suc n)) F in
      step_near kept (leg_s (suc n)) F i i' w (leg_size (suc n)) (suc (suc n)) m _ _ _ _ _ _ (legendre_near (suc n) (m - 1) G) (legendre_near (suc n) m G)
      (pair_under _ _ (leg_up n) (legendre_near n m (fine_under (leg_up n) G)))

  pub leg_near : (n m : ℕ) → n ≤ TOP → NrP leg_a (legendre o i n m) (legendre o' i' n m)
  unfolding leg_s
  leg_near n m l = let u = grows leg_s leg_up n TOP l in pair_under _ _ u (legendre_near n m (fine_under u (fine_ok leg_a tt)))

-- ---- the angles, at order m: two ranks more at each order
module _ {o : Arithmetic Float} {o' : Arithmetic Exact} (kept : Keeps o o') (a : Abs) (F : FineA (four_a a)) where
  two_by : {f g : Float} {x y : Exact} → Nr a f x → Nr (leaf_a 2) g y → Nr (two_a a) (o.times f g) (o'.times x y)
  two_by p q = weaken (omega arith) (omega arith) (omega arith) (kept.times {a = a} {b = leaf_a 2} p q (fine_below F (omega arith) (omega arith) (omega arith)))

  turn_near : (i : Input Float) (i' : Input Exact) → Ok o o' i i' → {f g : Float} {x y : Exact} → Nr a f x → Nr a g y
      → Nr (four_a a) (o.plus (o.times f (o.num i.cos_lambda)) (o.times g (o.num i.sin_lambda))) (o'.plus (o'.times x (o'.num i'.cos_lambda)) (o'.times y (o'.num i'.sin_lambda)))
      × Nr (four_a a) (o.less (o.times g (o.num i.cos_lambda)) (o.times f (o.num i.sin_lambda))) (o'.less (o'.times y (o'.num i'.cos_lambda)) (o'.times x (o'.num i'.sin_lambda)))
  turn_near i i' w p q =
      let c = w.cos_lambda in
      let s = w.sin_lambda in (
        weaken (omega arith) (omega arith) (omega arith) (kept.plus {a = two_a a} {b = two_a a} (two_by p c) (two_by q s) (fine_below F (omega arith) (omega arith) (omega arith))),
        weaken (omega arith) (omega arith) (omega arith) (kept.less {a = two_a a} {b = two_a a} (two_by q c) (two_by p s) (fine_below F (omega arith) (omega arith) (omega arith))),
      )

unfoldable pub ang_s : ℕ → Abs
ang_s zero = leaf_a 1
ang_s (suc m) = four_a (ang_s m)

ang_up : (m : ℕ) → Under (ang_s m) (ang_s (suc m))
unfolding ang_s
ang_up m = (omega arith, omega arith, omega arith)

abbrev pub ang_a : Abs
ang_a = ang_s TOP

module _ {o : Arithmetic Float} {o' : Arithmetic Exact} (kept : Keeps o o') (i : Input Float) (i' : Input Exact) (w : Ok o o' i i') where
  angle_near : (m : ℕ) → FineA (ang_s m) → NrP (ang_s m) (angle o i.sin_lambda i.cos_lambda m) (angle o' i'.sin_lambda i'.cos_lambda m)
  unfolding angle ang_s
  angle_near zero F = (kept.num lit_0, kept.num lit_1)
  angle_near (suc m) F =
      let h = angle_near m (fine_under (ang_up m) F) in
      turn_near kept (ang_s m) F i i' w h.0 h.1

  ang_near : (m : ℕ) → m ≤ TOP → NrP ang_a (angle o i.sin_lambda i.cos_lambda m) (angle o' i'.sin_lambda i'.cos_lambda m)
  unfolding ang_s
  ang_near m l = let u = grows ang_s ang_up m TOP l in pair_under _ _ u (angle_near m (fine_under u (fine_ok ang_a tt)))

-- ---- powers of the ratio, at n = j + 1
unfoldable pub pow_s : ℕ → Abs
pow_s zero = mul_a (mul_a (leaf_a 2) (leaf_a 2)) (leaf_a 2)
pow_s (suc j) = record { rank = 1 + (pow_s j).rank; size = 2 * (pow_s j).size; slack = 2 * (pow_s j).slack + 1 }

pow_up : (j : ℕ) → Under (pow_s j) (pow_s (suc j))
unfolding pow_s
pow_up j = (omega arith, omega arith, omega arith)

abbrev pub pow_a : Abs
pow_a = pow_s (TOP - 1)

module _ {o : Arithmetic Float} {o' : Arithmetic Exact} (kept : Keeps o o') (i : Input Float) (i' : Input Exact) (w : Ok o o' i i') where
  power_near : (j : ℕ) → FineA (pow_s j) → Nr (pow_s j) (power o i j) (power o' i' j)
  unfolding power pow_s
  power_near zero F =
      let r = w.ratio in
      kept.times {a = mul_a (leaf_a 2) (leaf_a 2)} {b = leaf_a 2} (kept.times {a = leaf_a 2} {b = leaf_a 2} r r (fine_ok (mul_a (leaf_a 2) (leaf_a 2)) tt)) r F
  power_near (suc j) F =
      let h = power_near j (fine_under (pow_up j) F) in
      weaken (omega arith) (omega arith) (omega arith) (kept.times {a = pow_s j} {b = leaf_a 2} h w.ratio (fine_below F (omega arith) (omega arith) (omega arith)))

  pub pow_near : (j : ℕ) → j < TOP → Nr pow_a (power o i j) (power o' i' j)
  unfolding pow_s
  pow_near j l = let u = grows pow_s pow_up j (TOP - 1) (omega arith) in nr_under u (power_near j (fine_under u (fine_ok pow_a tt)))

-- ---- the factors of a term
abbrev pub pair_a : Abs
pair_a = add_a (mul_a coeff_a ang_a) (mul_a coeff_a ang_a)

abbrev pub psn_a : Abs
psn_a = mul_a (leaf_a 2048) leg_a

module _ {o : Arithmetic Float} {o' : Arithmetic Exact} (kept : Keeps o o') (i : Input Float) (i' : Input Exact) (w : Ok o o' i i') (n m : ℕ) (nl : n ≤ TOP) (ml : m ≤ TOP) where
  pub gc_near : Nr pair_a (gc_hs o i n m) (gc_hs o' i' n m)
  unfolding gc_hs ang_s
  gc_near =
      let a = ang_near kept i i' w m ml in
      kept.plus {a = mul_a coeff_a ang_a} {b = mul_a coeff_a ang_a} (kept.times {a = coeff_a} {b = ang_a} (w.g n m) a.1 (fine_ok (mul_a coeff_a ang_a) tt))
      (kept.times {a = coeff_a} {b = ang_a} (w.h n m) a.0 (fine_ok (mul_a coeff_a ang_a) tt)) (fine_ok pair_a tt)

  pub gs_near : Nr pair_a (gs_hc o i n m) (gs_hc o' i' n m)
  unfolding gs_hc ang_s
  gs_near =
      let a = ang_near kept i i' w m ml in
      kept.less {a = mul_a coeff_a ang_a} {b = mul_a coeff_a ang_a} (kept.times {a = coeff_a} {b = ang_a} (w.g n m) a.0 (fine_ok (mul_a coeff_a ang_a) tt))
      (kept.times {a = coeff_a} {b = ang_a} (w.h n m) a.1 (fine_ok (mul_a coeff_a ang_a) tt)) (fine_ok pair_a tt)

  pub psn_near : Nr psn_a (psn o i n m) (psn o' i' n m)
  unfolding psn leg_s
  psn_near = kept.times {a = leaf_a 2048} {b = leg_a} (w.S n m) (leg_near kept i i' w n m nl).0 (fine_ok psn_a tt)

  pub dpsn_near : Nr psn_a (dpsn o i n m) (dpsn o' i' n m)
  unfolding dpsn leg_s
  dpsn_near = kept.times {a = leaf_a 2048} {b = leg_a} (kept.opp {a = leaf_a 2048} (w.S n m)) (leg_near kept i i' w n m nl).1 (fine_ok psn_a tt)

-- ---- main + offset·rate is such a coefficient
abbrev dated_a : Abs
dated_a = add_a (leaf_a 65536) (mul_a (leaf_a 5) (leaf_a 4096))

pub dated_near : {o : Arithmetic Float} {o' : Arithmetic Exact} (kept : Keeps o o') {main rate t : Float} → Leaf 65536 main → Leaf 4096 rate → Leaf 5 t
    → Nr coeff_a (coefficient o (o.num main) (o.num rate) (o.num t)) (coefficient o' (o'.num main) (o'.num rate) (o'.num t))
dated_near kept m r t =
    weaken (lit≤ tt) (lit≤ tt) (lit≤ tt) (kept.plus {a = leaf_a 65536} {b = mul_a (leaf_a 5) (leaf_a 4096)} (kept.num m)
    (kept.times {a = leaf_a 5} {b = leaf_a 4096} (kept.num t) (kept.num r) (fine_ok (mul_a (leaf_a 5) (leaf_a 4096)) tt)) (fine_ok dated_a tt))

-- ---- the small whole numbers, by a computed test
unfoldable small : ℕ → Bool
unfolding lit lib.Ieee.of_int lib.Ieee.round own
small m = finite (lit m) && leb ((own (lit m)).plus + (own (lit m)).minus) (TOP * (own (lit m)).over)

unfoldable all_small : ℕ → Bool
unfolding small
all_small zero = true
all_small (suc k) = small k && all_small k

all_at : (k m : ℕ) → m < k → T (all_small k) → T (small m)
unfolding all_small
all_at zero m l t = absurd (not-suc-le-zero l)
all_at (suc k) m l t = elim (eq-or-lt_of_le (le_of_suc-le-suc l)) [
  | inl e ↦ subst (λ (z : ℕ). T (small z)) (sym e) (and_l (small k) (all_small k) t)
  | inr h ↦ all_at k m h (and_r (small k) (all_small k) t)
]

all_orders : T (all_small ORDERS)
unfolding all_small
all_orders = tt

small_near : (m : ℕ) → T (small m) → Leaf TOP (lit m)
unfolding small
small_near m t =
    let b : Bool = leb ((own (lit m)).plus + (own (lit m)).minus) (TOP * (own (lit m)).over) in
    near_own (and_l (finite (lit m)) b t) (leb→le ((own (lit m)).plus + (own (lit m)).minus) (TOP * (own (lit m)).over) (and_r (finite (lit m)) b t))

pub lit_near : (m : ℕ) → m ≤ TOP → Leaf TOP (lit m)
lit_near m l = small_near m (all_at ORDERS m (omega arith) all_orders)
