-- The sums on floats lie near the exact ones, on both paths, for any two arithmetics of which one keeps near the other.
use mathlib.Core.Path.{◌≡◌, ap, subst, sym}
use Prim.Native.Nat.{ℕ, zero, suc, ◌+◌, ◌≤◌, ◌<◌}
use native.Mathlib.Nat.{le_refl, le_trans}
use native.Mathlib.Omega.{arith}
use mathlib.Core.Bool.{Bool, true, false, not, ◌&&◌, cond}
use lib.Dec.{T, eqb, lit≤}
use lib.Ieee.{Float}
use Rattle.exact.proofs.Ranks.{Abs, FineA, Nr, Under, add_a, fine_below, fine_ok, fine_under, grows, leaf_a, mul_a, nr_under}
use Rattle.exact.specs.Exact.{Exact}
use Rattle.sums.specs.Recurrence.{Input, lit, pole_angle, pole_gc, pole_gs, pole_x, pole_x_row, pole_y, pole_z, pole_z_row, power, quotient, total, x_row, x_sum, y_row, y_sum, z_row, z_sum}
use Rattle.sums.proofs.Terms.{ORDERS, TOP, NrP, Ok, ang_s, by_one, by_two, choose, coeff_a, dpsn_near, gc_near, gs_near, leg_up, leg_a, leg_s, lit_0, lit_1, lit_near, pair_a, pow_near, pow_a, pow_s, psn_near, psn_a, take_away}
use Rattle.sums.specs.Paths.{POLE_ORDERS, path_x, path_y, path_z, small_sine}
use Rattle.exact.proofs.Near.{weaken}
use Rattle.sums.specs.Arithmetic.{Arithmetic}
use Rattle.sums.proofs.Keeps.{Divides, Keeps}

-- ---- sums of k terms of the same bound
unfoldable pub acc_a : Abs → ℕ → Abs
acc_a a zero = record { rank = a.rank; size = 1; slack = 0 }
acc_a a (suc k) = record { rank = suc (acc_a a k).rank; size = (acc_a a k).size + a.size; slack = (acc_a a k).slack + a.slack + 1 }

acc_rank : (a : Abs) (k : ℕ) → a.rank ≤ (acc_a a k).rank
unfolding acc_a
acc_rank a zero = le_refl a.rank
acc_rank a (suc k) = let h = acc_rank a k in omega arith

acc_up : (a : Abs) (k : ℕ) → Under (acc_a a k) (acc_a a (suc k))
unfolding acc_a
acc_up a k = (omega arith, omega arith, omega arith)

module _ {o : Arithmetic Float} {o' : Arithmetic Exact} (kept : Keeps o o') (i : Input Float) (i' : Input Exact) (a : Abs) (f : ℕ → Float) (x : ℕ → Exact) where
  total_near : (k : ℕ) → FineA (acc_a a k) → ((j : ℕ) → j < k → Nr a (f j) (x j)) → Nr (acc_a a k) (total o i f k) (total o' i' x k)
  unfolding total acc_a
  total_near zero F h = weaken (omega arith) (le_refl 1) (le_refl 0) (kept.num lit_0)
  total_near (suc k) F h =
      let t = total_near k (fine_below F (omega arith) (omega arith) (omega arith)) (λ (j : ℕ) (l : j < k). h j (omega arith)) in
      let r = acc_rank a k in
      weaken (omega arith) (omega arith) (omega arith) (kept.plus {a = acc_a a k} {b = a} t (h k (omega arith)) (fine_below F (omega arith) (omega arith) (omega arith)))

  total_upto : (n k : ℕ) → n ≤ k → FineA (acc_a a k) → ((j : ℕ) → j < n → Nr a (f j) (x j)) → Nr (acc_a a k) (total o i f n) (total o' i' x n)
  total_upto n k l F h = let u = grows (acc_a a) (acc_up a) n k l in nr_under u (total_near n (fine_under u F) h)

-- ---- the general path: a row of the orders 0 to n, then the degrees 1 to TOP
abbrev pub xt_a : Abs
xt_a = mul_a pair_a psn_a

abbrev pub yt_a : Abs
yt_a = mul_a (mul_a (leaf_a TOP) pair_a) psn_a

-- n + 1
abbrev pub degree_a : Abs
degree_a = add_a (leaf_a TOP) (leaf_a 1)

module _ {o : Arithmetic Float} {o' : Arithmetic Exact} (kept : Keeps o o') (i : Input Float) (i' : Input Exact) (w : Ok o o' i i') (n : ℕ) (nl : n ≤ TOP) where
  order : (m : ℕ) → m < suc n → m ≤ TOP
  order m l = omega arith

  x_row_near : Nr (acc_a xt_a ORDERS) (x_row o i n) (x_row o' i' n)
  unfolding x_row acc_a leg_s ang_s
  x_row_near =
      total_upto kept i i' xt_a _ _ (suc n) ORDERS (omega arith) (fine_ok (acc_a xt_a ORDERS) tt)
      (λ (m : ℕ) (l : m < suc n). kept.times {a = pair_a} {b = psn_a} (gc_near kept i i' w n m nl (order m l)) (dpsn_near kept i i' w n m nl (order m l)) (fine_ok xt_a tt))

  z_row_near : Nr (acc_a xt_a ORDERS) (z_row o i n) (z_row o' i' n)
  unfolding z_row acc_a leg_s ang_s
  z_row_near =
      total_upto kept i i' xt_a _ _ (suc n) ORDERS (omega arith) (fine_ok (acc_a xt_a ORDERS) tt)
      (λ (m : ℕ) (l : m < suc n). kept.times {a = pair_a} {b = psn_a} (gc_near kept i i' w n m nl (order m l)) (psn_near kept i i' w n m nl (order m l)) (fine_ok xt_a tt))

  y_row_near : Nr (acc_a yt_a ORDERS) (y_row o i n) (y_row o' i' n)
  unfolding y_row acc_a leg_s ang_s
  y_row_near =
      total_upto kept i i' yt_a _ _ (suc n) ORDERS (omega arith) (fine_ok (acc_a yt_a ORDERS) tt)
      (λ (m : ℕ) (l : m < suc n). kept.times {a = mul_a (leaf_a TOP) pair_a} {b = psn_a}
      (kept.times {a = leaf_a TOP} {b = pair_a} (kept.num (lit_near m (order m l))) (gs_near kept i i' w n m nl (order m l)) (fine_ok (mul_a (leaf_a TOP) pair_a) tt)) (psn_near kept i i' w n m nl (order m l)) (fine_ok yt_a tt))

abbrev pub xs_a : Abs
xs_a = mul_a pow_a (acc_a xt_a ORDERS)

abbrev pub ys_a : Abs
ys_a = mul_a pow_a (acc_a yt_a ORDERS)

abbrev pub zs_a : Abs
zs_a = mul_a (mul_a degree_a pow_a) (acc_a xt_a ORDERS)

module _ {o : Arithmetic Float} {o' : Arithmetic Exact} (kept : Keeps o o') (i : Input Float) (i' : Input Exact) (w : Ok o o' i i') where
  downward_factor : (j : ℕ) → j < TOP → Nr (mul_a degree_a pow_a) (o.times (o.plus (o.num (lit (suc j))) (o.num (lit 1))) (power o i j)) (o'.times (o'.plus (o'.num (lit (suc j))) (o'.num (lit 1))) (power o' i' j))
  unfolding pow_s
  downward_factor j l =
      kept.times {a = degree_a} {b = pow_a} (kept.plus {a = leaf_a TOP} {b = leaf_a 1} (kept.num (lit_near (suc j) l)) (kept.num lit_1) (fine_ok degree_a tt)) (pow_near kept i i' w j l)
      (fine_ok (mul_a degree_a pow_a) tt)

  pub x_sum_near : (N : ℕ) → N ≤ TOP → Nr (acc_a xs_a TOP) (x_sum o i N) (x_sum o' i' N)
  unfolding x_sum acc_a leg_s ang_s pow_s
  x_sum_near N L =
      total_upto kept i i' xs_a _ _ N TOP L (fine_ok (acc_a xs_a TOP) tt)
      (λ (j : ℕ) (k : j < N). let l = le_trans k L in kept.times {a = pow_a} {b = acc_a xt_a ORDERS} (pow_near kept i i' w j l) (x_row_near kept i i' w (suc j) l) (fine_ok xs_a tt))

  pub y_sum_near : (N : ℕ) → N ≤ TOP → Nr (acc_a ys_a TOP) (y_sum o i N) (y_sum o' i' N)
  unfolding y_sum acc_a leg_s ang_s pow_s
  y_sum_near N L =
      total_upto kept i i' ys_a _ _ N TOP L (fine_ok (acc_a ys_a TOP) tt)
      (λ (j : ℕ) (k : j < N). let l = le_trans k L in kept.times {a = pow_a} {b = acc_a yt_a ORDERS} (pow_near kept i i' w j l) (y_row_near kept i i' w (suc j) l) (fine_ok ys_a tt))

  pub z_sum_near : (N : ℕ) → N ≤ TOP → Nr (acc_a zs_a TOP) (z_sum o i N) (z_sum o' i' N)
  unfolding z_sum acc_a leg_s ang_s pow_s
  z_sum_near N L =
      total_upto kept i i' zs_a _ _ N TOP L (fine_ok (acc_a zs_a TOP) tt)
      (λ (j : ℕ) (k : j < N). let l = le_trans k L in kept.times {a = mul_a degree_a pow_a} {b = acc_a xt_a ORDERS} (downward_factor j l) (z_row_near kept i i' w (suc j) l) (fine_ok zs_a tt))

-- ---- the near-pole path
module _ {o : Arithmetic Float} {o' : Arithmetic Exact} (kept : Keeps o o') (i : Input Float) (i' : Input Exact) (w : Ok o o' i i') where
  quot_near : (n : ℕ) → FineA (leg_s n) → Nr (leg_s n) (quotient o i n) (quotient o' i' n)
  unfolding quotient leg_s
  quot_near zero F = kept.num lit_1
  quot_near (suc zero) F = weaken (omega arith) (omega arith) (omega arith) (kept.num lit_1)
  quot_near (suc (suc n)) F =
      let G : FineA (leg_s (suc n)) = fine_under (leg_up (suc n)) F in
      take_away kept (leg_s (suc n)) F (by_two kept (leg_s (suc n)) F w.cos_theta (quot_near (suc n) G))
      (by_one kept (leg_s (suc n)) F (w.K (suc (suc n)) 1) (nr_under (leg_up n) (quot_near n (fine_under (leg_up n) G))))

  q_near : (n : ℕ) → n ≤ TOP → Nr leg_a (quotient o i n) (quotient o' i' n)
  unfolding leg_s
  q_near n l = let u = grows leg_s leg_up n TOP l in nr_under u (quot_near n (fine_under u (fine_ok leg_a tt)))

  pole_angle_near : (m : ℕ) → NrP (leaf_a 2) (pole_angle o i.sin_lambda i.cos_lambda m) (pole_angle o' i'.sin_lambda i'.cos_lambda m)
  unfolding pole_angle
  pole_angle_near m =
      choose (eqb m 0) _ _ _ _ (weaken (le_refl 0) (lit≤ tt) (le_refl 0) (kept.num lit_0), weaken (le_refl 0) (lit≤ tt) (le_refl 0) (kept.num lit_1)) (w.sin_lambda, w.cos_lambda)

abbrev pub pole_a : Abs
pole_a = add_a (mul_a coeff_a (leaf_a 2)) (mul_a coeff_a (leaf_a 2))

abbrev pub pt_a : Abs
pt_a = mul_a pole_a psn_a

abbrev pub px_a : Abs
px_a = mul_a pow_a (acc_a pt_a POLE_ORDERS)

abbrev pub py_a : Abs
py_a = mul_a (mul_a (mul_a pow_a pole_a) leg_a) (leaf_a 2048)

abbrev pub pz_a : Abs
pz_a = mul_a (mul_a degree_a pow_a) (acc_a pt_a POLE_ORDERS)

module _ {o : Arithmetic Float} {o' : Arithmetic Exact} (kept : Keeps o o') (i : Input Float) (i' : Input Exact) (w : Ok o o' i i') where
  p_gc_near : (n m : ℕ) → n ≤ TOP → m ≤ TOP → Nr pole_a (pole_gc o i n m) (pole_gc o' i' n m)
  unfolding pole_gc
  p_gc_near n m nl ml =
      let a = pole_angle_near kept i i' w m in
      kept.plus {a = mul_a coeff_a (leaf_a 2)} {b = mul_a coeff_a (leaf_a 2)} (kept.times {a = coeff_a} {b = leaf_a 2} (w.g n m) a.1 (fine_ok (mul_a coeff_a (leaf_a 2)) tt))
      (kept.times {a = coeff_a} {b = leaf_a 2} (w.h n m) a.0 (fine_ok (mul_a coeff_a (leaf_a 2)) tt)) (fine_ok pole_a tt)

  p_gs_near : (n m : ℕ) → n ≤ TOP → m ≤ TOP → Nr pole_a (pole_gs o i n m) (pole_gs o' i' n m)
  unfolding pole_gs
  p_gs_near n m nl ml =
      let a = pole_angle_near kept i i' w m in
      kept.less {a = mul_a coeff_a (leaf_a 2)} {b = mul_a coeff_a (leaf_a 2)} (kept.times {a = coeff_a} {b = leaf_a 2} (w.g n m) a.0 (fine_ok (mul_a coeff_a (leaf_a 2)) tt))
      (kept.times {a = coeff_a} {b = leaf_a 2} (w.h n m) a.1 (fine_ok (mul_a coeff_a (leaf_a 2)) tt)) (fine_ok pole_a tt)

  low_order : (m : ℕ) → m < POLE_ORDERS → m ≤ TOP
  low_order m l = omega arith

  p_x_row_near : (n : ℕ) → n ≤ TOP → Nr (acc_a pt_a POLE_ORDERS) (pole_x_row o i POLE_ORDERS n) (pole_x_row o' i' POLE_ORDERS n)
  unfolding pole_x_row acc_a leg_s
  p_x_row_near n nl =
      total_near kept i i' pt_a _ _ POLE_ORDERS (fine_ok (acc_a pt_a POLE_ORDERS) tt)
      (λ (m : ℕ) (l : m < POLE_ORDERS). kept.times {a = pole_a} {b = psn_a} (p_gc_near n m nl (low_order m l)) (dpsn_near kept i i' w n m nl (low_order m l)) (fine_ok pt_a tt))

  p_z_row_near : (n : ℕ) → n ≤ TOP → Nr (acc_a pt_a POLE_ORDERS) (pole_z_row o i POLE_ORDERS n) (pole_z_row o' i' POLE_ORDERS n)
  unfolding pole_z_row acc_a leg_s
  p_z_row_near n nl =
      total_near kept i i' pt_a _ _ POLE_ORDERS (fine_ok (acc_a pt_a POLE_ORDERS) tt)
      (λ (m : ℕ) (l : m < POLE_ORDERS). kept.times {a = pole_a} {b = psn_a} (p_gc_near n m nl (low_order m l)) (psn_near kept i i' w n m nl (low_order m l)) (fine_ok pt_a tt))

  pub pole_x_near : (N : ℕ) → N ≤ TOP → Nr (acc_a px_a TOP) (pole_x o i POLE_ORDERS N) (pole_x o' i' POLE_ORDERS N)
  unfolding pole_x acc_a leg_s pow_s
  pole_x_near N L =
      total_upto kept i i' px_a _ _ N TOP L (fine_ok (acc_a px_a TOP) tt)
      (λ (j : ℕ) (k : j < N). let l = le_trans k L in kept.times {a = pow_a} {b = acc_a pt_a POLE_ORDERS} (pow_near kept i i' w j l) (p_x_row_near (suc j) l) (fine_ok px_a tt))

  pub pole_y_near : (N : ℕ) → N ≤ TOP → Nr (acc_a py_a TOP) (pole_y o i N) (pole_y o' i' N)
  unfolding pole_y acc_a leg_s pow_s
  pole_y_near N L =
      total_upto kept i i' py_a _ _ N TOP L (fine_ok (acc_a py_a TOP) tt)
      (λ (j : ℕ) (k : j < N). let l = le_trans k L in kept.times {a = mul_a (mul_a pow_a pole_a) leg_a} {b = leaf_a 2048}
      (kept.times {a = mul_a pow_a pole_a} {b = leg_a} (kept.times {a = pow_a} {b = pole_a} (pow_near kept i i' w j l) (p_gs_near (suc j) 1 l (lit≤ tt)) (fine_ok (mul_a pow_a pole_a) tt)) (q_near kept i i' w (suc j) l) (fine_ok (mul_a (mul_a pow_a pole_a) leg_a) tt))
      (w.S (suc j) 1) (fine_ok py_a tt))

  pub pole_z_near : (N : ℕ) → N ≤ TOP → Nr (acc_a pz_a TOP) (pole_z o i POLE_ORDERS N) (pole_z o' i' POLE_ORDERS N)
  unfolding pole_z acc_a leg_s pow_s
  pole_z_near N L =
      total_upto kept i i' pz_a _ _ N TOP L (fine_ok (acc_a pz_a TOP) tt)
      (λ (j : ℕ) (k : j < N). let l = le_trans k L in kept.times {a = mul_a degree_a pow_a} {b = acc_a pt_a POLE_ORDERS} (downward_factor kept i i' w j l) (p_z_row_near (suc j) l) (fine_ok pz_a tt))

-- ---- both paths: the bound of the general path is the wider one
-- of X' and Z'
abbrev pub sum_a : Abs
sum_a = acc_a zs_a TOP

-- of Y
abbrev pub east_a : Abs
east_a = mul_a (acc_a ys_a TOP) (leaf_a 1024)

-- one bound for both
by_path : {a : Abs} (b c : Bool) {f g : Float} {x y : Exact} → c ≡ b → (T b → Nr a f x) → (T (not b) → Nr a g y) → Nr a (cond b f g) (cond c x y)
by_path true c e p q = rw e (p tt)
by_path false c e p q = rw e (q tt)

module _ {o : Arithmetic Float} {o' : Arithmetic Exact} (kept : Keeps o o') (i : Input Float) (i' : Input Exact) (w : Ok o o' i i') (N : ℕ) (l : N ≤ TOP) where
  same_path : small_sine i'.sin_theta ≡ small_sine i.sin_theta
  same_path = ap small_sine w.sine

  pub path_x_near : Nr sum_a (path_x o i N) (path_x o' i' N)
  unfolding acc_a leg_s ang_s pow_s
  path_x_near = by_path {a = sum_a} (small_sine i.sin_theta) (small_sine i'.sin_theta) same_path (λ t. weaken (lit≤ tt) (lit≤ tt) (lit≤ tt) (pole_x_near kept i i' w N l)) (λ t. weaken (lit≤ tt) (lit≤ tt) (lit≤ tt) (x_sum_near kept i i' w N l))

  pub path_z_near : Nr sum_a (path_z o i N) (path_z o' i' N)
  unfolding acc_a leg_s ang_s pow_s
  path_z_near = by_path {a = sum_a} (small_sine i.sin_theta) (small_sine i'.sin_theta) same_path (λ t. weaken (lit≤ tt) (lit≤ tt) (lit≤ tt) (pole_z_near kept i i' w N l)) (λ t. z_sum_near kept i i' w N l)

  -- on the general path Y' is divided by the sine
  pub path_y_near : (T (not (small_sine i.sin_theta)) → Divides 1024 i.sin_theta) → Nr east_a (path_y o i N) (path_y o' i' N)
  unfolding acc_a leg_s ang_s pow_s
  path_y_near d =
      by_path {a = east_a} (small_sine i.sin_theta) (small_sine i'.sin_theta) same_path (λ t. weaken (lit≤ tt) (lit≤ tt) (lit≤ tt) (pole_y_near kept i i' w N l))
      (λ t. subst (λ (s : Float). Nr east_a (o.over (y_sum o i N) i.sin_theta) (o'.over (y_sum o' i' N) s)) (sym w.sine) (kept.over {a = acc_a ys_a TOP} 1024 i.sin_theta (y_sum_near kept i i' w N l) (d t) (fine_ok east_a tt)))

-- the ranks that it comes to, at degree 13 with the coefficients of four roundings
ranks : T (eqb (acc_a xs_a TOP).rank 115 && eqb (acc_a ys_a TOP).rank 116 && eqb (acc_a zs_a TOP).rank 117 && eqb east_a.rank 117)
unfolding acc_a leg_s ang_s pow_s
ranks = tt

pole_ranks : T (eqb (acc_a px_a TOP).rank 77 && eqb (acc_a py_a TOP).rank 75 && eqb (acc_a pz_a TOP).rank 79)
unfolding acc_a leg_s ang_s pow_s
pole_ranks = tt
