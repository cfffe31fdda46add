-- A relation between two arithmetics that every operation keeps holds between the sums of two inputs, where it holds of what they read.
use mathlib.Core.Path.{◌≡◌}
use Prim.Native.Nat.{ℕ, zero, suc, ◌-◌}
use mathlib.Core.Bool.{Bool, true, false, ◌&&◌, cond}
use lib.Dec.{eqb, ltb}
use lib.Ieee.{Float}
use Rattle.sums.specs.Arithmetic.{Arithmetic, Pair}
use Rattle.sums.specs.Recurrence.{Input, angle, dpsn, gc_hs, gs_hc, legendre, lit, pole_angle, pole_gc, pole_gs, pole_x, pole_x_row, pole_y, pole_z, pole_z_row, power, psn, quotient, step, total, x_row, x_sum, y_row, y_sum, z_row, z_sum}
use Rattle.sums.specs.Paths.{POLE_ORDERS, path_x, path_y, path_z, small_sine}

-- every operation keeps R
pub record Related {A B : Type 0} (o : Arithmetic A) (o' : Arithmetic B) (R : A → B → Type 0) : Type 0 where
  pub plus : {x y : A} {x' y' : B} → R x x' → R y y' → R (o.plus x y) (o'.plus x' y')
  pub less : {x y : A} {x' y' : B} → R x x' → R y y' → R (o.less x y) (o'.less x' y')
  pub times : {x y : A} {x' y' : B} → R x x' → R y y' → R (o.times x y) (o'.times x' y')
  pub opp : {x : A} {x' : B} → R x x' → R (o.opp x) (o'.opp x')
  pub over : {x : A} {x' : B} (f : Float) → R x x' → R (o.over x f) (o'.over x' f)
  pub num : (f : Float) → R (o.num f) (o'.num f)

-- R holds of what the sums read of i and of j: the pairs, the ratio, the tables, and the coefficients at the date
pub record Alike {A B : Type 0} (o : Arithmetic A) (o' : Arithmetic B) (R : A → B → Type 0) (i : Input A) (j : Input B) : Type 0 where
  pub cos_theta : R (o.num i.cos_theta) (o'.num j.cos_theta)
  pub sin_theta : R (o.num i.sin_theta) (o'.num j.sin_theta)
  pub sin_lambda : R (o.num i.sin_lambda) (o'.num j.sin_lambda)
  pub cos_lambda : R (o.num i.cos_lambda) (o'.num j.cos_lambda)
  pub ratio : R (o.num i.ratio) (o'.num j.ratio)
  pub S : (n m : ℕ) → R (o.num (i.S n m)) (o'.num (j.S n m))
  pub K : (n m : ℕ) → R (o.num (i.K n m)) (o'.num (j.K n m))
  pub g : (n m : ℕ) → R (i.g n m) (j.g n m)
  pub h : (n m : ℕ) → R (i.h n m) (j.h n m)

module _ {A B : Type 0} (o : Arithmetic A) (o' : Arithmetic B) (R : A → B → Type 0) (k : Related o o' R) where
  cond_related : (b : Bool) {x y : A} {x' y' : B} → R x x' → R y y' → R (cond b x y) (cond b x' y')
  cond_related true p q = p
  cond_related false p q = q

  -- R holds of both numbers of a pair
  record Both (p : Pair A) (q : Pair B) : Type 0 where
    fst : R p.fst q.fst
    snd : R p.snd q.snd

  cond_both : (b : Bool) {x y : Pair A} {x' y' : Pair B} → Both x x' → Both y y' → Both (cond b x y) (cond b x' y')
  cond_both true p q = p
  cond_both false p q = q

  module _ (i : Input A) (j : Input B) (a : Alike o o' R i j) where
    angle_related : (m : ℕ) → Both (angle o i.sin_lambda i.cos_lambda m) (angle o' j.sin_lambda j.cos_lambda m)
    unfolding angle
    angle_related zero = record { fst = k.num (lit 0); snd = k.num (lit 1) }
    angle_related (suc m) =
        let e = angle_related m in
        record {
          fst = k.plus (k.times e.fst a.cos_lambda) (k.times e.snd a.sin_lambda);
          snd = k.less (k.times e.snd a.cos_lambda) (k.times e.fst a.sin_lambda);
        }

    step_related : (n m : ℕ) {q' q r : Pair A} {p' p s : Pair B} → Both q' p' → Both q p → Both r s
        → Both (step o (o.num i.cos_theta) (o.num i.sin_theta) (o.num (i.K n m)) n m q' q r) (step o' (o'.num j.cos_theta) (o'.num j.sin_theta) (o'.num (j.K n m)) n m p' p s)
    unfolding step
    step_related n m e' e f =
        cond_both (eqb n m) (record { fst = k.times a.sin_theta e'.fst; snd = k.plus (k.times a.sin_theta e'.snd) (k.times a.cos_theta e'.fst) })
        (cond_both (eqb n 1 && eqb m 0) (record { fst = a.cos_theta; snd = k.opp a.sin_theta })
        (cond_both (ltb (n - 2) m) (record { fst = k.times a.cos_theta e.fst; snd = k.less (k.times a.cos_theta e.snd) (k.times a.sin_theta e.fst) })
        (record {
          fst = k.less (k.times a.cos_theta e.fst) (k.times (a.K n m) f.fst);
          snd = k.less (k.less (k.times a.cos_theta e.snd) (k.times a.sin_theta e.fst)) (k.times (a.K n m) f.snd);
        })))

    legendre_related : (n m : ℕ) → Both (legendre o i n m) (legendre o' j n m)
    unfolding legendre
    legendre_related zero m = record { fst = cond_related (eqb m 0) (k.num (lit 1)) (k.num (lit 0)); snd = k.num (lit 0) }
    legendre_related (suc zero) m = step_related 1 m (legendre_related zero (m - 1)) (legendre_related zero m) (record { fst = k.num (lit 0); snd = k.num (lit 0) })
    legendre_related (suc (suc n)) m = step_related (suc (suc n)) m (legendre_related (suc n) (m - 1)) (legendre_related (suc n) m) (legendre_related n m)

    total_related : (f : ℕ → A) (g : ℕ → B) → ((m : ℕ) → R (f m) (g m)) → (n : ℕ) → R (total o i f n) (total o' j g n)
    unfolding total
    total_related f g e zero = k.num (lit 0)
    total_related f g e (suc n) = k.plus (total_related f g e n) (e n)

    module _ (n m : ℕ) where
      gc_related : R (gc_hs o i n m) (gc_hs o' j n m)
      unfolding gc_hs
      gc_related = k.plus (k.times (a.g n m) (angle_related m).snd) (k.times (a.h n m) (angle_related m).fst)

      gs_related : R (gs_hc o i n m) (gs_hc o' j n m)
      unfolding gs_hc
      gs_related = k.less (k.times (a.g n m) (angle_related m).fst) (k.times (a.h n m) (angle_related m).snd)

      psn_related : R (psn o i n m) (psn o' j n m)
      unfolding psn
      psn_related = k.times (a.S n m) (legendre_related n m).fst

      dpsn_related : R (dpsn o i n m) (dpsn o' j n m)
      unfolding dpsn
      dpsn_related = k.times (k.opp (a.S n m)) (legendre_related n m).snd

    power_related : (n : ℕ) → R (power o i n) (power o' j n)
    unfolding power
    power_related zero = k.times (k.times a.ratio a.ratio) a.ratio
    power_related (suc n) = k.times (power_related n) a.ratio

    -- (n + 1)·(a/r)^(n+2)
    downward_related : (n : ℕ) → R (o.times (o.plus (o.num (lit (suc n))) (o.num (lit 1))) (power o i n)) (o'.times (o'.plus (o'.num (lit (suc n))) (o'.num (lit 1))) (power o' j n))
    downward_related n = k.times (k.plus (k.num (lit (suc n))) (k.num (lit 1))) (power_related n)

    x_row_related : (n : ℕ) → R (x_row o i n) (x_row o' j n)
    unfolding x_row
    x_row_related n = total_related _ _ (λ (m : ℕ). k.times (gc_related n m) (dpsn_related n m)) (suc n)

    y_row_related : (n : ℕ) → R (y_row o i n) (y_row o' j n)
    unfolding y_row
    y_row_related n = total_related _ _ (λ (m : ℕ). k.times (k.times (k.num (lit m)) (gs_related n m)) (psn_related n m)) (suc n)

    z_row_related : (n : ℕ) → R (z_row o i n) (z_row o' j n)
    unfolding z_row
    z_row_related n = total_related _ _ (λ (m : ℕ). k.times (gc_related n m) (psn_related n m)) (suc n)

    pub x_sum_related : (N : ℕ) → R (x_sum o i N) (x_sum o' j N)
    unfolding x_sum
    x_sum_related N = total_related _ _ (λ (n : ℕ). k.times (power_related n) (x_row_related (suc n))) N

    pub y_sum_related : (N : ℕ) → R (y_sum o i N) (y_sum o' j N)
    unfolding y_sum
    y_sum_related N = total_related _ _ (λ (n : ℕ). k.times (power_related n) (y_row_related (suc n))) N

    pub z_sum_related : (N : ℕ) → R (z_sum o i N) (z_sum o' j N)
    unfolding z_sum
    z_sum_related N = total_related _ _ (λ (n : ℕ). k.times (downward_related n) (z_row_related (suc n))) N

    -- ---- near the pole
    quotient_related : (n : ℕ) → R (quotient o i n) (quotient o' j n)
    unfolding quotient
    quotient_related zero = k.num (lit 1)
    quotient_related (suc zero) = k.num (lit 1)
    quotient_related (suc (suc n)) = k.less (k.times a.cos_theta (quotient_related (suc n))) (k.times (a.K (suc (suc n)) 1) (quotient_related n))

    pole_angle_related : (m : ℕ) → Both (pole_angle o i.sin_lambda i.cos_lambda m) (pole_angle o' j.sin_lambda j.cos_lambda m)
    unfolding pole_angle
    pole_angle_related m = cond_both (eqb m 0) (record { fst = k.num (lit 0); snd = k.num (lit 1) }) (record { fst = a.sin_lambda; snd = a.cos_lambda })

    module _ (n m : ℕ) where
      pole_gc_related : R (pole_gc o i n m) (pole_gc o' j n m)
      unfolding pole_gc
      pole_gc_related = k.plus (k.times (a.g n m) (pole_angle_related m).snd) (k.times (a.h n m) (pole_angle_related m).fst)

      pole_gs_related : R (pole_gs o i n m) (pole_gs o' j n m)
      unfolding pole_gs
      pole_gs_related = k.less (k.times (a.g n m) (pole_angle_related m).fst) (k.times (a.h n m) (pole_angle_related m).snd)

    module _ (M : ℕ) where
      pole_x_row_related : (n : ℕ) → R (pole_x_row o i M n) (pole_x_row o' j M n)
      unfolding pole_x_row
      pole_x_row_related n = total_related _ _ (λ (m : ℕ). k.times (pole_gc_related n m) (dpsn_related n m)) M

      pole_z_row_related : (n : ℕ) → R (pole_z_row o i M n) (pole_z_row o' j M n)
      unfolding pole_z_row
      pole_z_row_related n = total_related _ _ (λ (m : ℕ). k.times (pole_gc_related n m) (psn_related n m)) M

      pub pole_x_related : (N : ℕ) → R (pole_x o i M N) (pole_x o' j M N)
      unfolding pole_x
      pole_x_related N = total_related _ _ (λ (n : ℕ). k.times (power_related n) (pole_x_row_related (suc n))) N

      pub pole_z_related : (N : ℕ) → R (pole_z o i M N) (pole_z o' j M N)
      unfolding pole_z
      pole_z_related N = total_related _ _ (λ (n : ℕ). k.times (downward_related n) (pole_z_row_related (suc n))) N

    pub pole_y_related : (N : ℕ) → R (pole_y o i N) (pole_y o' j N)
    unfolding pole_y
    pole_y_related N = total_related _ _ (λ (n : ℕ). k.times (k.times (k.times (power_related n) (pole_gs_related (suc n) 1)) (quotient_related (suc n))) (a.S (suc n) 1)) N

  -- ---- both paths
  by_sine : (f g : Float) {x y : A} {x' y' : B} → g ≡ f → R x x' → R y y' → R (cond (small_sine f) x y) (cond (small_sine g) x' y')
  by_sine f g e p q = rw e (cond_related (small_sine f) p q)

  over_sine : (f g : Float) {x : A} {x' : B} → g ≡ f → R x x' → R (o.over x f) (o'.over x' g)
  over_sine f g e p = rw e (k.over f p)

  module _ (i : Input A) (j : Input B) (s : j.sin_theta ≡ i.sin_theta) (a : Alike o o' R i j) (N : ℕ) where
    pub path_x_related : R (path_x o i N) (path_x o' j N)
    path_x_related = by_sine i.sin_theta j.sin_theta s (pole_x_related i j a POLE_ORDERS N) (x_sum_related i j a N)

    pub path_y_related : R (path_y o i N) (path_y o' j N)
    path_y_related = by_sine i.sin_theta j.sin_theta s (pole_y_related i j a N) (over_sine i.sin_theta j.sin_theta s (y_sum_related i j a N))

    pub path_z_related : R (path_z o i N) (path_z o' j N)
    path_z_related = by_sine i.sin_theta j.sin_theta s (pole_z_related i j a POLE_ORDERS N) (z_sum_related i j a N)
