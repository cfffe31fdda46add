-- The sums of the model, once, over any arithmetic (the Rust crate, synthesis.rs; WMM2025 TR, section 1.2). The order of every sum and product is the source's.
-- Definitions only. N is the highest degree; M is how many orders the near-pole path runs over.
use Rattle.std.specs.Prelude.{ℕ, zero, suc, ◌-◌, ◌&&◌, cond, eqb, ltb, Float}
use Rattle.sums.specs.Arithmetic.{Arithmetic, Pair, pair}
unfoldable pub use Rattle.exact.specs.Exact.{lit}

-- what the sums read: the colatitude's and the longitude's pair, a / r, the coefficients at the date by degree and order, and the factors S and K.
-- The coefficients are numbers of the arithmetic: how they are made of what is lent, the recurrences do not know
pub record Input (A : Type 0) : Type 0 where
  pub cos_theta : Float
  pub sin_theta : Float
  pub sin_lambda : Float
  pub cos_lambda : Float
  pub ratio : Float
  pub g : ℕ → ℕ → A
  pub h : ℕ → ℕ → A
  pub S : ℕ → ℕ → Float
  pub K : ℕ → ℕ → Float

-- ---- one step each, on values
module _ {A : Type 0} (o : Arithmetic A) where
  -- P and its derivative at n, m (gauss_norm_p_dp), from q' = row n - 1 at m - 1, q = row n - 1 at m, r = row n - 2 at m
  unfoldable pub step : A → A → A → ℕ → ℕ → Pair A → Pair A → Pair A → Pair A
  step c s k n m q' q r =
      cond (eqb n m) (pair (o.times s q'.fst) (o.plus (o.times s q'.snd) (o.times c q'.fst)))
      (cond (eqb n 1 && eqb m 0) (pair c (o.opp s))
      (cond (ltb (n - 2) m) (pair (o.times c q.fst) (o.less (o.times c q.snd) (o.times s q.fst)))
      (pair (o.less (o.times c q.fst) (o.times k r.fst)) (o.less (o.less (o.times c q.snd) (o.times s q.fst)) (o.times k r.snd)))))

  -- main + offset·rate (coeff_at_t)
  abbrev pub coefficient : A → A → A → A
  coefficient main rate t = o.plus main (o.times t rate)

  -- g cos + h sin and g sin - h cos, u the sine and the cosine
  abbrev pub gc : A → A → Pair A → A
  gc g h u = o.plus (o.times g u.snd) (o.times h u.fst)

  abbrev pub gs : A → A → Pair A → A
  gs g h u = o.less (o.times g u.fst) (o.times h u.snd)

  -- s·P and -s·dP, q the pair of P and dP
  abbrev pub ps : A → Pair A → A
  ps s q = o.times s q.fst

  abbrev pub dps : A → Pair A → A
  dps s q = o.times (o.opp s) q.snd

  -- the east term of order m: m·(g sin - h cos)·sP
  abbrev pub east : ℕ → A → A → A
  east m v p = o.times (o.times (o.num (lit m)) v) p

  -- (n + 1)·(a/r)^(n+2)·row
  abbrev pub downward : ℕ → A → A → A
  downward n power row = o.times (o.times (o.plus (o.num (lit n)) (o.num (lit 1))) power) row

  -- c·Q(n-1) - K-as-Q(n-2), of Q(n) = P(n, 1) / sin θ
  abbrev pub next_quotient : A → A → A → A → A
  next_quotient c k q1 q2 = o.less (o.times c q1) (o.times k q2)

  -- the east term near the pole: (a/r)^(n+2)·(g sin - h cos)·Q·s
  abbrev pub pole_east : A → A → A → A → A
  pole_east power v q s = o.times (o.times (o.times power v) q) s

-- ---- sin mλ, cos mλ (sin_cos_m_lambda)
module _ {A : Type 0} (o : Arithmetic A) (sin_lambda cos_lambda : Float) where
  unfoldable pub angle : ℕ → Pair A
  angle zero = pair (o.num (lit 0)) (o.num (lit 1))
  angle (suc m) =
      let a = angle m in
      pair (o.plus (o.times a.fst (o.num cos_lambda)) (o.times a.snd (o.num sin_lambda))) (o.less (o.times a.snd (o.num cos_lambda)) (o.times a.fst (o.num sin_lambda)))

  -- the same for the orders 0 and 1, as the near-pole path takes them
  unfoldable pub pole_angle : ℕ → Pair A
  pole_angle m = cond (eqb m 0) (pair (o.num (lit 0)) (o.num (lit 1))) (pair (o.num sin_lambda) (o.num cos_lambda))

module _ {A : Type 0} (o : Arithmetic A) (i : Input A) where
  -- P and its derivative by degree and order; P(0, 0) is 1
  abbrev row_step : ℕ → ℕ → Pair A → Pair A → Pair A → Pair A
  row_step n m = step o (o.num i.cos_theta) (o.num i.sin_theta) (o.num (i.K n m)) n m

  unfoldable pub legendre : ℕ → ℕ → Pair A
  legendre zero m = pair (cond (eqb m 0) (o.num (lit 1)) (o.num (lit 0))) (o.num (lit 0))
  legendre (suc zero) m = row_step 1 m (legendre zero (m - 1)) (legendre zero m) (pair (o.num (lit 0)) (o.num (lit 0)))
  legendre (suc (suc n)) m = row_step (suc (suc n)) m (legendre (suc n) (m - 1)) (legendre (suc n) m) (legendre n m)

  -- the first k terms of f, added up from 0
  unfoldable pub total : (ℕ → A) → ℕ → A
  total f zero = o.num (lit 0)
  total f (suc k) = o.plus (total f k) (f k)

  unfoldable pub gc_hs : ℕ → ℕ → A
  gc_hs n m = gc o (i.g n m) (i.h n m) (angle o i.sin_lambda i.cos_lambda m)

  unfoldable pub gs_hc : ℕ → ℕ → A
  gs_hc n m = gs o (i.g n m) (i.h n m) (angle o i.sin_lambda i.cos_lambda m)

  unfoldable pub psn : ℕ → ℕ → A
  psn n m = ps o (o.num (i.S n m)) (legendre n m)

  unfoldable pub dpsn : ℕ → ℕ → A
  dpsn n m = dps o (o.num (i.S n m)) (legendre n m)

  -- (a/r)^(n+2), at n = j + 1
  unfoldable pub power : ℕ → A
  power zero = o.times (o.times (o.num i.ratio) (o.num i.ratio)) (o.num i.ratio)
  power (suc j) = o.times (power j) (o.num i.ratio)

  -- ---- the general path (synthesize_xyz_prime): the terms of degree n by order, their sum over the orders, the sum over the degrees 1 to N
  abbrev pub x_term : ℕ → ℕ → A
  x_term n m = o.times (gc_hs n m) (dpsn n m)

  abbrev pub y_term : ℕ → ℕ → A
  y_term n m = east o m (gs_hc n m) (psn n m)

  abbrev pub z_term : ℕ → ℕ → A
  z_term n m = o.times (gc_hs n m) (psn n m)

  unfoldable pub x_row : ℕ → A
  x_row n = total (x_term n) (suc n)

  unfoldable pub y_row : ℕ → A
  y_row n = total (y_term n) (suc n)

  unfoldable pub z_row : ℕ → A
  z_row n = total (z_term n) (suc n)

  unfoldable pub x_sum : ℕ → A
  x_sum N = total (λ j. o.times (power j) (x_row (suc j))) N

  unfoldable pub y_sum : ℕ → A
  y_sum N = total (λ j. o.times (power j) (y_row (suc j))) N

  unfoldable pub z_sum : ℕ → A
  z_sum N = total (λ j. downward o (suc j) (power j) (z_row (suc j))) N

  -- ---- the near-pole path (synthesize_near_pole): the orders below M, and east Y by the recurrence for Q
  unfoldable pub quotient : ℕ → A
  quotient zero = o.num (lit 1)
  quotient (suc zero) = o.num (lit 1)
  quotient (suc (suc n)) = next_quotient o (o.num i.cos_theta) (o.num (i.K (suc (suc n)) 1)) (quotient (suc n)) (quotient n)

  unfoldable pub pole_gc : ℕ → ℕ → A
  pole_gc n m = gc o (i.g n m) (i.h n m) (pole_angle o i.sin_lambda i.cos_lambda m)

  unfoldable pub pole_gs : ℕ → ℕ → A
  pole_gs n m = gs o (i.g n m) (i.h n m) (pole_angle o i.sin_lambda i.cos_lambda m)

  abbrev pub pole_x_term : ℕ → ℕ → A
  pole_x_term n m = o.times (pole_gc n m) (dpsn n m)

  abbrev pub pole_z_term : ℕ → ℕ → A
  pole_z_term n m = o.times (pole_gc n m) (psn n m)

  module _ (M : ℕ) where
    unfoldable pub pole_x_row : ℕ → A
    pole_x_row n = total (pole_x_term n) M

    unfoldable pub pole_z_row : ℕ → A
    pole_z_row n = total (pole_z_term n) M

    unfoldable pub pole_x : ℕ → A
    pole_x N = total (λ j. o.times (power j) (pole_x_row (suc j))) N

    unfoldable pub pole_z : ℕ → A
    pole_z N = total (λ j. downward o (suc j) (power j) (pole_z_row (suc j))) N

  unfoldable pub pole_y : ℕ → A
  pole_y N = total (λ j. pole_east o (power j) (pole_gs (suc j) 1) (quotient (suc j)) (o.num (i.S (suc j) 1))) N
