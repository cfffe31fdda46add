-- What the sums read of lent lists and of the two factors, and the two paths. Definitions only.
use Rattle.std.specs.Prelude.{Bool, false, cond, List, ℕ, ◌-◌, pos, get_or, Float}
use Rattle.std.specs.Float.{fin, binary32}
use Rattle.std.specs.Float.Ieee.{of_bits, lt}
use Rattle.exact.specs.Tests.{abs}
use Rattle.tables.specs.Degree.{place}
use Rattle.tables.specs.Tables.{schmidt_at}
use Rattle.tables.specs.Rule.{k_of}
use Rattle.sums.specs.Arithmetic.{Arithmetic}
use Rattle.sums.specs.Recurrence.{Input, coefficient, pole_x, pole_y, pole_z, x_sum, y_sum, z_sum}

-- ---- what the sums read
abbrev pub nought : Float
nought = fin false 0 (pos 0)

-- the years between two sets
abbrev pub five : Float
five = of_bits binary32 0x40a00000

-- the entry of degree n and order m (coeff_index)
abbrev pub at : List Float → ℕ → ℕ → Float
at l n m = get_or l (place n m - 1) nought

-- a coefficient at the date, of two lists: main + offset·rate
abbrev pub dated : {A : Type 0} → Arithmetic A → List Float → List Float → Float → ℕ → ℕ → A
dated o main rate t n m = coefficient o (o.num (at main n m)) (o.num (at rate n m)) (o.num t)

-- the yearly rate between two lists that are five years apart: (second - first) / 5
abbrev pub gap : {A : Type 0} → Arithmetic A → List Float → List Float → ℕ → ℕ → A
gap o first second n m = o.over (o.less (o.num (at second n m)) (o.num (at first n m))) five

-- a coefficient at the date, between two such lists: first + offset·((second - first) / 5)
abbrev pub between : {A : Type 0} → Arithmetic A → List Float → List Float → Float → ℕ → ℕ → A
between o first second t n m = coefficient o (o.num (at first n m)) (o.over (o.less (o.num (at second n m)) (o.num (at first n m))) five) (o.num t)

-- that rate in the place of a coefficient, with no time passed
abbrev pub passing : {A : Type 0} → Arithmetic A → List Float → List Float → ℕ → ℕ → A
passing o first second n m = coefficient o (gap o first second n m) (gap o first second n m) (o.num (of_bits binary32 0))

-- a place, the coefficients at the date by degree and order, Schmidt's table and the factors K
unfoldable pub placed : {A : Type 0} → Float → Float → Float → Float → Float → (ℕ → ℕ → A) → (ℕ → ℕ → A) → Input A
placed cos_theta sin_theta sin_lambda cos_lambda ratio g h =
    record {
      cos_theta = cos_theta;
      sin_theta = sin_theta;
      sin_lambda = sin_lambda;
      cos_lambda = cos_lambda;
      ratio = ratio;
      g = g;
      h = h;
      S = λ n m. schmidt_at (place n m);
      K = k_of;
    }

-- ---- the two paths
-- strictly below the f32 1e-3 in size (NEAR_POLE_SIN_THETA_MIN)
unfoldable pub small_sine : Float → Bool
small_sine s = lt (abs s) (of_bits binary32 0x3a83126f)

-- the orders that the near-pole path runs over: 0 and 1
abbrev pub POLE_ORDERS : ℕ
POLE_ORDERS = 2

-- X', Y and Z' over any arithmetic, for the degrees 1 to N; on the general path Y' is divided by sin θ
module _ {A : Type 0} (o : Arithmetic A) (i : Input A) (N : ℕ) where
  abbrev pub path_x : A
  path_x = cond (small_sine i.sin_theta) (pole_x o i POLE_ORDERS N) (x_sum o i N)

  abbrev pub path_y : A
  path_y = cond (small_sine i.sin_theta) (pole_y o i N) (o.over (y_sum o i N) i.sin_theta)

  abbrev pub path_z : A
  path_z = cond (small_sine i.sin_theta) (pole_z o i POLE_ORDERS N) (z_sum o i N)
