-- X, Y and Z at a place, over any arithmetic, from coefficients by degree and order: those of no one list, such as lie between two. Definitions only.
use Rattle.std.specs.Prelude.{ℕ}
use Rattle.geocentric.specs.Geo.{cos_of, sin_of, ratio_of}
use Rattle.sums.specs.Arithmetic.{Arithmetic}
use Rattle.sums.specs.Recurrence.{Input}
use Rattle.sums.specs.Paths.{path_x, path_y, path_z, placed}
use Rattle.field.specs.Turn.{turn_x, turn_z}
use Rattle.field.specs.Field.{Asked}

-- q says which place, g and h are the coefficients, up to degree N
module _ {A : Type 0} (o : Arithmetic A) (q : Asked) (N : ℕ) (g h : ℕ → ℕ → A) where
  unfoldable pub there : Input A
  there = placed (cos_of q.height q.sin_phi q.cos_phi) (sin_of q.height q.sin_phi q.cos_phi) q.sin_lambda q.cos_lambda (ratio_of q.height q.sin_phi q.cos_phi) g h

  -- north
  unfoldable pub there_x : A
  there_x = turn_x o (cos_of q.height q.sin_phi q.cos_phi) (sin_of q.height q.sin_phi q.cos_phi) q.cos_phi q.sin_phi (path_x o there N) (path_z o there N)

  -- east
  unfoldable pub there_y : A
  there_y = path_y o there N

  -- down
  unfoldable pub there_z : A
  there_z = turn_z o (cos_of q.height q.sin_phi q.cos_phi) (sin_of q.height q.sin_phi q.cos_phi) q.cos_phi q.sin_phi (path_x o there N) (path_z o there N)
