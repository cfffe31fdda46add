-- `Within f x M`, the relation of demand 3: the float f is finite, and lies within M / 131,072 + 2 ^ -20 of the exact x, where M is x's majorant.
-- Definitions only. Both sides are multiplied by 2 ^ 20 and by the two denominators, and each minus is carried to the other side.
use Rattle.std.specs.Prelude.{◌≡◌, ℕ, ◌+◌, ◌*◌, ◌≤◌, ◌<◌, T, Float}
use Rattle.std.specs.Float.Ieee.Scale.{finite}
use Rattle.exact.specs.Exact.{Exact, Size, own}

-- the promised distance for a majorant N / D, N / D / 131,072 + 2 ^ -20, multiplied by 2 ^ 20 and by D
abbrev pub distance : ℕ → ℕ → ℕ
distance N D = 8 * N + D

-- 2 ^ 20
abbrev pub FINE : ℕ
FINE = 1048576

pub record Within (f : Float) (x : Exact) (M : Size) : Type 0 where
  pub is_finite : T (finite f)
  pub some_over : 0 < x.over
  pub same_over : M.over ≡ x.over
  pub above : ((own f).plus * x.over + x.minus * (own f).over) * FINE ≤ ((own f).minus * x.over + x.plus * (own f).over) * FINE + distance M.num M.over * (own f).over
  pub below : ((own f).minus * x.over + x.plus * (own f).over) * FINE ≤ ((own f).plus * x.over + x.minus * (own f).over) * FINE + distance M.num M.over * (own f).over
