-- The tests of floats that the checks of document 01 are made of: size, range, circle. Definitions only.
-- `finite`, no NaN and no infinity, is lib.Ieee's own.
use Rattle.std.specs.Prelude.{Bool, true, false, ◌&&◌, List, [], ◌∷◌, Float}
use Rattle.std.specs.Float.{nan, inf, fin, binary32}
use Rattle.std.specs.Float.Ieee.{add, mul, le, of_bits}
use Rattle.std.specs.Float.Ieee.Scale.{finite}

-- the size of a float
abbrev pub abs : Float → Float
abs nan = nan
abs (inf s) = inf false
abs (fin s m e) = fin false m e

-- between two floats, ends included: false at a NaN and at an infinity
abbrev pub between : Float → Float → Float → Bool
between lo hi x = le lo x && le x hi

-- on the circle (document 01, "Refusal numbers"): each member is finite, and the sum of their squares, rounded at each step, lies between 1 - 2 ^ -20 and 1 + 2 ^ -20
unfoldable pub circle : Float → Float → Bool
circle s c = finite s && finite c && between (of_bits binary32 0x3f7ffff0) (of_bits binary32 0x3f800008) (add binary32 (mul binary32 s s) (mul binary32 c c))

-- of size at most the cap: false at a NaN
unfoldable pub capped : Float → Float → Bool
capped cap x = le (abs x) cap

-- of every entry
unfoldable pub all_capped : Float → List Float → Bool
all_capped cap [] = true
all_capped cap (x ∷ l) = capped cap x && all_capped cap l

-- every entry lies between the two
unfoldable pub all_between : Float → Float → List Float → Bool
all_between lo hi [] = true
all_between lo hi (x ∷ l) = between lo hi x && all_between lo hi l
