-- The entry Sum (document 01, "What is carried over"): what it is lent, its refusals in their order, its answer, and the exact sum that it is near.
-- Definitions only.
use Rattle.std.specs.Prelude.{Bool, List, ℕ, T, length, Float}
use Rattle.std.specs.Float.{binary32}
use Rattle.std.specs.Float.Ieee.{of_bits}
use Rattle.exact.specs.Tests.{all_capped, between, circle}
use Rattle.exact.specs.Within.{Within}
use Rattle.refusals.specs.Paper.{Paper, Verdict, accepted, answered, told, check}
use Rattle.refusals.specs.declared.Refusal.{Refusal}
use Rattle.lists.specs.Lists.{lengths_verdict, lists_verdict, main_cap, rate_cap}
use Rattle.tables.specs.Degree.{degree_of}
use Rattle.sums.specs.Arithmetic.{Arithmetic, rounded, unrounded, sizes}
use Rattle.sums.specs.Recurrence.{Input}
use Rattle.sums.specs.Paths.{dated, path_x, path_y, path_z, placed}
use Rattle.synthesis.specs.declared.Xyz.{Xyz}
use Rattle.synthesis.specs.declared.Colatitude.{Colatitude}
use Rattle.synthesis.specs.declared.Longitude.{Longitude}
use Rattle.lists.specs.declared.Lists.{Lists}

-- ---- what is lent
pub record Lent : Type 0 where
  pub cos_theta : Float
  pub sin_theta : Float
  pub sin_lambda : Float
  pub cos_lambda : Float
  pub ratio : Float
  pub offset : Float
  pub g : List Float
  pub h : List Float
  pub g_dot : List Float
  pub h_dot : List Float

-- the same, from its parts
abbrev pub lent : Float → Float → Float → Float → Float → Float → List Float → List Float → List Float → List Float → Lent
lent c s sl cl ratio t g h gd hd = record { cos_theta = c; sin_theta = s; sin_lambda = sl; cos_lambda = cl; ratio = ratio; offset = t; g = g; h = h; g_dot = gd; h_dot = hd }

-- the same, as a call lends it
abbrev pub lent_at : Colatitude → Longitude → (ratio offset : Float) → Lists → Lent
lent_at colatitude longitude ratio offset l =
    lent colatitude.cos colatitude.sin longitude.sin longitude.cos ratio offset l.g.now l.h.now l.g_dot.now l.h_dot.now

-- as the sums read it: each coefficient is main + offset·rate
unfoldable pub inputs : {A : Type 0} → Arithmetic A → Lent → Input A
inputs o a = placed a.cos_theta a.sin_theta a.sin_lambda a.cos_lambda a.ratio (dated o a.g a.g_dot a.offset) (dated o a.h a.h_dot a.offset)

-- the degree of what is lent, by its lists
abbrev pub degree : Lent → ℕ
degree a = degree_of (length a.g)

-- X', Y and Z' over any arithmetic, over the degrees of the lists
module _ {A : Type 0} (o : Arithmetic A) (a : Lent) where
  abbrev pub sum_x : A
  sum_x = path_x o (inputs o a) (degree a)

  abbrev pub sum_y : A
  sum_y = path_y o (inputs o a) (degree a)

  abbrev pub sum_z : A
  sum_z = path_z o (inputs o a) (degree a)

-- ---- the checks of the numbers (document 01, "Refusal numbers")
-- 0.875 to 1.015625
unfoldable pub ratio_ok : Float → Bool
ratio_ok x = between (of_bits binary32 0x3f600000) (of_bits binary32 0x3f820000) x

-- 0 to 5
unfoldable pub offset_ok : Float → Bool
offset_ok x = between (of_bits binary32 0) (of_bits binary32 0x40a00000) x

-- refusal 9, 3, 10 or 11, the first that is due
unfoldable pub numbers_verdict : (cos_theta sin_theta sin_lambda cos_lambda ratio offset : Float) → Verdict
numbers_verdict cos_theta sin_theta sin_lambda cos_lambda ratio offset =
    check (circle sin_theta cos_theta) Refusal.Colatitude
    (check (circle sin_lambda cos_lambda) Refusal.Longitude
    (check (ratio_ok ratio) Refusal.Ratio
    (check (offset_ok offset) Refusal.Offset accepted)))

-- ---- the answer
unfoldable pub value_of : Lent → Xyz
value_of a = record { x = sum_x rounded a; y = sum_y rounded a; z = sum_z rounded a }

-- 9, 3, 10 or 11, then what the lists are refused by, then the answer
abbrev pub summed_says : Verdict → Lent → Paper Xyz
summed_says lists a =
    told (numbers_verdict a.cos_theta a.sin_theta a.sin_lambda a.cos_lambda a.ratio a.offset)
    (told lists (answered (value_of a)))

-- Sum, by document 01's order: 9, 3, 10, 11, 6, 23, 7, then the answer
unfoldable pub sum_says : Lent → Paper Xyz
sum_says a = summed_says (lists_verdict a.g a.h a.g_dot a.h_dot) a

-- the same without 7, whatever the entries are
unfoldable pub uncapped_says : Lent → Paper Xyz
uncapped_says a = summed_says (lengths_verdict a.g a.h a.g_dot a.h_dot) a

-- ---- what passed the checks of the numbers and of the entries
pub record SumAccepted (a : Lent) : Type 0 where
  pub colatitude : T (circle a.sin_theta a.cos_theta)
  pub longitude : T (circle a.sin_lambda a.cos_lambda)
  pub ratio : T (ratio_ok a.ratio)
  pub offset : T (offset_ok a.offset)
  pub g : T (all_capped main_cap a.g)
  pub h : T (all_capped main_cap a.h)
  pub g_dot : T (all_capped rate_cap a.g_dot)
  pub h_dot : T (all_capped rate_cap a.h_dot)

-- demand 3: each component within the promised distance of the exact sum, with the sizes as its majorant
pub record SumClose (a : Lent) (v : Xyz) : Type 0 where
  pub x : Within v.x (sum_x unrounded a) (sum_x sizes a)
  pub y : Within v.y (sum_y unrounded a) (sum_y sizes a)
  pub z : Within v.z (sum_z unrounded a) (sum_z sizes a)
