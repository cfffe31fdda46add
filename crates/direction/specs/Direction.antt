-- What `direction` says, worked out in whole numbers. Definitions only. How near it is to the exact angle is said in `Arc`.
use Rattle.std.specs.Prelude.{ℕ, ◌+◌, ◌-◌, ◌*◌, ◌/◌, ◌%◌, ◌^◌, Bool, ◌&&◌, if◌then◌else◌, false, nat_le, nat_lt, Float}
use Rattle.std.specs.Float.{nan, binary32}
use Rattle.std.specs.Float.Ieee.{of_bits, round, lt, eq, neg}
use Rattle.std.specs.Float.Ieee.Scale.{finite}
use Rattle.exact.specs.Exact.{units_of}
use Rattle.trig.specs.Circle.{inverse}
use Rattle.trig.specs.Fixed.{in_units}

-- (arctan r) / r for z = r * r, in units of 2 ^ -30
unfoldable pub arc_part : ℕ → ℕ
arc_part z = in_units inverse 1073741824 7 1 z

-- the quotient n / d in units of 2 ^ -30, and its arctangent in units of 2 ^ -24 degree
unfoldable pub ratio_of : ℕ → ℕ → ℕ
ratio_of n d = n * 1073741824 / d

unfoldable pub arc_of : ℕ → ℕ
arc_of r = (r * arc_part (r * r / 1073741824) / 1073741824 * 961263669 + 536870912) / 1073741824

-- ---- angles in units of 2 ^ -24 degree
-- of (X, Y), from 0 to 45 degrees
unfoldable pub octant_of : ℕ → ℕ → ℕ
octant_of X Y = if nat_le (12 * Y) (5 * X) then arc_of (ratio_of Y X) else 754974720 - arc_of (ratio_of (X - Y) (X + Y))

-- from 0 to 90 degrees
unfoldable pub quadrant_of : ℕ → ℕ → ℕ
quadrant_of X Y = if nat_le Y X then octant_of X Y else 1509949440 - octant_of Y X

-- from 0 to 180 degrees: of (X, Y), or of (-X, Y)
unfoldable pub turn_of : Bool → ℕ → ℕ → ℕ
turn_of left X Y = if left then 3019898880 - quadrant_of X Y else quadrant_of X Y

-- j of 2 ^ -24 degree, rounded once
unfoldable pub degrees_of : ℕ → Float
degrees_of j = round binary32 false j 16777216

-- ---- the entry
-- of a finite x and y: 180 degrees for a y of zero and an x below zero, and 0 for another x
unfoldable pub angle_of : Float → Float → Float
angle_of x y =
    let zero = of_bits binary32 0 in
    let d = degrees_of (turn_of (lt x zero) (units_of x) (units_of y)) in
    if eq y zero then (if lt x zero then of_bits binary32 0x43340000 else zero) else (if lt y zero then neg d else d)

-- the angle from the x axis to the y axis, from -180 to 180 degrees; a NaN where x or y is not finite
unfoldable pub direction_of : Float → Float → Float
direction_of x y = if finite x && finite y then angle_of x y else nan

-- ---- a float's size by its bit pattern: m * 2 ^ (e - 1) units
abbrev pub digits_of : ℕ → ℕ
digits_of b = if nat_lt b 8388608 then b else b % 8388608 + 8388608

abbrev pub place_of : ℕ → ℕ
place_of b = if nat_lt b 8388608 then 1 else b / 8388608

abbrev pub units_at : ℕ → ℕ
units_at b = digits_of b * 2 ^ (place_of b - 1)
