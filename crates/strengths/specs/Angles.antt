-- Declination and inclination (document 02, Wish 4; WMM2025 TR, section 1.2). Definitions only.
use Rattle.std.specs.Prelude.{◌≡◌, false, Float, Result, Ok}
use Rattle.std.specs.Float.{binary32}
use Rattle.std.specs.Float.Ieee.{of_bits, eq}
use Rattle.exact.specs.Tests.{capped}
use Rattle.refusals.specs.Paper.{Paper, answered, paper, unless}
use Rattle.refusals.specs.declared.Refusal.{Refusal}
use Rattle.refusals.specs.declared.Refusal.TheVariants.{Unusable}
use Rattle.direction.specs.Arc.{Pointed}
use Rattle.direction.specs.Direction.{direction_of}
use Rattle.strengths.specs.declared.GeomagneticField.{GeomagneticField}
use Rattle.strengths.specs.Strengths.{max_component, h_of}

-- of two components: refusal 12 for x, then for y, then the angle from the north to the east
unfoldable pub declination_says : Float → Float → Paper Float
declination_says x y = unless (capped max_component x) (paper Unusable) (unless (capped max_component y) (paper Unusable) (answered (direction_of x y)))

-- of a record: the angle of Y over X, and of Z over H
unfoldable pub declination_of : GeomagneticField → Float
declination_of v = direction_of v.x v.y

unfoldable pub inclination_of : GeomagneticField → Float
inclination_of v = direction_of (h_of v) v.z

-- an answered angle is that of (x, y), within 2 ^ -15 degree, where y is not zero
abbrev pub AngleOf : Float → Float → Result Float Refusal → Type 0
AngleOf x y r = (d : Float) → r ≡ Ok d → eq y (of_bits binary32 0) ≡ false → Pointed x y d
