-- Worked examples: what `direction` says of single points, by their bit patterns. All are computed. Assumes nothing.
use mathlib.Core.Path.{◌≡◌, refl}
use Prim.Native.Nat.{ℕ}
use mathlib.Core.Bool.{false}
use lib.Ieee.{Float, nan, inf, binary32, of_bits, round, size, neg, lt, eq}
use Rattle.trig.specs.Fixed.{step_of, in_units}
use Rattle.direction.specs.Direction.{arc_part, arc_of, ratio_of, octant_of, quadrant_of, turn_of, degrees_of, angle_of, direction_of}

abbrev at : ℕ → ℕ → Float
at x y = direction_of (of_bits binary32 x) (of_bits binary32 y)

-- (1, 0), (1, -0), (-1, 0), (-1, -0), (0, 0), (-0, -0); (0, 1), (-0, 1), (0, -1); (1, 1), (-1, 1), (-1, -1); (2, 1); what is not finite
directions : (at 0x3f800000 0 ≡ of_bits binary32 0)
    × (at 0x3f800000 0x80000000 ≡ of_bits binary32 0)
    × (at 0xbf800000 0 ≡ of_bits binary32 0x43340000)
    × (at 0xbf800000 0x80000000 ≡ of_bits binary32 0x43340000)
    × (at 0 0 ≡ of_bits binary32 0)
    × (at 0x80000000 0x80000000 ≡ of_bits binary32 0)
    × (at 0 0x3f800000 ≡ of_bits binary32 0x42b40000)
    × (at 0x80000000 0x3f800000 ≡ of_bits binary32 0x42b40000)
    × (at 0 0xbf800000 ≡ of_bits binary32 0xc2b40000)
    × (at 0x3f800000 0x3f800000 ≡ of_bits binary32 0x42340000)
    × (at 0xbf800000 0x3f800000 ≡ of_bits binary32 0x43070000)
    × (at 0xbf800000 0xbf800000 ≡ of_bits binary32 0xc3070000)
    × (at 0x40000000 0x3f800000 ≡ of_bits binary32 0x41d4853a)
    × (direction_of nan (of_bits binary32 0) ≡ nan)
    × (direction_of (of_bits binary32 0) (inf false) ≡ nan)
unfolding direction_of angle_of degrees_of turn_of quadrant_of octant_of ratio_of arc_of arc_part in_units step_of of_bits lt eq neg round size
directions = (refl, refl, refl, refl, refl, refl, refl, refl, refl, refl, refl, refl, refl, refl, refl)
