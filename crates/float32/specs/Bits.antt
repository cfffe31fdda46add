-- An `f32` as a number below 2 ^ 32, both ways, for every value. IEEE 754's interchange format. Definitions only.
-- There is one NaN, with no sign and no payload: each of its patterns reads as it.
use Rattle.std.specs.Prelude.{ℕ, Float}
use Rattle.std.specs.Float.{binary32}
use Rattle.std.specs.Float.Ieee.{to_bits, of_bits}

-- the pattern of a float; that of the NaN is 0x7fc00000
abbrev pub bits_of : Float → ℕ
bits_of x = to_bits binary32 x

-- the float of a pattern
abbrev pub float_of : ℕ → Float
float_of b = of_bits binary32 b
