-- The constants of the ellipsoid are those of the source, computed. Assumes nothing.
use mathlib.Core.Path.{◌≡◌, refl}
use mathlib.Core.Bool.{false}
use lib.Ieee.{Float, binary32, binary64, of_bits, round, sub, mul, div}
use lib.Ieee.Positive.{num, den}
use Rattle.geocentric.specs.Geo.{one, wgs84_f, wgs84_e2}

-- F is the f32 nearest to 1 / 298.257223563, which is 10 ^ 9 / 298257223563
pub flattening : round binary32 false 1000000000 298257223563 ≡ wgs84_f
unfolding round of_bits
flattening = refl

-- 1.0 / 298.257223563 in f64
unfoldable pub quotient_64 : Float
unfolding round div of_bits
quotient_64 = div binary64 one (round binary64 false 298257223563 1000000000)

-- the source's way to the same F: that quotient, cast to f32
pub flattening_by_64 : round binary32 false (num quotient_64) (den quotient_64) ≡ wgs84_f
unfolding quotient_64 round div of_bits
flattening_by_64 = refl

-- E2 is F · (2 - F), each operation rounded once
pub eccentricity : mul binary32 wgs84_f (sub binary32 (of_bits binary32 0x40000000) wgs84_f) ≡ wgs84_e2
unfolding of_bits sub mul
eccentricity = refl
