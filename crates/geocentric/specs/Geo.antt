-- The geocentric step of document 01, module 7, over rounded operations, and the inputs that it is made for. Definitions only.
-- h is the height in metres; s and c are the sine and the cosine of the geodetic latitude.
use Rattle.std.specs.Prelude.{Bool, ◌&&◌, Float}
use Rattle.std.specs.Float.{binary32}
use Rattle.std.specs.Float.Ieee.{of_bits, neg, add, sub, mul, div, le}
use Rattle.exact.specs.Tests.{between, circle}
use Rattle.roots.specs.Root.{sqrt_of}
use Rattle.geocentric.specs.declared.Geocentric.{Geocentric}

-- ---- the constants, by their bits
abbrev pub one : Float
one = of_bits binary32 0x3f800000

-- WGS84_A, 6378137 m
abbrev pub wgs84_a : Float
wgs84_a = of_bits binary32 0x4ac2a532

-- WGS84_F, the flattening: 1 / 298.257223563
abbrev pub wgs84_f : Float
wgs84_f = of_bits binary32 0x3b5bbad4

-- WGS84_E2, the first eccentricity squared: F · (2 - F)
abbrev pub wgs84_e2 : Float
wgs84_e2 = of_bits binary32 0x3bdb5c88

-- WMM_A, 6371200 m
abbrev pub wmm_a : Float
wmm_a = of_bits binary32 0x4ac26f00

-- ---- the step
-- what the root is taken of, for the radius of curvature
unfoldable pub flatness : Float → Float
flatness s = sub binary32 one (mul binary32 (mul binary32 wgs84_e2 s) s)

-- the radius of curvature, `r_c`
unfoldable pub curve : Float → Float
curve s = div binary32 wgs84_a (sqrt_of (flatness s))

-- what the cosine is multiplied by
unfoldable pub cosine_factor : Float → Float → Float
cosine_factor h s = add binary32 (curve s) h

-- what the sine is multiplied by
unfoldable pub sine_factor : Float → Float → Float
sine_factor h s = add binary32 (mul binary32 (curve s) (sub binary32 one wgs84_e2)) h

-- the distance from the earth's axis, `p`
unfoldable pub cylinder : Float → Float → Float → Float
cylinder h s c = mul binary32 (cosine_factor h s) c

-- the height along the earth's axis, `z`
unfoldable pub axis : Float → Float → Float
axis h s = mul binary32 (sine_factor h s) s

-- p * p + z * z
abbrev pub squares : Float → Float → Float
squares p z = add binary32 (mul binary32 p p) (mul binary32 z z)

abbrev pub length_of : Float → Float → Float
length_of p z = sqrt_of (squares p z)

-- the geocentric radius
unfoldable pub radius_of : Float → Float → Float → Float
radius_of h s c = length_of (cylinder h s c) (axis h s)

-- the cosine of the colatitude
unfoldable pub cos_of : Float → Float → Float → Float
cos_of h s c = div binary32 (axis h s) (radius_of h s c)

-- the sine of the colatitude
unfoldable pub sin_of : Float → Float → Float → Float
sin_of h s c = div binary32 (cylinder h s c) (radius_of h s c)

-- what `geodetic_to_geocentric` returns
unfoldable pub geocentric_of : Float → Float → Float → Geocentric
geocentric_of h s c = record { r = radius_of h s c; cos_theta = cos_of h s c; sin_theta = sin_of h s c }

-- what `radius_ratio` returns
abbrev pub ratio_to : Float → Float
ratio_to r = div binary32 wmm_a r

-- the radius ratio of the place
unfoldable pub ratio_of : Float → Float → Float → Float
ratio_of h s c = ratio_to (radius_of h s c)

-- ---- what is accepted
-- -1000 m
abbrev pub lowest : Float
lowest = neg (of_bits binary32 0x447a0000)

-- 850000 m
abbrev pub highest : Float
highest = of_bits binary32 0x494f8500

-- -2 ^ -20
abbrev pub beyond_pole : Float
beyond_pole = neg (of_bits binary32 0x35800000)

-- refusal 1: finite, and from -1000 to 850000 m. `between` is false at a NaN and at an infinity, so a height that passes is finite
abbrev pub height_ok : Float → Bool
height_ok h = between lowest highest h

-- refusal 2: on the circle, and the cosine is at least -2 ^ -20
abbrev pub latitude_ok : Float → Float → Bool
latitude_ok s c = circle s c && le beyond_pole c
