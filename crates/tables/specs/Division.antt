-- How K is divided, from n - 1 and m as f32: the steps of the code. The sums cite `k_of`; that this is the same is the law `k_whole`. Definitions only.
use Rattle.std.specs.Prelude.{if◌then◌else◌, Float}
use Rattle.std.specs.Float.{binary32}
use Rattle.std.specs.Float.Ieee.{of_bits, sub, mul, div, lt}

-- x, or +0 where x is not above 0
unfoldable pub at_least_zero : Float → Float
at_least_zero x = if lt (of_bits binary32 0) x then x else of_bits binary32 0

-- 4(n - 1)^2 - 1, which is (2n - 1)(2n - 3), from (n - 1)^2; 1 in degree 1
unfoldable pub k_divisor : Float → Float
k_divisor square =
    if lt (of_bits binary32 0) square then sub binary32 (mul binary32 (of_bits binary32 0x40800000) square) (of_bits binary32 0x3f800000)
    else of_bits binary32 0x3f800000

-- the division, from (n - 1)^2, m and the divisor
unfoldable pub k_over : Float → Float → Float → Float
k_over square order divisor = div binary32 (at_least_zero (sub binary32 square (mul binary32 order order))) divisor

-- ((n - 1)^2 - m^2) / ((2n - 1)(2n - 3)), each of the two a whole number that is an f32 as it stands, so that the division is the one rounding
unfoldable pub k_divided : Float → Float → Float
k_divided below order =
    let square = mul binary32 below below in
    k_over square order (k_divisor square)
