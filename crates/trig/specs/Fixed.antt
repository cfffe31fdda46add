-- What `sine_and_cosine` says, worked out in whole numbers. Definitions only. How near it is to a sine and a cosine is said in `Angle`.
use Rattle.std.specs.Prelude.{Bool, if◌then◌else◌, nat_le, nat_lt, ◌==◌, Float, ℕ, zero, suc, ◌+◌, ◌-◌, ◌*◌, ◌/◌, ◌%◌, ◌^◌}
use Rattle.std.specs.Float.{binary32}
use Rattle.std.specs.Float.Ieee.{of_bits, neg, size}
use Rattle.exact.specs.Tests.{between}
use Rattle.refusals.specs.Paper.{Paper, answered, paper, unless}
use Rattle.refusals.specs.declared.Refusal.TheVariants.{Angle}
use Rattle.float32.specs.Bits.{bits_of, float_of}
use Rattle.trig.specs.Circle.{Terms, circular}
use Rattle.trig.specs.declared.Pair.{Pair}

-- ---- a sum in fixed point, W units being one
-- one term more: 1 - a * z / b * h
unfoldable pub step_of : ℕ → ℕ → ℕ → ℕ → ℕ → ℕ
step_of W a b z h = W - a * z / b * h / W

-- `nested` in whole units, for z units of s
unfoldable pub in_units : Terms → ℕ → ℕ → ℕ → ℕ → ℕ
in_units t W zero j z = W
in_units t W (suc k) j z = step_of W (t.times j) (t.over j) z (in_units t W k (j + 2) z)

-- ---- up to 45 degrees
-- (sin r) / r and cos r for z = r * r, in units of 2 ^ -32
unfoldable pub sine_part : ℕ → ℕ
sine_part z = in_units circular 4294967296 5 1 z

unfoldable pub cosine_part : ℕ → ℕ
cosine_part z = in_units circular 4294967296 5 0 z

-- the square of m / (2 ^ k * 2 ^ 18) degrees, in radians squared, in units of 2 ^ -32
unfoldable pub square_of : ℕ → ℕ → ℕ
square_of m k = let a = m * 64 / 2 ^ k in a * a / 134217728 * 2679443160 / 4294967296

-- The sine of m / (2 ^ k * 2 ^ 18) degrees in units of 1 / (2 ^ k * 2 ^ 63), and, rounded to 24 digits, in units of 1 / (2 ^ k * 2 ^ 24) or of twice that.
-- The cosine is in units of 2 ^ -24.
unfoldable pub sine_long : ℕ → ℕ → ℕ
sine_long m k = m * (2398762259 * sine_part (square_of m k) / 16777216)

unfoldable pub cosine_top : ℕ → ℕ → ℕ
cosine_top m k = (cosine_part (square_of m k) + 128) / 256

-- The bit patterns of the two. A sine of 126 ≤ k is a whole number of the smallest f32.
unfoldable pub sine_bits : ℕ → ℕ → ℕ
sine_bits m k =
    let p = sine_long m k in
    if nat_le 126 k then (p / 2 ^ (k - 87) + 1) / 2
    else (if nat_lt p 9223372036854775808 then (125 - k) * 8388608 + (p + 274877906944) / 549755813888 else (126 - k) * 8388608 + (p + 549755813888) / 1099511627776)

unfoldable pub cosine_bits : ℕ → ℕ → ℕ
cosine_bits m k = 1048576000 + cosine_top m k

-- ---- the pair
-- of m / (2 ^ k * 2 ^ 18) degrees, at most 45
unfoldable pub small_pair : ℕ → ℕ → Pair
small_pair m k = record { sine = float_of (sine_bits m k); cosine = float_of (cosine_bits m k) }

-- how many places bring the leading digit of y to the 24th
unfoldable pub lift_by : ℕ → ℕ
lift_by y = if y == 0 then 131 else 24 - size y

-- of y of 2 ^ -18 degree, at most 45 degrees
unfoldable pub near_pair : ℕ → Pair
near_pair y = small_pair (y * 2 ^ lift_by y) (lift_by y)

-- of 90 degrees less an angle, 90 degrees more, 180 degrees less, and of the angle below zero
abbrev pub less90 : Pair → Pair
less90 p = record { sine = p.cosine; cosine = p.sine }

abbrev pub more90 : Pair → Pair
more90 p = record { sine = p.cosine; cosine = neg p.sine }

abbrev pub less180 : Pair → Pair
less180 p = record { sine = p.sine; cosine = neg p.cosine }

abbrev pub below : Pair → Pair
below p = record { sine = neg p.sine; cosine = p.cosine }

-- how far y of 2 ^ -18 degree, from 45 to 180 degrees, is from the nearest of 90 and 180 degrees
unfoldable pub left_of : ℕ → ℕ
left_of y = if nat_le y 23592960 then 23592960 - y else (if nat_le y 35389440 then y - 23592960 else 47185920 - y)

-- of such a y
unfoldable pub far_pair : ℕ → Pair
far_pair y =
    let p = near_pair (left_of y) in
    if nat_le y 23592960 then less90 p else (if nat_le y 35389440 then more90 p else less180 p)

-- of the bit pattern b, from 0 to 180 degrees; 1110704128 is that of 45
unfoldable pub pair_of : ℕ → Pair
pair_of b =
    let e = b / 8388608 in
    let t = b % 8388608 in
    if e == 0 then small_pair t 131
    else (if nat_le b 1110704128 then small_pair (t + 8388608) (132 - e) else far_pair ((t + 8388608) * 2 ^ (e - 132)))

-- ---- the entry
-- from -180 to 180: no NaN and no infinity
unfoldable pub accepted : Float → Bool
accepted x = between (of_bits binary32 0xc3340000) (of_bits binary32 0x43340000) x

unfoldable pub pair_at : Float → Pair
pair_at x = let p = pair_of (bits_of x % 2147483648) in if nat_lt (bits_of x) 2147483648 then p else below p

-- the pair, and refusal 16 where the angle is not finite or not from -180 to 180
unfoldable pub sine_says : Float → Paper Pair
sine_says x = unless (accepted x) (paper Angle) (answered (pair_at x))
