-- The square root of an `f32`, over whole numbers. Definitions only.
-- `sqrt_of` is what the root is, and computes. That it is the `f32` nearest to the root, and the only one, is `is_root` and `one_root` of `proofs/Laws.antt`.
use Rattle.std.specs.Prelude.{ℕ, zero, suc, ◌+◌, ◌*◌, ◌/◌, ◌^◌, ◌<◌, Bool, false, not, ◌||◌, if◌then◌else◌, T, nat_lt, ◌==◌, Float}
use Rattle.std.specs.Float.{nan, inf, fin, binary32}
use Rattle.std.specs.Float.Ieee.{fits, size, odd}
use Rattle.std.specs.Float.Ieee.Positive.{positive}
use Rattle.exact.specs.Exact.{units_of}

-- ---- whole numbers
-- the root of n without its fraction, for an n below 4 ^ k
unfoldable pub floor_root : ℕ → ℕ → ℕ
floor_root zero n = 0
floor_root (suc k) n = let r = 2 * floor_root k (n / 4) in if nat_lt n ((r + 1) * (r + 1)) then r else r + 1

-- the whole number nearest to the root of an n below 4 ^ 24
unfoldable pub nearest_root : ℕ → ℕ
unfolding floor_root
nearest_root n = let r = floor_root 24 n in if nat_lt (r * r + r) n then r + 1 else r

-- ---- floats
-- The root of n units of 2 ^ -149, n above 0. It is √(n * 2 ^ 149) units. With 2 * j binary digits taken off, n * 2 ^ 149 has 47 or 48 digits, and its root has 24, which is what an `f32` keeps. No digit that is taken off is a 1.
unfoldable pub root_units : ℕ → Float
unfolding nearest_root
root_units n = let j = (size n + 102) / 2 in odd 24 false (nearest_root (n * 2 ^ 149 / 2 ^ (2 * j))) j 149

-- IEEE 754's squareRoot: a zero with its sign, +∞ and a NaN are their own roots, and a number below zero has a NaN.
unfoldable pub sqrt_of : Float → Float
unfolding root_units
sqrt_of nan = nan
sqrt_of (inf s) = if s then nan else inf false
sqrt_of (fin s zero e) = fin s zero e
sqrt_of (fin s (suc m) e) = if s then nan else root_units (units_of (fin s (suc m) e))

-- x has a root: it is no NaN and not below zero (document 01, refusal 12). -0 is not below zero.
unfoldable pub rootable : Float → Bool
rootable nan = false
rootable (inf s) = not s
rootable (fin s m e) = not s || (m == 0)

-- x is no NaN, and its sign is clear, as a square's is
unfoldable pub clear : Float → Bool
clear nan = false
clear (inf s) = not s
clear (fin s m e) = not s

-- ---- what it is to be the root, with no word of how it is found
-- twice the middle of a and b, squared
abbrev pub middle : ℕ → ℕ → ℕ
middle a b = (a + b) * (a + b)

-- r is the `f32` nearest to √x (document 01, "correctly rounded"): of r and any other y the root is on r's side of the middle, each side doubled and squared. In units x is n * 2 ^ 149, n its size in units.
pub record IsRoot (x r : Float) : Type 0 where
  pub held : T (fits binary32 r)
  pub above_zero : T (positive r)
  pub below_others : (y : Float) → T (fits binary32 y) → T (positive y) → units_of r < units_of y → 4 * (units_of x * 2 ^ 149) < middle (units_of y) (units_of r)
  pub above_others : (y : Float) → T (fits binary32 y) → T (positive y) → units_of y < units_of r → middle (units_of y) (units_of r) < 4 * (units_of x * 2 ^ 149)
