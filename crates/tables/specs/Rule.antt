-- The recurrence factors, and what the entries of Schmidt's table are to be (document 01, module 1). Definitions only.
use Rattle.std.specs.Prelude.{false, if◌then◌else◌, List, [], ◌∷◌, ℕ, zero, suc, ◌+◌, ◌-◌, ◌*◌, ◌/◌, ◌^◌, ◌<◌, ◌==◌, nat_le, ℤ, pos, negsuc, get_or, Float}
use Rattle.std.specs.Float.{fin, binary32}
use Rattle.std.specs.Float.Ieee.{round, of_bits}
use Rattle.exact.specs.Exact.{units_of}
use Rattle.tables.specs.Degree.{place}

-- K, the recurrence factor: the f32 nearest ((n - 1)^2 - m^2) / ((2n - 1)(2n - 3)) where n ≥ 2 and m ≤ n - 2; else +0
unfoldable pub k_of : ℕ → ℕ → Float
k_of n m =
    if nat_le (m + 2) n then
    (round binary32 false ((n - 1) * (n - 1) - m * m) ((2 * n - 1) * (2 * n - 3)))
    else fin false 0 (pos 0)

-- n!
unfoldable pub factorial : ℕ → ℕ
factorial zero = 1
factorial (suc n) = suc n * factorial n

-- C(2n, n): s_n^0 is C(2n, n) / 2 ^ n
unfoldable pub central : ℕ → ℕ
central n = factorial (2 * n) / (factorial n * factorial n)

-- the square of s_n^m is square_num n m / square_den n m: that of s_n^0, times 2(n!)^2 / ((n-m)!(n+m)!) for m ≥ 1
unfoldable pub square_num : ℕ → ℕ → ℕ
square_num n m = central n * central n * (if m == 0 then 1 else 2 * (factorial n * factorial n))

unfoldable pub square_den : ℕ → ℕ → ℕ
square_den n m = 4 ^ n * (if m == 0 then 1 else factorial (n - m) * factorial (n + m))

-- the size of a bit pattern's float, in units of 2 ^ -149
unfoldable pub units : ℕ → ℕ
units b = units_of (of_bits binary32 b)

-- b is the pattern of the f32 nearest to the root of num / den: the root lies strictly between the middles below and above it, each side doubled and squared
pub record NearestRoot (num den b : ℕ) : Type 0 where
  pub above : den * ((units (b - 1) + units b) * (units (b - 1) + units b)) < 4 * num * 2 ^ 298
  pub below : 4 * num * 2 ^ 298 < den * ((units b + units (b + 1)) * (units b + units (b + 1)))

-- b moved by a number of f32 steps
abbrev pub moved : ℕ → ℤ → ℕ
moved b (pos k) = b + k
moved b (negsuc k) = b - suc k

-- the stored pattern of degree n and order m, moved by its miss
abbrev pub mended : List ℕ → List ℤ → ℕ → ℕ → ℕ
mended bits steps n m = moved (get_or bits (place n m) 0) (get_or steps (place n m) (pos 0))

-- by how many steps the nearest f32 lies above the stored one
unfoldable pub misses : List ℤ
misses = pos 0 ∷ pos 0 ∷ pos 0 ∷ pos 0 ∷ pos 0 ∷ pos 0 ∷ pos 0 ∷ pos 0 ∷ pos 0 ∷ negsuc 0 ∷ pos 0 ∷ pos 0 ∷ pos 0
    ∷ pos 0 ∷ pos 1 ∷ pos 0 ∷ pos 0 ∷ pos 1 ∷ pos 0 ∷ pos 0 ∷ pos 0 ∷ pos 0 ∷ pos 0 ∷ pos 0 ∷ pos 0 ∷ negsuc 0
    ∷ negsuc 0 ∷ negsuc 0 ∷ pos 0 ∷ pos 1 ∷ pos 1 ∷ pos 1 ∷ pos 1 ∷ pos 1 ∷ pos 1 ∷ pos 1 ∷ pos 0 ∷ pos 0 ∷ pos 0
    ∷ pos 1 ∷ pos 1 ∷ pos 1 ∷ pos 0 ∷ pos 0 ∷ pos 0 ∷ pos 0 ∷ pos 1 ∷ pos 1 ∷ pos 1 ∷ pos 1 ∷ pos 1 ∷ pos 1
    ∷ pos 3 ∷ pos 2 ∷ pos 2 ∷ pos 0 ∷ negsuc 0 ∷ pos 0 ∷ negsuc 0 ∷ negsuc 0 ∷ pos 0 ∷ negsuc 0 ∷ pos 0 ∷ negsuc 0 ∷ negsuc 0
    ∷ pos 0 ∷ pos 0 ∷ pos 0 ∷ pos 0 ∷ pos 0 ∷ negsuc 1 ∷ negsuc 0 ∷ negsuc 0 ∷ negsuc 1 ∷ negsuc 0 ∷ negsuc 0 ∷ negsuc 2 ∷ negsuc 1
    ∷ pos 0 ∷ pos 0 ∷ pos 1 ∷ pos 0 ∷ pos 0 ∷ pos 0 ∷ pos 0 ∷ pos 1 ∷ pos 1 ∷ pos 1 ∷ pos 1 ∷ pos 2 ∷ pos 2
    ∷ pos 0 ∷ pos 0 ∷ pos 0 ∷ pos 0 ∷ pos 0 ∷ pos 0 ∷ pos 0 ∷ pos 0 ∷ pos 0 ∷ pos 0 ∷ pos 0 ∷ pos 0 ∷ pos 0 ∷ pos 0 ∷ []
