-- The Gregorian year. Definitions only.
use Rattle.std.specs.Prelude.{Bool, not, cond, ◌&&◌, ◌||◌, ℕ, ◌%◌, eqb, ℤ, nat_abs}

-- d divides the year
abbrev pub divides : ℕ → ℤ → Bool
divides d year = eqb (nat_abs year % d) 0

-- every fourth year, but of the hundreds only every fourth
unfoldable pub leap_year : ℤ → Bool
leap_year year = divides 4 year && (not (divides 100 year) || divides 400 year)

-- 366 or 365
abbrev pub days_in_year : ℤ → ℕ
days_in_year year = cond (leap_year year) 366 365
