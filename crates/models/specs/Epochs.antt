-- The entry Epoch. Document 01, module 8 and refusals 4 and 5. Definitions only.
use Rattle.std.specs.Prelude.{Bool, false, not, ◌||◌, ℕ, ◌-◌, eqb, ℤ, pos, negsuc, ◌*ℤ◌, ◌-ℤ◌, Float}
use Rattle.std.specs.Int.Signed.{lt_z, quot_z}
use Rattle.std.specs.Float.{binary32}
use Rattle.std.specs.Float.Ieee.{of_int, add, div}
use Rattle.refusals.specs.declared.Refusal.{Refusal}
use Rattle.refusals.specs.declared.Refusal.TheVariants.{DayOfYear, EpochYear}
use Rattle.refusals.specs.Paper.{Paper, answered, paper, unless}
use Rattle.models.specs.declared.epochs.EpochOffset.{EpochOffset}
use Rattle.models.specs.Calendar.{days_in_year}

-- refusal 4
abbrev pub wrong_day : {A : Type 0} → Paper A
wrong_day = paper DayOfYear

-- refusal 5, with its first and its last day: from the first day of a year to the last of 2029
abbrev pub days_from : ℕ → Refusal
days_from first = EpochYear (record { year = pos first; day_of_year = pos 1 }) (record { year = pos 2029; day_of_year = pos 365 })

abbrev pub unknown_epoch : Refusal
unknown_epoch = days_from 2020

abbrev pub wrong_epoch : {A : Type 0} → Paper A
wrong_epoch = paper unknown_epoch

-- the day is neither below 1 nor above that year's length
unfoldable pub day_exists : (year day : ℤ) → Bool
day_exists year day = not (lt_z day (pos 1) || lt_z (pos (days_in_year year)) day)

-- how many years an epoch has
abbrev pub EPOCH_YEARS : ℕ
EPOCH_YEARS = 5

-- year / 5 · 5, the division cut toward zero
unfoldable pub epoch_year_of : ℤ → ℤ
epoch_year_of year = quot_z year (pos EPOCH_YEARS) *ℤ pos EPOCH_YEARS

-- the two years are the same
abbrev pub same_year : ℤ → ℤ → Bool
same_year (pos a) (pos b) = eqb a b
same_year (pos a) (negsuc b) = false
same_year (negsuc a) (pos b) = false
same_year (negsuc a) (negsuc b) = eqb a b

-- the year is n
abbrev pub is_year : ℕ → ℤ → Bool
is_year n y = same_year y (pos n)

-- 2020 or 2025
unfoldable pub known_epoch : ℤ → Bool
known_epoch e = is_year 2020 e || is_year 2025 e

-- a + b / n, each operation rounded once
abbrev pub whole_and_part : ℤ → ℤ → ℕ → Float
whole_and_part a b n = add binary32 (of_int binary32 a) (div binary32 (of_int binary32 b) (of_int binary32 (pos n)))

-- (year - epoch) + (day - 1)/(days in the year)
unfoldable pub offset_of : (year epoch day : ℤ) → Float
offset_of year epoch day = whole_and_part (year -ℤ epoch) (day -ℤ pos 1) (days_in_year year)

-- the same of naturals, for a year of n days
abbrev pub natural_offset : (year epoch day n : ℕ) → Float
natural_offset year epoch day n = whole_and_part (pos (year - epoch)) (pos (day - 1)) n

-- the epoch year and the offset
abbrev pub epoch_offset : (year day : ℤ) → EpochOffset
epoch_offset year day = record { epoch_year = epoch_year_of year; offset = offset_of year (epoch_year_of year) day }

-- refusal 4, then refusal 5, then the answer
unfoldable pub epoch_says : (year day : ℤ) → Paper EpochOffset
epoch_says year day =
    unless (day_exists year day) wrong_day
    (unless (known_epoch (epoch_year_of year)) wrong_epoch
    (answered (epoch_offset year day)))

-- ---- the IGRF profile (document 02, Wish 8)
-- the year lies from first to 2029
unfoldable pub served_from : ℕ → ℤ → Bool
served_from first year = not (lt_z year (pos first) || lt_z (pos 2029) year)

-- a day of these years: refusal 4, then refusal 5, then its epoch year and its offset
unfoldable pub day_from : ℕ → (year day : ℤ) → Paper EpochOffset
day_from first year day =
    unless (day_exists year day) wrong_day
    (unless (served_from first year) (paper (days_from first))
    (answered (epoch_offset year day)))

-- the first year of the profile
abbrev pub IGRF_FIRST : ℕ
IGRF_FIRST = 2000

-- its days: from 2000-01-01 to 2029-12-31
abbrev pub igrf_day : (year day : ℤ) → Paper EpochOffset
igrf_day = day_from IGRF_FIRST
