-- The IGRF profile (document 02, Wish 8): what it is asked, its refusals in their order, its answer, and the exact field that it is near. Definitions only.
use Rattle.refusals.specs.Paper.{Paper, Verdict, accepted, after, answered, both, check, told}
use Rattle.std.specs.Prelude.{Bool, true, false, cond, List, ◌++◌, ℕ, ℤ, pos, ◌+ℤ◌, min, length, get_or, drop, replicate, Float}
use Rattle.std.specs.Int.Signed.{lt_z}
use Rattle.std.specs.Float.{binary32}
use Rattle.std.specs.Float.Ieee.{div, of_bits, sub}
use Rattle.exact.specs.Within.{Within}
use Rattle.refusals.specs.declared.Refusal.TheVariants.{OtherEpoch}
use Rattle.models.specs.declared.epochs.EpochOffset.{EpochOffset}
use Rattle.models.specs.Epochs.{EPOCH_YEARS, igrf_day, same_year}
use Rattle.tables.specs.Degree.{N_MAX, degree_of, entries}
use Rattle.lists.specs.Profile.{forecast_verdict, pair_verdict}
use Rattle.sums.specs.Arithmetic.{Arithmetic, sizes, unrounded}
use Rattle.sums.specs.Recurrence.{Input}
use Rattle.sums.specs.Paths.{between, five, nought, passing, path_x, path_y, path_z, placed}
use Rattle.synthesis.specs.declared.Xyz.{Xyz}
use Rattle.synthesis.specs.Code.{first}
use Rattle.field.specs.Turn.{turn_x, turn_z}
use Rattle.lists.specs.declared.CoefficientSet.{CoefficientSet}
use Rattle.lists.specs.declared.profile.SecondSet.{SecondSet}
use Rattle.field.specs.declared.place.Place.{Place}
use Rattle.field.specs.Field.{Asked, asked_of, field_x, field_y, field_z, handed, place_verdict, strengths_of}
use Rattle.field.specs.There.{there_x, there_y, there_z}
use Rattle.field.specs.Rated.{component_rates, no_time, rated}

-- what is asked, beside the day: the place and the first set, as Field is asked them; of the second set its year, g and h (its rates are never read)
pub record Profile : Type 0 where
  pub one : Asked
  pub second_epoch : ℤ
  pub second_g : List Float
  pub second_h : List Float

abbrev pub profile : Asked → ℤ → List Float → List Float → Profile
profile one year g h = record { one = one; second_epoch = year; second_g = g; second_h = h }

-- the same of a place and the lent sets
abbrev pub profile_of : Place → CoefficientSet → SecondSet → Profile
profile_of p first second = profile (asked_of p first) second.epoch_year second.g.now second.h.now

-- ---- before 2025
-- the year lies before 2025: two sets are read
unfoldable pub early : ℤ → Bool
early year = lt_z year (pos 2025)

-- (second - first) / 5, each step rounded once
unfoldable pub fifth : Float → Float → Float
fifth from to = div binary32 (sub binary32 to from) five

-- what f makes of two lists at a place
abbrev pub made_at : (Float → Float → Float) → List Float → List Float → ℕ → Float
made_at f from to k = f (get_or from k nought) (get_or to k nought)

-- the same of two lists of one length, place by place
abbrev pub made : (Float → Float → Float) → List Float → List Float → List Float
made f from to = first (made_at f from to) (length from)

-- the rates between two lists of one length
abbrev pub fifths : List Float → List Float → List Float
fifths = made fifth

-- how many places of an array two lists fill
abbrev pub filled : List Float → List Float → ℕ
filled from to = min (min (length from) (length to)) (entries N_MAX)

-- what f makes of them in the array, which has zeros beyond
abbrev pub in_array : (Float → Float → Float) → List Float → List Float → List Float
in_array f from to = first (made_at f from to) (filled from to) ++ drop (filled from to) (replicate (entries N_MAX) (of_bits binary32 0))

-- the first set with these as its rates: each coefficient at the date is first + offset·((second - first) / 5), every step rounded once
unfoldable pub mixed : Profile → Asked
mixed a =
    record {
      height = a.one.height;
      sin_phi = a.one.sin_phi;
      cos_phi = a.one.cos_phi;
      sin_lambda = a.one.sin_lambda;
      cos_lambda = a.one.cos_lambda;
      set_epoch = a.one.set_epoch;
      g = a.one.g;
      h = a.one.h;
      g_dot = fifths a.one.g a.second_g;
      h_dot = fifths a.one.h a.second_h;
    }

-- ---- the answer: X, Y and Z, each operation rounded once
unfoldable pub components_of : Profile → Bool → EpochOffset → Xyz
components_of a soon e = strengths_of (cond soon (mixed a) a.one) e

-- what they are worked out of: before 2025 the interpolation, and else the first set as it is
unfoldable pub chosen : Profile → Bool → Asked
chosen a soon = cond soon (mixed a) a.one

-- X, Y and Z on a day, or their yearly rates, each operation rounded once
abbrev pub found_by : (as-rates : Bool) → Asked → EpochOffset → Xyz
found_by as-rates q e = cond as-rates (component_rates q) (strengths_of q e)

-- ---- the exact field, over any arithmetic: it interpolates as it stands
unfoldable pub across : {A : Type 0} → Arithmetic A → Profile → EpochOffset → Input A
across o a e =
    let s = handed a.one e in
    placed s.cos_theta s.sin_theta s.sin_lambda s.cos_lambda s.ratio (between o a.one.g a.second_g e.offset) (between o a.one.h a.second_h e.offset)

module _ {A : Type 0} (o : Arithmetic A) (a : Profile) (e : EpochOffset) where
  abbrev top : ℕ
  top = degree_of (length a.one.g)

  unfoldable pub across_x : A
  across_x = turn_x o (handed a.one e).cos_theta (handed a.one e).sin_theta a.one.cos_phi a.one.sin_phi (path_x o (across o a e) top) (path_z o (across o a e) top)

  unfoldable pub across_y : A
  across_y = path_y o (across o a e) top

  unfoldable pub across_z : A
  across_z = turn_z o (handed a.one e).cos_theta (handed a.one e).sin_theta a.one.cos_phi a.one.sin_phi (path_x o (across o a e) top) (path_z o (across o a e) top)

  module _ (soon : Bool) where
    abbrev pub igrf_x : A
    igrf_x = cond soon across_x (field_x o a.one e)

    abbrev pub igrf_y : A
    igrf_y = cond soon across_y (field_y o a.one e)

    abbrev pub igrf_z : A
    igrf_z = cond soon across_z (field_z o a.one e)

-- ---- its exact rates: before 2025 a fifth of the gap between the two sets
module _ {A : Type 0} (o : Arithmetic A) (a : Profile) where
  abbrev degree : ℕ
  degree = degree_of (length a.one.g)

  abbrev g_rate : ℕ → ℕ → A
  g_rate = passing o a.one.g a.second_g

  abbrev h_rate : ℕ → ℕ → A
  h_rate = passing o a.one.h a.second_h

  module _ (soon : Bool) where
    abbrev pub rate_x : A
    rate_x = cond soon (there_x o a.one degree g_rate h_rate) (field_x o (rated a.one) (no_time a.one))

    abbrev pub rate_y : A
    rate_y = cond soon (there_y o a.one degree g_rate h_rate) (field_y o (rated a.one) (no_time a.one))

    abbrev pub rate_z : A
    rate_z = cond soon (there_z o a.one degree g_rate h_rate) (field_z o (rated a.one) (no_time a.one))

-- demand 3: each component within the promised distance of the exact field, with the sizes as its majorant
pub record IgrfClose (a : Profile) (soon : Bool) (e : EpochOffset) (v : Xyz) : Type 0 where
  pub x : Within v.x (igrf_x unrounded a e soon) (igrf_x sizes a e soon)
  pub y : Within v.y (igrf_y unrounded a e soon) (igrf_y sizes a e soon)
  pub z : Within v.z (igrf_z unrounded a e soon) (igrf_z sizes a e soon)

-- and each rate, x', y' and z', within that of the exact rates
pub record RateClose (a : Profile) (soon : Bool) (x' y' z' : Float) : Type 0 where
  pub x : Within x' (rate_x unrounded a soon) (rate_x sizes a soon)
  pub y : Within y' (rate_y unrounded a soon) (rate_y sizes a soon)
  pub z : Within z' (rate_z unrounded a soon) (rate_z sizes a soon)

-- ---- the refusals
-- 6, 23, 22 and 7 of the lists that are read
abbrev pub lists_found : Profile → Bool → Verdict
lists_found a soon = cond soon (pair_verdict a.one.g a.one.h a.second_g a.second_h) (forecast_verdict a.one.g a.one.h a.one.g_dot a.one.h_dot)

-- 8: each set that is read has the year that is needed, which it carries with its own
abbrev pub years_found : Bool → (of_day one two : ℤ) → Verdict
years_found true of_day one two =
    check (same_year one of_day) (OtherEpoch of_day one) (check (same_year two (of_day +ℤ pos EPOCH_YEARS)) (OtherEpoch (of_day +ℤ pos EPOCH_YEARS) two) accepted)
years_found false of_day one two = check (same_year one of_day) (OtherEpoch of_day one) accepted

-- the refusals alone, by document 02's order: 1, 2, 3, 4, 5, 6, 23, 22, 7, 8, then the day's epoch and offset
abbrev pub accepted_says : Profile → (year day : ℤ) → Paper EpochOffset
accepted_says a year day =
    told (place_verdict a.one.height a.one.sin_phi a.one.cos_phi a.one.sin_lambda a.one.cos_lambda)
    (after (igrf_day year day) (λ e. told (both (lists_found a (early year)) (years_found (early year) e.epoch_year a.one.set_epoch a.second_epoch)) (answered e)))

-- from the day on, for its epoch and offset e
abbrev pub day_shows : Profile → Bool → EpochOffset → Paper Xyz
day_shows a soon e = told (lists_found a soon) (told (years_found soon e.epoch_year a.one.set_epoch a.second_epoch) (answered (components_of a soon e)))

-- by document 02's order: 1, 2, 3, 4, 5, 6, 23, 22, 7, 8, then X, Y and Z
unfoldable pub igrf_says : Profile → (year day : ℤ) → Paper Xyz
igrf_says a year day =
    told (place_verdict a.one.height a.one.sin_phi a.one.cos_phi a.one.sin_lambda a.one.cos_lambda) (after (igrf_day year day) (day_shows a (early year)))

-- the same of X, Y and Z or of their rates
abbrev pub day_shows_by : (as-rates : Bool) → Profile → Bool → EpochOffset → Paper Xyz
day_shows_by as-rates a soon e =
    told (lists_found a soon) (told (years_found soon e.epoch_year a.one.set_epoch a.second_epoch) (answered (found_by as-rates (chosen a soon) e)))

-- the yearly rates of X, Y and Z, by the same order
unfoldable pub rate_says : Profile → (year day : ℤ) → Paper Xyz
rate_says a year day =
    told (place_verdict a.one.height a.one.sin_phi a.one.cos_phi a.one.sin_lambda a.one.cos_lambda) (after (igrf_day year day) (day_shows_by true a (early year)))

-- the one or the other
abbrev pub igrf_by : (as-rates : Bool) → Profile → (year day : ℤ) → Paper Xyz
igrf_by false a year day = igrf_says a year day
igrf_by true a year day = rate_says a year day
