-- The yearly rates in the IGRF profile (document 02, Wish 8). Definitions only.
use Rattle.std.specs.Prelude.{ℤ}
use Rattle.refusals.specs.Paper.{Paper, after}
use Rattle.strengths.specs.Strengths.{bare}
use Rattle.field.specs.Rated.{component_rates}
use Rattle.igrf.specs.Igrf.{Profile, chosen, early, igrf_says}
use Rattle.rates.specs.declared.YearlyRates.{YearlyRates}
use Rattle.rates.specs.Rates.{rates_with}

-- the profile's refusals in their order, then 21, then the rates; before 2025 those of X, Y and Z are of a fifth of the gap between the sets
unfoldable pub igrf_rates_says : Profile → (year day : ℤ) → Paper YearlyRates
igrf_rates_says a year day = after (igrf_says a year day) (λ v. rates_with (component_rates (chosen a (early year))) (bare v.x v.y v.z))
