-- Error records with their years, in a list that is searched by year (document 02, Wish 2). Definitions only.
use Rattle.std.specs.Prelude.{Bool, ◌&&◌, cond, List, [], ◌∷◌, ℤ, Float}
use Rattle.std.specs.Float.{binary32}
use Rattle.std.specs.Float.Ieee.{of_bits, le}
use Rattle.std.specs.Float.Ieee.Scale.{finite}
use Rattle.refusals.specs.declared.Refusal.TheVariants.{NoErrorRecord, Unusable}
use Rattle.refusals.specs.Paper.{Paper, answered, paper, unless}
use Rattle.models.specs.declared.errors.WmmErrorModel.{WmmErrorModel}
use Rattle.models.specs.declared.records.ErrorRecord.{ErrorRecord}
use Rattle.models.specs.Epochs.{same_year}

-- a figure that can be used: finite, and not negative (-0 is not)
unfoldable pub figure_ok : Float → Bool
figure_ok x = finite x && le (of_bits binary32 0) x

-- all eight
unfoldable pub figures_ok : WmmErrorModel → Bool
figures_ok m =
    figure_ok m.declination_sigma_c && figure_ok m.declination_sigma_v && figure_ok m.inclination && figure_ok m.f
    && figure_ok m.h && figure_ok m.x && figure_ok m.y && figure_ok m.z

-- refusal 12, or the figures
unfoldable pub figures_says : WmmErrorModel → Paper WmmErrorModel
figures_says m = unless (figures_ok m) (paper Unusable) (answered m)

-- the first record of the year wins; a list without one gives refusal 15
unfoldable pub listed_errors : List ErrorRecord → ℤ → Paper WmmErrorModel
listed_errors [] year = paper NoErrorRecord
listed_errors (r ∷ rs) year = cond (same_year year r.epoch_year) (figures_says r.figures) (listed_errors rs year)
