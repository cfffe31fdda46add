-- The built-in records: a known epoch year has one, and the call without a list reads them as a list. Assumes nothing.
use mathlib.Core.Path.{◌≡◌, refl, sym, ◌∙◌}
use mathlib.Core.Bool.{Bool, true, false, ◌||◌, true≢false}
use lib.IntN.{ℤ}
use lib.Ieee.{of_bits, le}
use Rattle.refusals.specs.Paper.{answered, paper}
use Rattle.models.specs.declared.errors.WmmErrorModel.{WmmErrorModel}
use Rattle.models.specs.Epochs.{is_year, known_epoch, unknown_epoch}
use Rattle.models.specs.Records.{figure_ok, figures_ok, figures_says, listed_errors}
use Rattle.models.specs.Errors.{built_in, errors2020, errors2025, error_says}
use Rattle.models.proofs.Search.{first_match, passed_over}

-- their figures can be used
usable_2020 : figures_says errors2020 ≡ answered errors2020
unfolding figure_ok figures_ok figures_says le of_bits
usable_2020 = refl

usable_2025 : figures_says errors2025 ≡ answered errors2025
unfolding figure_ok figures_ok figures_says le of_bits
usable_2025 = refl

-- the call without a list, by its year
module _ (year : ℤ) where
  pub says_2020 : is_year 2020 year ≡ true → error_says year ≡ answered errors2020
  unfolding known_epoch error_says
  says_2020 e = rw e (first_match _ _ year e ∙ usable_2020)

  module _ (n : is_year 2020 year ≡ false) where
    pub says_2025 : is_year 2025 year ≡ true → error_says year ≡ answered errors2025
    unfolding known_epoch error_says
    says_2025 e = rw (n, e) (passed_over _ _ year n ∙ first_match _ _ year e ∙ usable_2025)

    pub says_unknown : is_year 2025 year ≡ false → error_says year ≡ paper unknown_epoch
    unfolding known_epoch error_says
    says_unknown e = rw (n, e)

-- a known year has its figures in the built-in list
pub known_listed : (year : ℤ) → known_epoch year ≡ true → (m : WmmErrorModel) × (listed_errors built_in year ≡ answered m)
unfolding known_epoch
known_listed year k = go (is_year 2020 year) (is_year 2025 year) refl refl k
  where
    go : (a b : Bool) → is_year 2020 year ≡ a → is_year 2025 year ≡ b → is_year 2020 year || is_year 2025 year ≡ true → (m : WmmErrorModel) × (listed_errors built_in year ≡ answered m)
    go true b p q h = (errors2020, first_match _ _ year p ∙ usable_2020)
    go false true p q h = (errors2025, passed_over _ _ year p ∙ first_match _ _ year q ∙ usable_2025)
    go false false p q h = absurd (true≢false (sym h ∙ rw (p, q)))

-- there the two calls say the same
pub known_errors : (year : ℤ) → known_epoch year ≡ true → error_says year ≡ listed_errors built_in year
unfolding error_says
known_errors year k = rw k
