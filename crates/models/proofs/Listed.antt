-- What a list of error records gives: what its first record of the year gives, or refusal 15. Assumes nothing.
use mathlib.Core.Path.{◌≡◌, refl, ◌∙◌, subst}
use mathlib.Core.Bool.{Bool, true, false, cond}
use mathlib.Core.List.{List, [], ◌∷◌, ◌++◌}
use lib.IntN.{ℤ}
use Rattle.refusals.specs.Paper.{answered, paper}
use Rattle.refusals.specs.declared.Refusal.TheVariants.{NoErrorRecord, Unusable}
use Rattle.refusals.proofs.Laws.{passed, no_answer, answered_one}
use Rattle.models.specs.declared.errors.WmmErrorModel.{WmmErrorModel}
use Rattle.models.specs.declared.records.ErrorRecord.{ErrorRecord}
use Rattle.models.specs.Epochs.{same_year}
use Rattle.models.specs.Records.{figures_ok, figures_says, listed_errors}
use Rattle.models.proofs.Search.{first_match, passed_over}

-- no record of the list is of the year
abbrev pub Without : ℤ → List ErrorRecord → Type 0
Without year [] = Unit {0}
Without year (r ∷ rs) = (same_year year r.epoch_year ≡ false) × Without year rs

-- a list without the year: refusal 15
pub without_year : (year : ℤ) (rs : List ErrorRecord) → Without year rs → listed_errors rs year ≡ paper NoErrorRecord
unfolding listed_errors
without_year year [] w = refl
without_year year (r ∷ rs) w = passed_over r rs year w.0 ∙ without_year year rs w.1

-- the first record of the year wins, whatever follows it: its figures, or refusal 12
pub first_wins : (year : ℤ) (before : List ErrorRecord) (r : ErrorRecord) (after : List ErrorRecord) → Without year before → same_year year r.epoch_year ≡ true → listed_errors (before ++ r ∷ after) year ≡ figures_says r.figures
first_wins year [] r after w e = first_match r after year e
first_wins year (b ∷ bs) r after w e = passed_over b (bs ++ r ∷ after) year w.0 ∙ first_wins year bs r after w.1 e

-- figures that a list gives can be used: all eight are finite, and none is negative
pub listed_usable : (year : ℤ) (rs : List ErrorRecord) (m : WmmErrorModel) → listed_errors rs year ≡ answered m → figures_ok m ≡ true
unfolding listed_errors figures_says
listed_usable year [] m h = absurd (no_answer NoErrorRecord m h)
listed_usable year (r ∷ rs) m h = go (same_year year r.epoch_year) (listed_usable year rs m) h
  where
    go : (t : Bool) → (listed_errors rs year ≡ answered m → figures_ok m ≡ true) → cond t (figures_says r.figures) (listed_errors rs year) ≡ answered m → figures_ok m ≡ true
    go true k e = let p = passed (figures_ok r.figures) Unusable (answered r.figures) m e in subst (λ (f : WmmErrorModel). figures_ok f ≡ true) (answered_one r.figures m p.1) p.0
    go false k e = k e
