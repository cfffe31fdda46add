-- What Field has answered for passes with the rates in the place of the coefficients too: Sum refuses nothing of it, and its X, Y and Z keep the distance of demand 3. Assumes nothing.
use mathlib.Core.Path.{◌≡◌, refl, ap, ◌∙◌}
use mathlib.Core.Bool.{true}
use lib.IntN.{ℤ}
use Rattle.refusals.specs.Paper.{answered}
use Rattle.models.specs.Epochs.{epoch_offset, epoch_year_of, known_epoch}
use Rattle.models.specs.Errors.{error_says}
use Rattle.models.proofs.Years.{same_year_lem, year_same}
use Rattle.lists.proofs.Checked.{Listed, listed_pass}
use Rattle.strengths.specs.declared.GeomagneticField.{GeomagneticField}
use Rattle.field.specs.Field.{Asked, FieldAccepted, dated_says, field_says, shown_says}
use Rattle.field.proofs.Answers.{Found, found}
use Rattle.field.specs.Rated.{component_rates, no_time, rated}
use Rattle.field.proofs.Rated.{rates_accepted, rates_listed}

module _ (a : Asked) (year day : ℤ) (v : GeomagneticField) (h : field_says a year day ≡ answered v) where
  -- what Field found
  pub of_field : Found (error_says (epoch_year_of year)) a (epoch_offset year day) v
  unfolding field_says
  of_field = found (error_says (epoch_year_of year)) a year day v h

  same : a.set_epoch ≡ epoch_year_of year
  same = same_year_lem a.set_epoch (epoch_year_of year) of_field.same

  pub set_known : known_epoch a.set_epoch ≡ true
  set_known = ap known_epoch same ∙ of_field.accepted.known

  pub rated_accepted : FieldAccepted (rated a) (no_time a)
  rated_accepted = rates_accepted a (epoch_offset year day) of_field.accepted same

  pub rated_listed : Listed a.g_dot a.h_dot a.g_dot a.h_dot
  rated_listed = rates_listed of_field.lists

  -- so there are X, Y and Z of the rates
  pub rated_dated : dated_says (rated a) (no_time a) ≡ answered (component_rates a)
  unfolding dated_says shown_says rated no_time
  rated_dated = rw (set_known, listed_pass rated_listed, year_same a.set_epoch) refl
