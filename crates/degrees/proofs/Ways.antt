-- The ways of `field_in_degrees`, and that what is said of a place in degrees is near the exact field of the made pairs. Assumes nothing.
use mathlib.Core.Path.{◌≡◌, sym, ◌∙◌}
use lib.IntN.{ℤ}
use Rattle.std.specs.Prelude.{Result}
use Rattle.refusals.specs.declared.Refusal.{Refusal}
use Rattle.refusals.specs.Paper.{answered, paper, said}
use Rattle.models.specs.Epochs.{epoch_offset}
use Rattle.strengths.specs.declared.GeomagneticField.{GeomagneticField}
use Rattle.trig.specs.declared.Pair.{Pair}
use Rattle.trig.specs.Fixed.{sine_says}
use Rattle.field.specs.Field.{field_says}
use Rattle.field.proofs.Answers.{field_close}
use Rattle.degrees.specs.Degrees.{Place, paired, degrees_says, DegreesClose}

module _ (a : Place) (year day : ℤ) where
  pub latitude_refused : (k : Refusal) → paper k ≡ sine_says a.latitude → paper k ≡ degrees_says a year day
  unfolding degrees_says
  latitude_refused k e = rw (sym e)

  module _ (p : Pair) (e : answered p ≡ sine_says a.latitude) where
    pub longitude_refused : (k : Refusal) → paper k ≡ sine_says a.longitude → paper k ≡ degrees_says a year day
    unfolding degrees_says
    longitude_refused k f = rw (sym e, sym f)

    pub asked_field : (q : Pair) → answered q ≡ sine_says a.longitude → field_says (paired a p q) year day ≡ degrees_says a year day
    unfolding degrees_says
    asked_field q f = rw (sym e, sym f)

  -- what is said is near the exact field of the made pairs
  pub said_close : (r : Result GeomagneticField Refusal) → said r ≡ degrees_says a year day → DegreesClose a (epoch_offset year day) r
  said_close r e = λ v m p q i j. field_close (paired a p q) year day r (e ∙ sym (asked_field p (sym i) q (sym j))) v m
