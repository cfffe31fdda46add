-- The ways to a zone and to an uncertainty, and that what is said leaves one answer.
use mathlib.Core.Path.{◌≡◌, refl, sym, ap, ◌∙◌}
use mathlib.Core.Bool.{Bool, true, false}
use lib.IntN.{ℤ}
use lib.Ieee.{Float, binary32, of_bits, lt}
use Rattle.std.specs.Prelude.{Option, Some, None, Result}
use Rattle.refusals.specs.declared.Refusal.{Refusal}
use Rattle.refusals.specs.declared.Refusal.TheVariants.{Unusable}
use Rattle.refusals.specs.Paper.{Paper, answered, paper, unless, after, said}
use Rattle.refusals.proofs.Laws.{said_one}
use Rattle.models.specs.declared.errors.WmmErrorModel.{WmmErrorModel}
use Rattle.models.specs.Epochs.{wrong_epoch, known_epoch}
use Rattle.models.specs.Records.{listed_errors}
use Rattle.models.specs.Errors.{built_in, error_says}
use Rattle.strengths.specs.declared.GeomagneticField.{GeomagneticField}
use Rattle.strengths.specs.declared.WarningZone.{WarningZone}
use Rattle.strengths.specs.declared.WarningZone.TheVariants.{Blackout, Caution}
use Rattle.strengths.specs.Strengths.{hypot_of, h_of, usable, zone_of, zone_says, uncertainty_of, uncertainty_with, uncertainty_says, listed_uncertainty}

-- ---- the zone
module _ (v : GeomagneticField) (h : Float) (u : usable v ≡ true) (e : h ≡ hypot_of v.x v.y) where
  h_is : h ≡ h_of v
  unfolding h_of
  h_is = e

  zone_is : (w : Option WarningZone) → zone_of h ≡ w → answered w ≡ zone_says v
  unfolding zone_says
  zone_is w z = rw u (ap answered (sym z ∙ ap zone_of h_is))

  pub zone_blackout : lt h (of_bits binary32 0x44fa0000) ≡ true → answered (Some Blackout) ≡ zone_says v
  zone_blackout a = zone_is (Some Blackout) (unfold zone_of in rw a)

  module _ (a : lt h (of_bits binary32 0x44fa0000) ≡ false) where
    pub zone_caution : lt h (of_bits binary32 0x45bb8000) ≡ true → answered (Some Caution) ≡ zone_says v
    zone_caution b = zone_is (Some Caution) (unfold zone_of in rw (a, b))

    pub zone_none : lt h (of_bits binary32 0x45bb8000) ≡ false → answered None ≡ zone_says v
    zone_none b = zone_is None (unfold zone_of in rw (a, b))

-- ---- the uncertainty, with any figures
module _ (v : GeomagneticField) (figures : Paper WmmErrorModel) where
  pub uncertainty_refused : (k : Refusal) → figures ≡ paper k → paper k ≡ uncertainty_with figures v
  unfolding uncertainty_with
  uncertainty_refused k h = rw h

  module _ (m : WmmErrorModel) (h : figures ≡ answered m) where
    pub uncertainty_unusable : usable v ≡ false → paper Unusable ≡ uncertainty_with figures v
    unfolding uncertainty_with
    uncertainty_unusable u = rw (h, u)

    pub uncertainty_usable : usable v ≡ true → answered (uncertainty_of m (h_of v)) ≡ uncertainty_with figures v
    unfolding uncertainty_with
    uncertainty_usable u = rw (h, u)

    pub uncertainty_shown : usable v ≡ true → (s : Float) → s ≡ hypot_of v.x v.y → (x : Float) → x ≡ uncertainty_of m s → answered x ≡ uncertainty_with figures v
    unfolding h_of
    uncertainty_shown u s es x ex = rw (ex, es) (uncertainty_usable u)

-- the call without a list is the call with the built-in list, but for refusal 5 in place of 15
pub built_in_uncertainty : (v : GeomagneticField) (year : ℤ) → uncertainty_says v year ≡ unless (known_epoch year) wrong_epoch (listed_uncertainty v built_in year)
unfolding uncertainty_says listed_uncertainty uncertainty_with error_says
built_in_uncertainty v year = go (known_epoch year) (listed_errors built_in year) _
  where
    go : (b : Bool) (p : Paper WmmErrorModel) (f : WmmErrorModel → Paper Float) → after (unless b wrong_epoch p) f ≡ unless b wrong_epoch (after p f)
    go true p f = refl
    go false p f = refl

-- ---- any two answers that say the same are equal
pub strength_one : (p : Paper Float) (r s : Result Float Refusal) → said r ≡ p → said s ≡ p → r ≡ s
strength_one p r s e f = said_one r s (e ∙ sym f)

pub zone_one : (p : Paper (Option WarningZone)) (r s : Result (Option WarningZone) Refusal) → said r ≡ p → said s ≡ p → r ≡ s
zone_one p r s e f = said_one r s (e ∙ sym f)

pub grid_one : (p : Paper (Option Float)) (r s : Result (Option Float) Refusal) → said r ≡ p → said s ≡ p → r ≡ s
grid_one p r s e f = said_one r s (e ∙ sym f)
