-- X, Y and Z that the profile answers with can be used: no strength of them ends in 12. Assumes nothing.
use mathlib.Core.Path.{◌≡◌, refl, subst}
use mathlib.Core.Bool.{Bool, true, false}
use lib.IntN.{ℤ}
use lib.Ieee.{Float}
use Rattle.refusals.specs.Paper.{answered}
use Rattle.models.specs.declared.epochs.EpochOffset.{EpochOffset}
use Rattle.models.specs.Epochs.{epoch_offset}
use Rattle.synthesis.specs.declared.Xyz.{Xyz}
use Rattle.strengths.specs.Strengths.{bare, h_of, strength_says, usable, zone_of, zone_says}
use Rattle.field.specs.Field.{strengths_of}
use Rattle.field.proofs.Ceiling.{record_usable}
use Rattle.igrf.specs.Igrf.{Profile, chosen, early, igrf_says}
use Rattle.igrf.proofs.Close.{early_usable}
use Rattle.igrf.proofs.Laws.{Met, behind, late_accepted, late_listed}
use Rattle.lists.proofs.OfProfile.{pair_listed}

met_usable : (a : Profile) (e : EpochOffset) (soon : Bool) → Met a soon e → (v : Xyz) → strengths_of (chosen a soon) e ≡ v → usable (bare v.x v.y v.z) ≡ true
unfolding chosen usable
met_usable a e true m v h = subst (λ (u : Xyz). usable (bare u.x u.y u.z) ≡ true) h (early_usable a m.place.0 m.place.1 m.place.2 (pair_listed _ _ _ _ m.lists) e m.offset)
met_usable a e false m v h = subst (λ (u : Xyz). usable (bare u.x u.y u.z) ≡ true) h (record_usable a.one e (late_accepted a e m) (late_listed a e m) (bare v.x v.y v.z).error)

module _ (a : Profile) (year day : ℤ) (v : Xyz) (h : igrf_says a year day ≡ answered v) where
  pub igrf_usable : usable (bare v.x v.y v.z) ≡ true
  igrf_usable = let b = behind false a year day v h in met_usable a (epoch_offset year day) (early year) b.0 v b.1

  pub strength_never_12 : (s : Float) → strength_says (bare v.x v.y v.z) s ≡ answered s
  unfolding strength_says
  strength_never_12 s = rw igrf_usable refl

  pub zone_never_12 : zone_says (bare v.x v.y v.z) ≡ answered (zone_of (h_of (bare v.x v.y v.z)))
  unfolding zone_says
  zone_never_12 = rw igrf_usable refl
