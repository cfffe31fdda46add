-- Every public contract leaves one result: each law is over what the kit makes of the function's `ensures`, a `Post` (`OneResult`), or its `clauses` (`OneAnswer`).
use mathlib.Core.Path.{refl, sym, ◌∙◌}
use Rattle.refusals.proofs.Laws.{said_one}
use Rattle.refusals.specs.OneResult.{OneResult, OneAnswer}
use Rattle.refusals.proofs.Clauses.{both_say_first}
use Rattle.strengths.proofs.GeomagneticField.h as h_fn
use Rattle.strengths.proofs.GeomagneticField.f as f_fn
use Rattle.strengths.proofs.bare_record as bare_record_fn
use Rattle.strengths.proofs.declination as declination_fn
use Rattle.strengths.proofs.GeomagneticField.declination as field_declination_fn
use Rattle.strengths.proofs.GeomagneticField.inclination as inclination_fn
use Rattle.strengths.proofs.GeomagneticField.declination_warning as declination_warning_fn
use Rattle.strengths.proofs.GeomagneticField.declination_uncertainty as declination_uncertainty_fn
use Rattle.strengths.proofs.GeomagneticField.uncertainty_with as uncertainty_with_fn
use Rattle.strengths.specs.contracts.GeomagneticField.declination_uncertainty_listed as declination_uncertainty_listed_fn
use Rattle.strengths.proofs.grid.grid_variation as grid_variation_fn

pub h : OneResult h_fn.Kinds.ps h_fn.Kinds.r h_fn.Reads.Post
h κs a x y u v p q = (said_one x y (p ∙ sym q), refl)

pub f : OneResult f_fn.Kinds.ps f_fn.Kinds.r f_fn.Reads.Post
f κs a x y u v p q = (said_one x y (p ∙ sym q), refl)

pub declination : OneResult declination_fn.Kinds.ps declination_fn.Kinds.r declination_fn.Reads.Post
declination κs a x y u v p q = (said_one x y (p.0 ∙ sym q.0), refl)

pub field_declination : OneResult field_declination_fn.Kinds.ps field_declination_fn.Kinds.r field_declination_fn.Reads.Post
field_declination κs a x y u v p q = (said_one x y (p.0 ∙ sym q.0), refl)

pub inclination : OneResult inclination_fn.Kinds.ps inclination_fn.Kinds.r inclination_fn.Reads.Post
inclination κs a x y u v p q = (said_one x y (p.0 ∙ sym q.0), refl)

pub declination_warning : OneResult declination_warning_fn.Kinds.ps declination_warning_fn.Kinds.r declination_warning_fn.Reads.Post
declination_warning κs a x y u v p q = (said_one x y (p ∙ sym q), refl)

pub declination_uncertainty : OneResult declination_uncertainty_fn.Kinds.ps declination_uncertainty_fn.Kinds.r declination_uncertainty_fn.Reads.Post
declination_uncertainty κs a x y u v p q = (said_one x y (p ∙ sym q), refl)

pub uncertainty_with_lem : OneResult uncertainty_with_fn.Kinds.ps uncertainty_with_fn.Kinds.r uncertainty_with_fn.Reads.Post
uncertainty_with_lem κs a x y u v p q = (said_one x y (p ∙ sym q), refl)

pub declination_uncertainty_listed : OneAnswer declination_uncertainty_listed_fn.ended (λ M 𝓤 𝓛. declination_uncertainty_listed_fn.clauses 𝓛)
declination_uncertainty_listed M 𝓤 𝓛 mem run κs a g x y u v = both_say_first 𝓤 (λ p q. (said_one x y (p ∙ sym q), refl))

pub grid_variation : OneResult grid_variation_fn.Kinds.ps grid_variation_fn.Kinds.r grid_variation_fn.Reads.Post
grid_variation κs a x y u v p q = (said_one x y (p ∙ sym q), refl)

pub bare_record : OneResult bare_record_fn.Kinds.ps bare_record_fn.Kinds.r bare_record_fn.Reads.Post
bare_record κs a x y u v p q = (p ∙ sym q, refl)
