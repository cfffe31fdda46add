-- Every public contract leaves one result: each law is over what the kit makes of the function's `ensures`, a `Post` (`OneResult`), or its `clauses` (`OneAnswer`).
use mathlib.Core.Path.{refl, sym, ◌∙◌}
use Rattle.refusals.proofs.Laws.{said_one}
use Rattle.field.proofs.Answers.{field_answer_one}
use Rattle.refusals.specs.OneResult.{OneResult, OneAnswer}
use Rattle.refusals.proofs.Clauses.{three_say_first}
use Rattle.field.proofs.field as field_fn
use Rattle.field.proofs.field_with as field_with_fn
use Rattle.field.specs.contracts.listed.field_listed as field_listed_fn
use Rattle.field.proofs.axes.turn as turn_fn
use Rattle.field.proofs.check_epoch as check_epoch_fn
use Rattle.field.proofs.dated.xyz_uncapped as xyz_uncapped_fn
use Rattle.field.proofs.place.Place.check as check_place_fn

pub field : OneResult field_fn.Kinds.ps field_fn.Kinds.r field_fn.Reads.Post
field κs a x y u v p q = (field_answer_one _ x y p.0 q.0, refl)

pub field_with_lem : OneResult field_with_fn.Kinds.ps field_with_fn.Kinds.r field_with_fn.Reads.Post
field_with_lem κs a x y u v p q = (field_answer_one _ x y p.0 q.0, refl)

pub field_listed : OneAnswer field_listed_fn.ended (λ M 𝓤 𝓛. field_listed_fn.clauses 𝓛)
field_listed M 𝓤 𝓛 mem run κs a g x y u v = three_say_first 𝓤 (λ p q. (field_answer_one _ x y p q, refl))

pub turn : OneResult turn_fn.Kinds.ps turn_fn.Kinds.r turn_fn.Reads.Post
turn κs a x y u v p q = (cc, refl)

pub check_place : OneResult check_place_fn.Kinds.ps check_place_fn.Kinds.r check_place_fn.Reads.Post
check_place κs a x y u v p q = (cc, refl)

pub check_epoch : OneResult check_epoch_fn.Kinds.ps check_epoch_fn.Kinds.r check_epoch_fn.Reads.Post
check_epoch κs a x y u v p q = (cc, refl)

pub xyz_uncapped : OneResult xyz_uncapped_fn.Kinds.ps xyz_uncapped_fn.Kinds.r xyz_uncapped_fn.Reads.Post
xyz_uncapped κs a x y u v p q = (said_one x y (p.0 ∙ sym q.0), refl)
