-- Every public contract leaves one result: each law is over what the kit makes of the function's `ensures`, a `Post` (`OneResult`), or its `clauses` (`OneAnswer`).
use mathlib.Core.Path.{refl, sym, ◌∙◌}
use Rattle.refusals.proofs.Laws.{said_one}
use Rattle.refusals.specs.OneResult.{OneResult, OneAnswer}
use Rattle.refusals.proofs.Clauses.{both_say_first}
use Rattle.models.proofs.epochs.known_epoch as known_epoch_fn
use Rattle.models.proofs.epochs.epoch as epoch_fn
use Rattle.models.proofs.epochs.igrf_epoch as igrf_epoch_fn
use Rattle.models.proofs.errors.error_model_by_epoch_year as error_model_by_epoch_year_fn
use Rattle.models.specs.contracts.records.error_model_listed as error_model_listed_fn

pub known_epoch_lem : OneResult known_epoch_fn.Kinds.ps known_epoch_fn.Kinds.r known_epoch_fn.Reads.Post
known_epoch_lem κs a x y u v p q = (cc, refl)

pub epoch : OneResult epoch_fn.Kinds.ps epoch_fn.Kinds.r epoch_fn.Reads.Post
epoch κs a x y u v p q = (said_one x y (p ∙ sym q), refl)

pub igrf_epoch : OneResult igrf_epoch_fn.Kinds.ps igrf_epoch_fn.Kinds.r igrf_epoch_fn.Reads.Post
igrf_epoch κs a x y u v p q = (said_one x y (p ∙ sym q), refl)

pub error_model_by_epoch_year : OneResult error_model_by_epoch_year_fn.Kinds.ps error_model_by_epoch_year_fn.Kinds.r error_model_by_epoch_year_fn.Reads.Post
error_model_by_epoch_year κs a x y u v p q = (said_one x y (p ∙ sym q), refl)

pub error_model_listed : OneAnswer error_model_listed_fn.ended (λ M 𝓤 𝓛. error_model_listed_fn.clauses 𝓛)
error_model_listed M 𝓤 𝓛 mem run κs a g x y u v = both_say_first 𝓤 (λ p q. (said_one x y (p ∙ sym q), refl))
