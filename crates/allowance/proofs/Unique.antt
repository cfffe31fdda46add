-- The public contracts leave one result each: the laws are over what the kit makes of their `ensures`.
use mathlib.Core.Path.{refl}
use Rattle.allowance.proofs.Answers.{allowance_answer_one}
use Rattle.refusals.specs.OneResult.{OneResult}
use Rattle.allowance.proofs.allowance as allowance_fn
use Rattle.allowance.proofs.profile.igrf_allowance as igrf_allowance_fn

pub allowance : OneResult allowance_fn.Kinds.ps allowance_fn.Kinds.r allowance_fn.Reads.Post
allowance κs a x y u v p q = (allowance_answer_one _ x y p.0 q.0, refl)

pub igrf_allowance : OneResult igrf_allowance_fn.Kinds.ps igrf_allowance_fn.Kinds.r igrf_allowance_fn.Reads.Post
igrf_allowance κs a x y u v p q = (allowance_answer_one _ x y p.0 q.0, refl)
