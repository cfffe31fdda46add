-- The public contracts leave one result each: the laws are over what the kit makes of their `ensures`.
use mathlib.Core.Path.{refl}
use Rattle.refusals.specs.OneResult.{OneResult}
use Rattle.rates.proofs.Answers.{rates_answer_one}
use Rattle.rates.proofs.rates as rates_fn
use Rattle.rates.proofs.profile.igrf_rates as igrf_rates_fn

pub rates : OneResult rates_fn.Kinds.ps rates_fn.Kinds.r rates_fn.Reads.Post
rates κs a x y u v p q = (rates_answer_one _ x y p.0 q.0, refl)

pub igrf_rates : OneResult igrf_rates_fn.Kinds.ps igrf_rates_fn.Kinds.r igrf_rates_fn.Reads.Post
igrf_rates κs a x y u v p q = (rates_answer_one _ x y p.0 q.0, refl)
