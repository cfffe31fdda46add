-- The public contract leaves one result: the law is over what the kit makes of its `ensures`.
use mathlib.Core.Path.{refl}
use Rattle.refusals.specs.OneResult.{OneResult}
use Rattle.trig.proofs.Laws.{answer_one}
use Rattle.trig.proofs.sine_and_cosine as sine_and_cosine_fn

pub sine_and_cosine : OneResult sine_and_cosine_fn.Kinds.ps sine_and_cosine_fn.Kinds.r sine_and_cosine_fn.Reads.Post
sine_and_cosine κs a x y u v p q = (answer_one _ x y p.0 q.0, refl)
