-- Every public contract leaves one result: each law is over what the kit makes of the function's `ensures`.
use mathlib.Core.Path.{refl, sym, ◌∙◌}
use Rattle.refusals.specs.OneResult.{OneResult}
use Rattle.synthesis.proofs.Answers.{sum_answer_one}
use Rattle.synthesis.proofs.sum as sum_fn
use Rattle.synthesis.proofs.sum_uncapped as sum_uncapped_fn
use Rattle.synthesis.proofs.Xyz.plus as plus_fn

pub sum : OneResult sum_fn.Kinds.ps sum_fn.Kinds.r sum_fn.Reads.Post
sum κs a x y u v p q = (sum_answer_one _ x y p.0 q.0, refl)

pub sum_uncapped : OneResult sum_uncapped_fn.Kinds.ps sum_uncapped_fn.Kinds.r sum_uncapped_fn.Reads.Post
sum_uncapped κs a x y u v p q = (sum_answer_one _ x y p.0 q.0, refl)

pub plus : OneResult plus_fn.Kinds.ps plus_fn.Kinds.r plus_fn.Reads.Post
plus κs a x y u v p q = (p ∙ sym q, refl)
