-- The public contract leaves one result: the law is over what the kit makes of its `ensures`.
use mathlib.Core.Path.{refl, sym, ◌∙◌}
use Rattle.refusals.specs.OneResult.{OneResult}
use Rattle.direction.proofs.direction as direction_fn

pub direction : OneResult direction_fn.Kinds.ps direction_fn.Kinds.r direction_fn.Reads.Post
direction κs a x y u v p q = (p.0 ∙ sym q.0, refl)
