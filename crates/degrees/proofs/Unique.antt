-- The public contract leaves one result: the law is over what the kit makes of its `ensures`.
use mathlib.Core.Path.{refl}
use Rattle.refusals.specs.OneResult.{OneResult}
use Rattle.field.proofs.Answers.{field_answer_one}
use Rattle.degrees.proofs.field_in_degrees as field_in_degrees_fn

pub field_in_degrees : OneResult field_in_degrees_fn.Kinds.ps field_in_degrees_fn.Kinds.r field_in_degrees_fn.Reads.Post
field_in_degrees κs a x y u v p q = (field_answer_one _ x y p.0 q.0, refl)
