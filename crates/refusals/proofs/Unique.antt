-- Each public contract leaves one result: the law is over what the kit makes of its `ensures`.
use mathlib.Core.Path.{refl}
use Rattle.refusals.specs.OneResult.{OneResult}
use Rattle.refusals.proofs.ListName.number as list_name_number_fn
use Rattle.refusals.proofs.Refusal.number as number_fn

pub number : OneResult number_fn.Kinds.ps number_fn.Kinds.r number_fn.Reads.Post
number κs a x y u v p q = (cc, refl)

pub list_name_number : OneResult list_name_number_fn.Kinds.ps list_name_number_fn.Kinds.r list_name_number_fn.Reads.Post
list_name_number κs a x y u v p q = (cc, refl)
