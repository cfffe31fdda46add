-- Every public contract leaves one result: each law is over what the kit makes of the function's `ensures`.
use mathlib.Core.Path.{refl}
use Rattle.refusals.specs.OneResult.{OneResult}
use Rattle.float32.proofs.is_finite as is_finite_fn
use Rattle.float32.proofs.abs as abs_fn
use Rattle.float32.proofs.over_cap as over_cap_fn
use Rattle.float32.proofs.outside as outside_fn
use Rattle.float32.proofs.off_circle as off_circle_fn
use Rattle.float32.proofs.to_bits as to_bits_fn
use Rattle.float32.proofs.from_bits as from_bits_fn

pub is_finite : OneResult is_finite_fn.Kinds.ps is_finite_fn.Kinds.r is_finite_fn.Reads.Post
is_finite κs a x y u v p q = (cc, refl)

pub abs : OneResult abs_fn.Kinds.ps abs_fn.Kinds.r abs_fn.Reads.Post
abs κs a x y u v p q = (cc, refl)

pub over_cap : OneResult over_cap_fn.Kinds.ps over_cap_fn.Kinds.r over_cap_fn.Reads.Post
over_cap κs a x y u v p q = (cc, refl)

pub outside : OneResult outside_fn.Kinds.ps outside_fn.Kinds.r outside_fn.Reads.Post
outside κs a x y u v p q = (cc, refl)

pub off_circle : OneResult off_circle_fn.Kinds.ps off_circle_fn.Kinds.r off_circle_fn.Reads.Post
off_circle κs a x y u v p q = (cc, refl)

pub to_bits : OneResult to_bits_fn.Kinds.ps to_bits_fn.Kinds.r to_bits_fn.Reads.Post
to_bits κs a x y u v p q = (cc, refl)

pub from_bits : OneResult from_bits_fn.Kinds.ps from_bits_fn.Kinds.r from_bits_fn.Reads.Post
from_bits κs a x y u v p q = (cc, refl)
