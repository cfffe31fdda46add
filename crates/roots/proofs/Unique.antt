-- Every public contract leaves one result: each law is over what the kit makes of the function's `ensures`.
use mathlib.Core.Path.{refl}
use Rattle.roots.proofs.Answer.{root_answer_one}
use Rattle.refusals.specs.OneResult.{OneResult}
use Rattle.roots.proofs.sqrt as sqrt_fn
use Rattle.roots.proofs.sqrt_by_guess as sqrt_by_guess_fn
use Rattle.roots.proofs.square_root as square_root_fn

pub sqrt : OneResult sqrt_fn.Kinds.ps sqrt_fn.Kinds.r sqrt_fn.Reads.Post
sqrt κs a x y u v p q = (cc, refl)

pub sqrt_by_guess : OneResult sqrt_by_guess_fn.Kinds.ps sqrt_by_guess_fn.Kinds.r sqrt_by_guess_fn.Reads.Post
sqrt_by_guess κs a x y u v p q = (cc, refl)

pub square_root : OneResult square_root_fn.Kinds.ps square_root_fn.Kinds.r square_root_fn.Reads.Post
square_root κs a x y u v p q = (root_answer_one _ x y p q, refl)
