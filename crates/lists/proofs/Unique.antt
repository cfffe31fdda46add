-- Each public contract leaves one result: the law is over what the kit makes of the function's `ensures`.
use mathlib.Core.Path.{refl, sym, ◌∙◌}
use Rattle.refusals.specs.OneResult.{OneResult}
use Rattle.lists.proofs.Lists.check_caps as check_caps_fn
use Rattle.lists.proofs.Lists.check_lengths as check_lengths_fn
use Rattle.lists.proofs.Lists.check as check_fn
use Rattle.lists.proofs.Lists.check_forecast as check_forecast_fn
use Rattle.lists.proofs.profile.check_pair as check_pair_fn
use Rattle.lists.proofs.Lists.rated as rated_fn
use Rattle.lists.proofs.Lists.are_long as are_long_fn

pub check : OneResult check_fn.Kinds.ps check_fn.Kinds.r check_fn.Reads.Post
check κs a x y u v p q = (p.0 ∙ sym q.0, refl)

pub check_lengths : OneResult check_lengths_fn.Kinds.ps check_lengths_fn.Kinds.r check_lengths_fn.Reads.Post
check_lengths κs a x y u v p q = (p.0 ∙ sym q.0, refl)

pub are_long : OneResult are_long_fn.Kinds.ps are_long_fn.Kinds.r are_long_fn.Reads.Post
are_long κs a x y u v p q = (p.0 ∙ sym q.0, refl)

pub check_caps : OneResult check_caps_fn.Kinds.ps check_caps_fn.Kinds.r check_caps_fn.Reads.Post
check_caps κs a x y u v p q = (p.0 ∙ sym q.0, refl)

pub check_pair : OneResult check_pair_fn.Kinds.ps check_pair_fn.Kinds.r check_pair_fn.Reads.Post
check_pair κs a x y u v p q = (p.0 ∙ sym q.0, refl)

pub check_forecast : OneResult check_forecast_fn.Kinds.ps check_forecast_fn.Kinds.r check_forecast_fn.Reads.Post
check_forecast κs a x y u v p q = (p.0 ∙ sym q.0, refl)

pub rated : OneResult rated_fn.Kinds.ps rated_fn.Kinds.r rated_fn.Reads.Post
rated κs a x y u v p q = (p.0 ∙ sym q.0, refl)
