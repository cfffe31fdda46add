-- The public contract leaves one result: the law is over what the kit makes of the function's `ensures`.
use mathlib.Core.Path.{sym, ap, ◌∙◌}
use Rattle.refusals.specs.OneResult.{OneResult}
use Rattle.refusals.proofs.Laws.{said_one}
use Rattle.lists.specs.Sets.{Left}
use Rattle.agency.proofs.read as read_fn

pub read : OneResult read_fn.Kinds.ps read_fn.Kinds.r read_fn.Reads.Post
read κs a x y u v p q =
    let e = p.0 ∙ sym q.0 in
    (said_one x y (ap (λ (l : Left). l.says) e), λ i. (tt, ((e i).lists.g, ((e i).lists.h, ((e i).lists.g_dot, ((e i).lists.h_dot, tt))))))
