-- Each public contract leaves one result: the law is over what the kit makes of the function's `ensures`.
use mathlib.Core.Path.{sym, ap, ◌∙◌}
use Rattle.refusals.specs.OneResult.{OneResult}
use Rattle.lists.specs.Sets.{Left}
use Rattle.refusals.proofs.Laws.{said_one}
use Rattle.stored.specs.Stored.{Written}
use Rattle.stored.proofs.read as read_fn
use Rattle.stored.proofs.read_either as read_either_fn
use Rattle.stored.proofs.write as write_fn
use Rattle.stored.proofs.write_either as write_either_fn

pub stored_read : OneResult read_fn.Kinds.ps read_fn.Kinds.r read_fn.Reads.Post
stored_read κs a x y u v p q =
    let e = p.0 ∙ sym q.0 in
    (said_one x y (ap (λ (l : Left). l.says) e), λ i. (tt, ((e i).lists.g, ((e i).lists.h, ((e i).lists.g_dot, ((e i).lists.h_dot, tt))))))

pub stored_write : OneResult write_fn.Kinds.ps write_fn.Kinds.r write_fn.Reads.Post
stored_write κs a x y u v p q =
    let e = p.0 ∙ sym q.0 in
    (ap (λ (w : Written). w.found) e, λ i. (tt, ((e i).bytes, tt)))

pub read_either : OneResult read_either_fn.Kinds.ps read_either_fn.Kinds.r read_either_fn.Reads.Post
read_either κs a x y u v p q =
    let e = p.0 ∙ sym q.0 in
    (said_one x y (ap (λ (l : Left). l.says) e), λ i. (tt, ((e i).lists.g, ((e i).lists.h, ((e i).lists.g_dot, ((e i).lists.h_dot, tt))))))

pub write_either : OneResult write_either_fn.Kinds.ps write_either_fn.Kinds.r write_either_fn.Reads.Post
write_either κs a x y u v p q =
    let e = p.0 ∙ sym q.0 in
    (ap (λ (w : Written). w.found) e, λ i. (tt, ((e i).bytes, tt)))
