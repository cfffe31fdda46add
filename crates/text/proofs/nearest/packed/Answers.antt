use Rattle.text.proofs.Rounded.{none_packed, kept_whole, lifted_packed}
use Rattle.text.proofs.nearest.packed.Goals as goal

pub returns-then-n-eq0 : goal.returns-then-n-eq0
returns-then-n-eq0 c = rw c.if-n-eq0.true (none_packed c.args.d c.requires)

pub returns : goal.returns
returns c =
    let l = c.lifted-a in
    let m = c.lifted-b in
    let j = c.extra-j in
    let k = kept_whole c.args.n c.args.d l.result.n m.result.n l.result.by m.result.by j.result l.ensures m.ensures j.ensures in
    rw (c.bits.ensures, k) (lifted_packed c.args.n c.args.d l.result.n m.result.n l.result.by m.result.by j.result l.ensures m.ensures j.ensures c.requires)
