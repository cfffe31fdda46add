use Rattle.std.proofs.Common.{refl}
use Rattle.stored.specs.Layout.{floats_in}
use Rattle.stored.proofs.Floats.{all_read, entry_taken}
use Rattle.stored.proofs.take.list.Goals as goal

pub loop-i-init : goal.loop-i-init
unfolding floats_in
loop-i-init c = refl

pub loop-i-preserved : goal.loop-i-preserved
loop-i-preserved c = entry_taken c.loop-i.i c.args.content.now c.args.list.now c.loop-i.list c.loop-i-test.true c.loop-i.invariant _ c.entry.ensures

pub returns : goal.returns
returns c = all_read c.loop-i.i c.args.content.now c.args.list.now c.loop-i.list c.loop-i-test.false c.loop-i.auto.i-end c.loop-i.invariant
