use Rattle.std.proofs.Common.{refl, ◌∙◌}
use Rattle.stored.specs.Layout.{bytes_of}
use Rattle.stored.proofs.Stores.{all_put, entry_put}
use Rattle.stored.proofs.put.floats.Goals as goal

pub loop-i-init : goal.loop-i-init
unfolding bytes_of
loop-i-init c = refl

pub loop-i-preserved : goal.loop-i-preserved
loop-i-preserved c =
    entry_put c.args.content.now c.args.list.now c.loop-i.i c.loop-i-test.true c.loop-i.content c.loop-i.invariant
    c.to_bits.result c.to_bits.ensures _ (c.copy_from_slice.ensures.after ∙ c.to_le_bytes.ensures)

pub returns : goal.returns
returns c =
    all_put c.args.content.now c.args.list.now c.requires c.loop-i.i c.loop-i-test.false c.loop-i.auto.i-end c.loop-i.content c.loop-i.invariant
