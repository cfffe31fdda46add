use Rattle.std.proofs.Common.{sym, ◌∙◌, drop_of_length-le, arith}
use Rattle.lists.specs.Lists.{entries_verdict}
use Rattle.lists.proofs.Checked.{entry_bad, entry_good}
use Rattle.lists.proofs.check_entries.Goals as goal

pub returns-then-over_cap : goal.returns-then-over_cap
returns-then-over_cap c = entry_bad _ _ c.args.s.now c.loop-index.index _ (omega arith) c.loop-index.invariant (sym c.over_cap.ensures ∙ c.if-over_cap.true)

pub loop-index-preserved : goal.loop-index-preserved
loop-index-preserved c = entry_good _ _ c.args.s.now c.loop-index.index _ (omega arith) c.loop-index.invariant (sym c.over_cap.ensures ∙ c.if-over_cap.false)

pub returns : goal.returns
unfolding entries_verdict
returns c = sym (c.loop-index.invariant ∙ rw (drop_of_length-le c.args.s.now {i = c.loop-index.index} (omega arith)))
