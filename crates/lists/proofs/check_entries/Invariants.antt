use Rattle.std.proofs.Common.{◌≡◌, drop}
use Rattle.lists.specs.Lists.{entries_verdict}
use Rattle.lists.proofs.check_entries.Given as goal

abbrev pub invariant-loop-index : goal.invariant-loop-index
invariant-loop-index l = entries_verdict l.cap l.list 0 l.s ≡ entries_verdict l.cap l.list l.index (drop l.index l.s)
