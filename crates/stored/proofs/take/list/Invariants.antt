use Rattle.std.proofs.Common.{◌≡◌, ◌++◌, drop}
use Rattle.stored.specs.Layout.{floats_in}
use Rattle.stored.proofs.take.list.Given as goal

-- the first i entries are read
abbrev pub invariant-loop-i : goal.invariant-loop-i
invariant-loop-i l = l.list ≡ floats_in l.i l.content ++ drop l.i l.initial.list
