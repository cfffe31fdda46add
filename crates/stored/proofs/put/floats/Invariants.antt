use Rattle.std.proofs.Common.{◌≡◌, ◌++◌, ◌*◌, take, drop}
use Rattle.stored.specs.Layout.{bytes_of}
use Rattle.stored.proofs.put.floats.Given as goal

-- the first i entries stand there
abbrev pub invariant-loop-i : goal.invariant-loop-i
invariant-loop-i l = l.content ≡ bytes_of (take l.i l.list) ++ drop (4 * l.i) l.initial.content
