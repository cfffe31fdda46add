use Rattle.std.proofs.Common.{◌≡◌, ◌≤◌, nat_eq, drop}
use Rattle.std.specs.Float.Ieee.{neg}
use Rattle.std.specs.Prelude.{◌&&◌}
use Rattle.exact.specs.Tests.{all_between}
use Rattle.lists.proofs.outside_flag.Given as goal

-- the flag is 0 or 1, and no more is to be found than in the entries that are left
abbrev pub invariant-loop-x : goal.invariant-loop-x
invariant-loop-x l = record { flag : l.bad ≤ 1; found : all_between (neg l.cap) l.cap l.s ≡ nat_eq l.bad 0 && all_between (neg l.cap) l.cap (drop l.x-index l.s) }
