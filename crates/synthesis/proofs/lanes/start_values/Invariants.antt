use Rattle.std.proofs.Common.{◌≡◌, ◌<◌, ◌+◌, ◌++◌, drop}
use Rattle.tables.specs.Degree.{M_LEN}
use Rattle.synthesis.specs.Code.{first, start_dp, start_p}
use Rattle.synthesis.proofs.lanes.start_values.Given as goal

-- the orders below m are filled in
abbrev pub invariant-loop-m : goal.invariant-loop-m
invariant-loop-m l =
    let c = l.theta in
    (0 < l.m) × (l.m < M_LEN + 1) × (l.p ≡ first (start_p c.cos c.sin) l.m ++ drop l.m l.initial.p) × (l.dp ≡ first (start_dp c.cos c.sin) l.m ++ drop l.m l.initial.dp)
