use Rattle.std.proofs.Common.{◌≡◌, ◌≤◌, ◌+◌, ◌-◌, Float}
use Rattle.sums.specs.Recurrence.{Input}
use Rattle.synthesis.specs.Code.{cell_xyz, totals}
use Rattle.synthesis.proofs.terms.Terms.added.Given as goal

-- the terms below m are added
abbrev pub invariant-loop-m : goal.invariant-loop-m
invariant-loop-m l =
    (l.i ≤ l.m) × (l.m ≤ l.i + l.count) × ((j : Input Float) → record { x = l.x; y = l.y; z = l.z } ≡ totals j (λ m. cell_xyz l.self (l.i + m)) (l.m - l.i))
