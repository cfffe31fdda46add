use Rattle.std.proofs.Common.{◌≡◌, ◌*◌, ◌/◌, ◌≤◌, Float}
use Rattle.tables.specs.Degree.{WMM_MAX}
use Rattle.sums.specs.Recurrence.{Input}
use Rattle.synthesis.specs.Code.{Filled, Fresh, Ready}
use Rattle.synthesis.proofs.general.Lanes.put_all.Given as goal

-- the orders from m on are stored
abbrev pub invariant-loop-m : goal.invariant-loop-m
invariant-loop-m l =
    let a = l.initial in
    (4 * (l.m / 4) ≡ l.m) × (l.m ≤ WMM_MAX)
    × ((i : Input Float) → Ready i l.top l.self → Fresh i WMM_MAX a.rows → Filled i l.top WMM_MAX a.terms → Fresh i l.m l.rows × Filled i l.top l.m l.terms)

-- proposed from the loop's first test
abbrev pub decreases-loop-m : goal.decreases-loop-m
decreases-loop-m l = l.m
