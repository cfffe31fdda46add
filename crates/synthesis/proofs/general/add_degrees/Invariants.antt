use Rattle.std.proofs.Common.{◌≡◌, ◌+◌, ◌-◌, ◌<◌, ◌≤◌, Float}
use Rattle.sums.specs.Arithmetic.{rounded}
use Rattle.sums.specs.Recurrence.{Input, power}
use Rattle.synthesis.specs.Code.{Filled, lane_total}
use Rattle.synthesis.proofs.general.add_degrees.Given as goal

-- the degrees below n are added
abbrev pub invariant-loop-n : goal.invariant-loop-n
invariant-loop-n l =
    (0 < l.n) × (l.n ≤ l.fn.top + 1) × ((i : Input Float) → l.ratio ≡ i.ratio → Filled i l.fn.top 0 l.terms → (l.power ≡ power rounded i (l.n - 1)) × (l.tot ≡ lane_total i (l.n - 1)))
