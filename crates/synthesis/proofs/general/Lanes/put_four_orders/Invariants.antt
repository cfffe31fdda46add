use Rattle.std.proofs.Common.{◌+◌, ◌<◌, ◌≤◌, Float}
use Rattle.sums.specs.Recurrence.{Input}
use Rattle.synthesis.specs.Code.{Apart, Ready}
use Rattle.synthesis.proofs.TermsHold.{Block}
use Rattle.synthesis.proofs.GeneralSum.{Carried, Held}
use Rattle.synthesis.proofs.general.Lanes.put_four_orders.Given as goal

-- from what the loop begins with: the degrees below n are stored
abbrev pub invariant-loop-n : goal.invariant-loop-n
invariant-loop-n l =
    let a = l.initial in
    (l.m < l.n) × (l.n ≤ l.fn.top + 1) × Apart l.q
    × ((i : Input Float) → Ready i l.fn.top l.self → Carried i l.m (l.m + 1) a.r a.k → Held i l.m (l.m + 1) l.m a.rows a.q → Block i l.fn.top l.m (l.m + 1) l.m a.terms
    → Carried i l.m l.n l.r l.k × Held i l.m l.n l.m l.rows l.q × Block i l.fn.top l.m l.n l.m l.terms)
