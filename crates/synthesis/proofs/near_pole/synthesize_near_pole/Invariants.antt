use Rattle.std.proofs.Common.{◌≡◌, ◌+◌, ◌-◌, ◌<◌, ◌≤◌}
use Rattle.tables.specs.Rule.{k_of}
use Rattle.synthesis.specs.Sum.{lent_at}
use Rattle.synthesis.proofs.PoleSum.{Outer}
use Rattle.synthesis.proofs.near_pole.synthesize_near_pole.Given as goal

-- the degrees below n are done
abbrev pub invariant-loop-n : goal.invariant-loop-n
invariant-loop-n l =
    let d = l.dated in
    (0 < l.n) × (l.n ≤ l.fn.top + 1) × (l.k0 ≡ k_of l.n 0) × (l.k1 ≡ k_of l.n 1) × Outer (lent_at l.theta l.fn.lambda l.ratio d.offset d.lists) (l.n - 1) l.prev1 l.prev2 l.a_over_r_n2 l.tot
