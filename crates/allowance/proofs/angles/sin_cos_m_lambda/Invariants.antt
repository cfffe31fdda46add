use Rattle.std.proofs.Common.{◌≡◌}
use Rattle.sums.specs.Recurrence.{angle}
use Rattle.bounds.specs.Bounds.{bounds}
use Rattle.allowance.proofs.angles.sin_cos_m_lambda.Given as goal

-- the pair of order `counter`
abbrev pub invariant-loop : goal.invariant-loop
invariant-loop l =
    let a = angle bounds l.fn.longitude.sin l.fn.longitude.cos l.counter in
    (l.sin ≡ a.fst) × (l.cos ≡ a.snd)
