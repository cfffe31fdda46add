use Rattle.std.proofs.Common.{◌≡◌, ◌<◌, ◌+◌, ◌++◌, drop}
use Rattle.tables.specs.Degree.{M_LEN}
use Rattle.synthesis.specs.Code.{cos_at, first, sin_at}
use Rattle.synthesis.proofs.angles.sin_cos_m_lambda.Given as goal

-- the orders below m are filled in
abbrev pub invariant-loop-m : goal.invariant-loop-m
invariant-loop-m l =
    let a = l.longitude in
    (0 < l.m) × (l.m < M_LEN + 1) × (l.sin ≡ first (sin_at a.sin a.cos) l.m ++ drop l.m l.initial.sin) × (l.cos ≡ first (cos_at a.sin a.cos) l.m ++ drop l.m l.initial.cos)
