use Rattle.std.proofs.Common.{◌≡◌}
use Rattle.synthesis.specs.Sum.{Lent, inputs}
use Rattle.bounds.specs.Bounds.{bounds}
use Rattle.allowance.proofs.Column.{Way}
use Rattle.allowance.proofs.rows.p_dp.Given as goal

-- on the way to order m, at degree j
abbrev pub invariant-loop-j : goal.invariant-loop-j
invariant-loop-j l = (a : Lent) → l.fn.colatitude.cos ≡ a.cos_theta → l.fn.colatitude.sin ≡ a.sin_theta → Way (inputs bounds a) l.j l.m l.prev1 l.prev2
