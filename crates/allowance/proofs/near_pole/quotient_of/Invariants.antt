use Rattle.std.proofs.Common.{◌≡◌}
use Prim.Native.Nat.{suc}
use Rattle.sums.specs.Recurrence.{quotient}
use Rattle.synthesis.specs.Sum.{Lent, inputs}
use Rattle.bounds.specs.Bounds.{bounds}
use Rattle.allowance.proofs.near_pole.quotient_of.Given as goal

-- those of degrees i + 1 and i
abbrev pub invariant-loop-i : goal.invariant-loop-i
invariant-loop-i l = (a : Lent) → l.cos_theta ≡ a.cos_theta → (l.q_prev1 ≡ quotient bounds (inputs bounds a) (suc l.i)) × (l.q_prev2 ≡ quotient bounds (inputs bounds a) l.i)
