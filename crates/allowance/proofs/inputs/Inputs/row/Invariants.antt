use Rattle.std.proofs.Common.{◌≡◌}
use Rattle.allowance.specs.Code.{lent_of}
use Rattle.allowance.proofs.Degrees.{first_orders}
use Rattle.allowance.proofs.inputs.Inputs.row.Given as goal

-- the orders below m are added up
abbrev pub invariant-loop-m : goal.invariant-loop-m
invariant-loop-m l = l.acc ≡ first_orders (lent_of l.fn.self) l.n l.m
