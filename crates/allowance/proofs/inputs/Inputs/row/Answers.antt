use Rattle.std.proofs.Common.{◌≡◌, ◌∙◌, arith, add-one}
use Prim.Native.Nat.{suc}
use Rattle.sums.specs.Recurrence.{total, x_row, y_row, z_row}
use Rattle.bounds.specs.Bounds.{bounds}
use Rattle.sums.specs.Arithmetic.{rounded}
use Rattle.synthesis.specs.Code.{plus_of}
use Rattle.allowance.proofs.Lits.{abs_zero}
use Rattle.allowance.proofs.inputs.Inputs.row.Goals as goal

pub loop-m-init : goal.loop-m-init
unfolding total bounds
loop-m-init c = rw abs_zero

pub loop-m-preserved : goal.loop-m-preserved
unfolding total plus_of rounded bounds
loop-m-preserved c = c.plus-acc.ensures ∙ rw (add-one, c.term.ensures, c.loop-m.invariant)

pub returns : goal.returns
unfolding x_row y_row z_row
returns c = let e : c.loop-m.m ≡ suc c.args.n = omega arith in rw (c.loop-m.invariant, e)
