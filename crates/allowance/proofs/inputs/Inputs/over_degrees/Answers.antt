use Rattle.std.proofs.Common.{◌≡◌, arith, length}
use Rattle.tables.specs.Degree.{degree_of}
use Rattle.sums.specs.Recurrence.{power, total}
use Rattle.sums.specs.Paths.{placed}
use Rattle.synthesis.specs.Sum.{inputs}
use Rattle.bounds.specs.Bounds.{bounds}
use Rattle.allowance.proofs.Lits.{abs_zero}
use Rattle.allowance.proofs.Degrees.{more_power, more_degrees}
use Rattle.allowance.proofs.inputs.Inputs.over_degrees.Goals as goal

pub loop-j-init : goal.loop-j-init
unfolding power total inputs placed bounds
loop-j-init g c = record { top = c.degree_of-top.ensures; power = rw c.abs-ratio.ensures; sums = λ f h. rw abs_zero }

pub loop-j-preserved : goal.loop-j-preserved
loop-j-preserved g c =
    let e = c.loop-j.invariant in
    record { top = e.top; power = more_power _ _ _ _ e.power c.abs-ratio.ensures; sums = λ f h. more_degrees _ f _ _ _ _ _ e.power (e.sums f h) (h _ _ _ (omega (arith, e.top)) c.part.ensures) c.plus-tot.ensures }

pub returns : goal.returns
returns g c = λ f h.
    let e : c.loop-j.j ≡ degree_of (length c.args.self.lists.g.now) = omega (arith, c.loop-j.invariant.top) in
    rw e at (c.loop-j.invariant.sums f h)
