use Rattle.std.proofs.Common.{◌≡◌, refl, arith, add-one}
use Rattle.sums.specs.Recurrence.{angle}
use Rattle.bounds.specs.Bounds.{bounds}
use Rattle.allowance.proofs.Lits.{abs_zero, abs_one}
use Rattle.allowance.proofs.angles.sin_cos_m_lambda.Goals as goal

pub loop-init : goal.loop-init
unfolding angle bounds
loop-init c = (abs_zero, abs_one)

pub loop-preserved : goal.loop-preserved
unfolding angle bounds
loop-preserved c =
    let i = c.loop.invariant in
    (rw (add-one, i.0, i.1, c.abs-s.ensures, c.abs-c.ensures) refl, rw (add-one, i.0, i.1, c.abs-s.ensures, c.abs-c.ensures) refl)

pub returns : goal.returns
returns c = let e : c.loop.counter ≡ c.args.m = omega arith in rw (c.loop.invariant.0, c.loop.invariant.1, e)
