use Rattle.std.proofs.Common.{◌≡◌, ◌+◌, ap, ◌∙◌, arith, add-one}
use Prim.Native.Nat.{suc}
use Rattle.exact.specs.Exact.{lit}
use Rattle.exact.specs.Tests.{abs}
use Rattle.sums.specs.Recurrence.{quotient}
use Rattle.sums.specs.Paths.{placed}
use Rattle.synthesis.specs.Sum.{inputs}
use Rattle.synthesis.proofs.PoleSum.{next_k_lem}
use Rattle.bounds.specs.Bounds.{bounds}
use Rattle.allowance.proofs.Lits.{abs_one}
use Rattle.allowance.proofs.near_pole.quotient_of.Goals as goal

pub loop-i-init : goal.loop-i-init
unfolding quotient bounds
loop-i-init c = λ a e. (abs_one, abs_one)

pub loop-i-preserved : goal.loop-i-preserved
unfolding quotient bounds inputs placed lit
loop-i-preserved c = λ a e.
    let w = c.loop-i.invariant a e in
    let j = c.loop-i.i in
    let k = c.abs-k.ensures ∙ ap abs (c.legendre_k.ensures ∙ (next_k_lem (j + 1) (omega arith)).1) in
    let v : j + 1 + 1 ≡ suc (suc j) = omega arith in
    (rw (k, v, add-one j, c.abs-c.ensures, e, w.0, w.1), rw (add-one j, w.0))

pub returns : goal.returns
returns c = λ a e.
    let h : c.loop-i.i ≡ c.args.j = omega arith in
    (c.loop-i.invariant a e).0 ∙ rw (add-one, h)
