use Rattle.std.proofs.Common.{◌≡◌, ◌-◌, arith}
use Rattle.synthesis.proofs.GeneralSum.{one_added, totals_none}
use Rattle.synthesis.proofs.terms.Terms.added.Goals as goal

pub loop-m-init : goal.loop-m-init
loop-m-init c = (omega arith, omega arith, λ j. totals_none j _ _ (omega arith))

pub loop-m-preserved : goal.loop-m-preserved
loop-m-preserved c =
    let l = c.loop-m in
    (omega arith, omega arith, λ j. one_added j c.args.self.now c.args.i l.m _ (omega arith) (l.invariant.2 j))

pub returns : goal.returns
returns c = λ j.
    let l = c.loop-m in
    let e : l.m - c.args.i ≡ c.args.count = omega arith in
    rw e at l.invariant.2 j
