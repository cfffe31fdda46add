use Rattle.std.proofs.Common.{sym, ◌∙◌, nat_eq, drop_of_length-le, arith}
use Rattle.exact.specs.Tests.{all_between}
use Rattle.lists.proofs.Checked.{bad_all, good_next, flag_of, and_true}
use Rattle.lists.proofs.outside_flag.Goals as goal
use Rattle.lists.proofs.outside_flag.Goals.{then-outside, else-outside}

pub loop-x-preserved : goal.loop-x-preserved
loop-x-preserved c =
    let found = c.loop-x.invariant.found in
    elim c.if-outside.branch [
      | then-outside w ↦ record { flag = omega arith; found = rw w.bad-is (bad_all _ _ c.args.s.now c.loop-x.x-index _ _ (omega arith) found (sym c.outside.ensures ∙ w.if-outside.true)) }
      | else-outside w ↦ record { flag = omega arith; found = rw w.bad-is (good_next _ _ c.args.s.now c.loop-x.x-index _ _ (omega arith) found (sym c.outside.ensures ∙ w.if-outside.false)) }
    ]

pub returns-clause-value : goal.returns-clause-value
unfolding all_between
returns-clause-value c =
    flag_of c.loop-x.bad _ c.loop-x.invariant.flag (c.loop-x.invariant.found ∙ rw (drop_of_length-le c.args.s.now {i = c.loop-x.x-index} (omega arith)) (and_true (nat_eq c.loop-x.bad 0)))
