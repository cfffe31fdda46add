use Rattle.std.proofs.Common.{sym, refl}
use Rattle.lists.specs.Sets.{lists_of}
use Rattle.stored.proofs.Answers.{a_degree, at_most, each_alike}
use Rattle.stored.proofs.write_either.Goals as goal

pub set-requires-clause-bound : goal.set-requires-clause-bound
set-requires-clause-bound c =
    let l = c.args.set.lists in
    at_most _ (a_degree (lists_of l.g.now l.h.now l.g_dot.now l.h_dot.now) (sym c.in_ok-check_lengths.ensures.answer))

pub set-requires-clause-each : goal.set-requires-clause-each
set-requires-clause-each c =
    let l = c.args.set.lists in
    each_alike (lists_of l.g.now l.h.now l.g_dot.now l.h_dot.now) (sym c.in_ok-check_lengths.ensures.answer) _ refl
