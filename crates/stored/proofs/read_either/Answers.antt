use Rattle.std.proofs.Common.{sym, ◌∙◌, arith}
use Rattle.std.proofs.lemmas.Grind.{common_steps}
use Rattle.lists.specs.Sets.{lists_of}
use Rattle.stored.specs.Stored.{either_verdict, form_verdict}
use Rattle.stored.proofs.Answers.{each_alike, longer}
use Rattle.stored.proofs.read_either.Goals as goal

pub set-requires-clause-each : goal.set-requires-clause-each
set-requires-clause-each c =
    let a = c.args in
    each_alike (lists_of a.g.now a.h.now a.g_dot.now a.h_dot.now) (sym c.in_ok-check_lengths.ensures.answer) _ (c.if-g-entries.false ∙ c.if-entries-eq-N_COEFF.true)

pub set-requires-else-entries-eq-N_COEFF-clause-each : goal.set-requires-else-entries-eq-N_COEFF-clause-each
set-requires-else-entries-eq-N_COEFF-clause-each c =
    let a = c.args in
    let l = lists_of a.g.now a.h.now a.g_dot.now a.h_dot.now in
    let e = sym c.in_ok-check_lengths.ensures.answer in
    each_alike l e _ (c.if-g-entries.false ∙ longer l e _ c.if-g-entries.false c.if-entries-eq-N_COEFF.false)

pub set-requires-else-entries-eq-N_COEFF-clause-whole : goal.set-requires-else-entries-eq-N_COEFF-clause-whole
set-requires-else-entries-eq-N_COEFF-clause-whole c =
    let a = c.args in
    let l = lists_of a.g.now a.h.now a.g_dot.now a.h_dot.now in
    rw (longer l (sym c.in_ok-check_lengths.ensures.answer) _ c.if-g-entries.false c.if-entries-eq-N_COEFF.false) at c.in_ok-contents.ensures.lengths

pub returns-else-entries-eq-N_COEFF-clause-answer : goal.returns-else-entries-eq-N_COEFF-clause-answer
unfolding either_verdict form_verdict
returns-else-entries-eq-N_COEFF-clause-answer c =
    let a = c.args in
    let l = lists_of a.g.now a.h.now a.g_dot.now a.h_dot.now in
    let n = longer l (sym c.in_ok-check_lengths.ensures.answer) _ c.if-g-entries.false c.if-entries-eq-N_COEFF.false in
    grind (arith, common_steps)
