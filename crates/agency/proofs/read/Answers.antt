-- one law of proofs/Answers.antt for each way
use Rattle.std.proofs.Common.{◌≡◌, ◌∙◌, ap, sym, rules}
use Rattle.std.proofs.lemmas.Result.{err_from_is_err_and}
use mir.Syntax.{w32}
use mir.Val.{to_z, of_z}
use Rattle.lists.specs.Sets.{lists_of, set_verdict}
use Rattle.agency.proofs.Answers.{unread, over_cap, within_caps, nothing_put, all_put}
use Rattle.agency.proofs.read.Goals as goal

pub returns-in_err-set-clause-answer : goal.returns-in_err-set-clause-answer
returns-in_err-set-clause-answer c =
    let a = c.args in
    let p = err_from_is_err_and c.from_residual.result c.from_residual.ensures.1 in
    rw (p.1, p.2) (nothing_put a.text.now (lists_of a.g.now a.h.now a.g_dot.now a.h_dot.now) (sym c.if-not-are_long.false ∙ c.are_long.ensures.answer) _ (unread _ _ c.in_err-set.ensures.set))

pub returns-in_err-check_caps-clause-answer : goal.returns-in_err-check_caps-clause-answer
returns-in_err-check_caps-clause-answer c =
    let a = c.args in
    let p = err_from_is_err_and c.from_residual-in_err-check_caps.result c.from_residual-in_err-check_caps.ensures.1 in
    rw (p.1, p.2)
    (nothing_put a.text.now (lists_of a.g.now a.h.now a.g_dot.now a.h_dot.now) (sym c.if-not-are_long.false ∙ c.are_long.ensures.answer) _ (over_cap _ _ c.in_ok-set.ensures.set _ (c.in_err-check_caps.ensures.answer ∙ ap set_verdict c.lists.ensures)))

pub returns-clause-answer : goal.returns-clause-answer
returns-clause-answer c =
    let a = c.args in
    let y : to_z w32 (of_z w32 c.in_ok-set.set.epoch_year) ≡ c.in_ok-set.set.epoch_year = search rules in
    rw (y, c.copy_from_slice.ensures.after, c.copy_from_slice-2.ensures.after, c.copy_from_slice-3.ensures.after, c.copy_from_slice-4.ensures.after)
    (all_put a.text.now (lists_of a.g.now a.h.now a.g_dot.now a.h_dot.now) (sym c.if-not-are_long.false ∙ c.are_long.ensures.answer) _ (within_caps _ _ c.in_ok-set.ensures.set _ (c.in_ok-check_caps.ensures.answer ∙ ap set_verdict c.lists.ensures)))
