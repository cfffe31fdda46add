use Rattle.std.proofs.Common.{◌≡◌, ap, sym, ◌∙◌}
use Rattle.std.specs.Prelude.{Ok}
use Rattle.refusals.specs.Paper.{answered, said}
use Rattle.field.specs.Field.{asked_of}
use Rattle.allowance.specs.Allowance.{allowance_says}
use Rattle.allowance.proofs.Answers.{allowances_shown, covers_if, day_known, lists_long}
use Rattle.allowance.proofs.allowance.Goals as goal

pub returns-in_err-e-clause-answer : goal.returns-in_err-e-clause-answer
returns-in_err-e-clause-answer c = absurd (day_known _ _ _ _ (sym (ap said c.in_ok-field.was) ∙ c.field.ensures.answer) _ (sym (ap said c.in_err-e.was) ∙ c.epoch.ensures))

pub allowance_at-requires : goal.allowance_at-requires
allowance_at-requires c = lists_long _ _ _ _ (sym (ap said c.in_ok-field.was) ∙ c.field.ensures.answer)

answer : (c : goal.After-allowance_at) → answered c.allowance_at.result ≡ allowance_says (asked_of c.args.place c.args.set) c.args.day.year c.args.day.day_of_year
answer c = allowances_shown _ _ _ _ (sym (ap said c.in_ok-field.was) ∙ c.field.ensures.answer) c.in_ok-e.e (sym (ap said c.in_ok-e.was) ∙ c.epoch.ensures) _ c.allowance_at.ensures

pub returns-clause-answer : goal.returns-clause-answer
returns-clause-answer c = answer c

pub returns-clause-covers : goal.returns-clause-covers
returns-clause-covers c = covers_if (asked_of c.args.place c.args.set) c.args.day.year c.args.day.day_of_year (Ok c.allowance_at.result) (answer c)
