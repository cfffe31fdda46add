use Rattle.std.proofs.Common.{◌≡◌, ap, sym, ◌∙◌, rules}
use Rattle.refusals.specs.Paper.{paper, said}
use Rattle.refusals.proofs.Laws.{no_answer}
use Rattle.rates.specs.declared.YearlyRates.{YearlyRates}
use Rattle.field.specs.Field.{asked_of}
use Rattle.rates.specs.Rates.{rates_says}
use Rattle.rates.proofs.Answers.{close_if, divided_by, field_refused, no_divisor, not_divided, rated_xyz, rates_by}
use Rattle.rates.proofs.Laws.{finite_if}
use Rattle.rates.proofs.rates.Goals as goal

pub returns-in_err-v-clause-answer : goal.returns-in_err-v-clause-answer
returns-in_err-v-clause-answer c =
    let d = c.args.day in
    let a = asked_of c.args.place c.args.set in
    let e : paper {A = YearlyRates} c.in_err-v.field-0.0 ≡ rates_says a d.year d.day_of_year = field_refused a d.year d.day_of_year _ (sym (ap said c.in_err-v.was) ∙ c.field.ensures.answer) in
    search rules

pub returns-in_err-h-clause-answer : goal.returns-in_err-h-clause-answer
returns-in_err-h-clause-answer c =
    let d = c.args.day in
    let a = asked_of c.args.place c.args.set in
    let n = not_divided _ _ _ (sym c.divisor.ensures ∙ c.in_err-h.was) in
    let e : paper {A = YearlyRates} c.in_err-h.field-0.0 ≡ rates_says a d.year d.day_of_year =
    ap paper n.1 ∙ no_divisor c.args.place c.args.set d.year d.day_of_year _ (sym (ap said c.in_ok-v.was) ∙ c.field.ensures.answer) n.0 in
    search rules

pub returns-in_err-r-clause-answer : goal.returns-in_err-r-clause-answer
returns-in_err-r-clause-answer c =
    let f = sym (ap said c.in_ok-v.was) ∙ c.field.ensures.answer in
    let x = rated_xyz c.args.place c.args.set c.args.day.year c.args.day.day_of_year _ f _ c.rated.ensures.answer in
    absurd (no_answer c.in_err-r.field-0.0 _ (sym (ap said c.in_err-r.was) ∙ c.xyz_uncapped.ensures.answer ∙ x))

pub rates_with-requires : goal.rates_with-requires
rates_with-requires c = let d = divided_by _ _ _ (sym c.divisor.ensures ∙ c.in_ok-h.was) in (d.1, rw d.1 d.0)

answer : (c : goal.After-rates_with) → said c.rates_with.result ≡ rates_says (asked_of c.args.place c.args.set) c.args.day.year c.args.day.day_of_year
answer c =
    let f = sym (ap said c.in_ok-v.was) ∙ c.field.ensures.answer in
    rates_by c.args.place c.args.set c.args.day.year c.args.day.day_of_year _ f _ (sym (ap said c.in_ok-r.was) ∙ c.xyz_uncapped.ensures.answer ∙ rated_xyz c.args.place c.args.set c.args.day.year c.args.day.day_of_year _ f _ c.rated.ensures.answer) _ c.rates_with.ensures

pub returns-clause-answer : goal.returns-clause-answer
returns-clause-answer c = answer c

pub returns-clause-distance : goal.returns-clause-distance
returns-clause-distance c = close_if _ _ _ _ (answer c)

pub returns-clause-finite : goal.returns-clause-finite
returns-clause-finite c = finite_if _ _ _ _ (answer c)
