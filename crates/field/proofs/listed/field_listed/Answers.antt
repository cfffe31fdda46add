use Rattle.std.proofs.Common.{◌≡◌, ap, ◌∙◌, rules}
use Rattle.refusals.specs.Paper.{said}
use Rattle.models.specs.Records.{listed_errors}
use Rattle.field.specs.Field.{asked_of, field_with, listed_field}
use Rattle.field.proofs.Answers.{by_8, close_if}
use Rattle.field.proofs.listed.field_listed.Goals as goal

-- where figures are used refusal 8 has passed, so those of the set's year are those of the day's epoch
answer : (c : goal.After-field_with) → said c.field_with.result ≡ listed_field c.args.records.now (asked_of c.args.place c.args.set) c.args.day.year c.args.day.day_of_year
unfolding listed_field
answer c =
    let a = asked_of c.args.place c.args.set in
    let d = c.args.day in
    let figures : said c.error_model_listed.result ≡ listed_errors c.args.records.now c.args.set.epoch_year = search rules in
    c.field_with.ensures.answer ∙ ap (λ p. field_with p a d.year d.day_of_year) figures ∙ by_8 (listed_errors c.args.records.now) a d.year d.day_of_year

pub returns-clause-answer : goal.returns-clause-answer
returns-clause-answer c = answer c

pub returns-clause-distance : goal.returns-clause-distance
unfolding listed_field
returns-clause-distance c = close_if _ _ _ _ _ (answer c)
