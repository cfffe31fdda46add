use Rattle.std.proofs.Common.{◌≡◌}
use Rattle.std.proofs.lemmas.Grind.{common_steps}
use Rattle.std.proofs.Common.{arith}
use Rattle.refusals.specs.Paper.{said}
use Rattle.models.specs.Errors.{error_says}
use Rattle.field.specs.Field.{asked_of, field_says}
use Rattle.field.proofs.Answers.{close_if, field_by}
use Rattle.field.proofs.field.Goals as goal

pub returns-in_err-shown-clause-answer : goal.returns-in_err-shown-clause-answer
unfolding field_says
returns-in_err-shown-clause-answer c = rw (field_by error_says (asked_of c.args.place c.args.set) c.args.day.year c.args.day.day_of_year) (grind (arith, common_steps))

answer : (c : goal.After-with_figures) → said c.with_figures.result ≡ field_says (asked_of c.args.place c.args.set) c.args.day.year c.args.day.day_of_year
unfolding field_says
answer c = rw (field_by error_says (asked_of c.args.place c.args.set) c.args.day.year c.args.day.day_of_year) (grind (arith, common_steps))

pub returns-clause-answer : goal.returns-clause-answer
returns-clause-answer c = answer c

pub returns-clause-distance : goal.returns-clause-distance
unfolding field_says
returns-clause-distance c = close_if _ _ _ _ _ (answer c)
