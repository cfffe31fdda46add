-- What is answered is the definition's, and so within 2 ^ -15 degree.
use Rattle.std.proofs.Common.{rules}
use Rattle.strengths.proofs.Angles.{declination_near, declined, x_refused, y_refused}
use Rattle.strengths.proofs.declination.Goals as goal
use Rattle.strengths.proofs.declination.Goals.{then-over_cap-via-then-over_cap, then-over_cap-via-else-over_cap+then-over_cap-2}

pub returns-then-over_cap-clause-answer : goal.returns-then-over_cap-clause-answer
returns-then-over_cap-clause-answer c =
    elim c.then-over_cap.branch [
      | then-over_cap-via-then-over_cap w ↦ x_refused _ _ (search rules)
      | then-over_cap-via-else-over_cap+then-over_cap-2 w ↦ y_refused _ _ (search rules) (search rules)
    ]

pub returns-clause-answer : goal.returns-clause-answer
returns-clause-answer c = declined _ _ _ (search rules) (search rules) c.direction.ensures.answer

pub returns-clause-distance : goal.returns-clause-distance
returns-clause-distance c = (declination_near c.args.x c.args.y _ (search rules) (returns-clause-answer c)).1
