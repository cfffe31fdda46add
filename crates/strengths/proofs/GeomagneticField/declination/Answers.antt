-- What is answered is the definition's, and so within 2 ^ -15 degree.
use Rattle.std.proofs.Common.{rules}
use Rattle.strengths.specs.Angles.{declination_of}
use Rattle.strengths.specs.Strengths.{strength_says}
use Rattle.strengths.proofs.Angles.{field_declination_near}
use Rattle.strengths.proofs.GeomagneticField.declination.Goals as goal

pub returns-in_err-check-clause-answer : goal.returns-in_err-check-clause-answer
unfolding strength_says
returns-in_err-check-clause-answer c = search rules

pub returns-clause-answer : goal.returns-clause-answer
unfolding strength_says declination_of
returns-clause-answer c = search rules

pub returns-clause-distance : goal.returns-clause-distance
returns-clause-distance c = (field_declination_near c.args.self _ (search rules) (returns-clause-answer c)).1
