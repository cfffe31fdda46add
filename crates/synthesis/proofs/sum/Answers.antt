use Rattle.synthesis.proofs.Answers.{checked_close}
use Rattle.synthesis.proofs.sum.Goals as goal

pub returns-clause-distance : goal.returns-clause-distance
returns-clause-distance c = checked_close _ _ _ c.check.ensures.answer c.sum_by.ensures
