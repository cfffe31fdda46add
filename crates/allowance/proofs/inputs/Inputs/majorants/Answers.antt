use Rattle.allowance.proofs.Majorants.{value_pole, value_general}
use Rattle.allowance.proofs.inputs.Inputs.majorants.Goals as goal

pub returns-then-s : goal.returns-then-s
returns-then-s c = value_pole _ _ c.abs-s.ensures c.if-s.true _ c.synthesize_near_pole.ensures

pub returns : goal.returns
returns c = value_general _ _ c.abs-s.ensures c.if-s.false _ c.synthesize_xyz_prime-r.ensures
