use Rattle.synthesis.proofs.Answers.{of_degree, value_pole, value_general}
use Rattle.synthesis.proofs.paths.synthesize_geocentric_xyz.Goals as goal

pub synthesize_near_pole-requires : goal.synthesize_near_pole-requires
synthesize_near_pole-requires c = of_degree _ _ _ _ _ c.degree_of-top.ensures c.requires.long

pub returns-then-abs : goal.returns-then-abs
returns-then-abs c = value_pole _ _ c.degree_of-top.ensures _ c.abs.ensures c.if-abs.true _ c.synthesize_near_pole.ensures

pub synthesize_xyz_prime-r-requires-clause-of_degree : goal.synthesize_xyz_prime-r-requires-clause-of_degree
synthesize_xyz_prime-r-requires-clause-of_degree c = of_degree _ _ _ _ _ c.degree_of-top.ensures c.requires.long

pub returns : goal.returns
returns c = value_general _ _ c.degree_of-top.ensures _ c.abs.ensures c.if-abs.false _ c.synthesize_xyz_prime-r.ensures
