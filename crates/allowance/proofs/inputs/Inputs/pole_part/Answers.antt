use Rattle.std.proofs.Common.{refl}
use Rattle.allowance.proofs.Degrees.{pole_degree_is}
use Rattle.allowance.proofs.inputs.Inputs.pole_part.Goals as goal

pub returns : goal.returns
returns c =
    pole_degree_is _ _ _ _ _ _ _ _ _ _ c.abs.ensures c.abs-2.ensures c.parts_at-w0.ensures c.parts_at-w1.ensures c.schmidt_size-s.ensures (c.quotient_of-q_n.ensures _ refl) c.degree_part-d.ensures
