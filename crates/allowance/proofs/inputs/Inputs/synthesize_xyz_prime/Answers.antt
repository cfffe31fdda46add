use Rattle.std.proofs.Common.{◌∙◌, rules}
use Rattle.allowance.specs.Code.{lent_of, row_part}
use Rattle.allowance.proofs.Degrees.{general_is}
use Rattle.allowance.proofs.inputs.Inputs.synthesize_xyz_prime.Goals as goal

pub returns : goal.returns
returns c = c.over_degrees.ensures (row_part (lent_of c.args.self)) (λ j power r h k. search rules) ∙ general_is _ _
