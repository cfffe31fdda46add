use Rattle.std.proofs.Common.{◌∙◌, rules}
use Rattle.allowance.specs.Code.{lent_of, pole_degree}
use Rattle.allowance.proofs.Degrees.{near_pole_is}
use Rattle.allowance.proofs.inputs.Inputs.synthesize_near_pole.Goals as goal

pub returns : goal.returns
returns c = c.over_degrees.ensures (pole_degree (lent_of c.args.self)) (λ j power r h k. search rules) ∙ near_pole_is _ _
