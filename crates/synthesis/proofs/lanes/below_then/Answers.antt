use Rattle.synthesis.proofs.Filled.{below_at}
use Rattle.synthesis.proofs.lanes.below_then.Goals as goal

pub returns : goal.returns
returns c = λ j h. rw (c.fill.ensures.after (λ y e. e)) (below_at c.args.below c.args.then j h)
