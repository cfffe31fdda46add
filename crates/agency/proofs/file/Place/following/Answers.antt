use Rattle.agency.proofs.Rows.{next_degree, next_order}
use Rattle.agency.proofs.file.Place.following.Goals as goal

pub returns-then-self : goal.returns-then-self
returns-then-self c = next_degree c.args.self c.if-self.true

pub returns : goal.returns
returns c = next_order c.args.self c.if-self.false
