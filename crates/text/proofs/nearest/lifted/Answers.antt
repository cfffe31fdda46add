use Rattle.std.proofs.Common.{arith}
use Rattle.text.proofs.Rounded.{lift}
use Rattle.text.proofs.nearest.lifted.Goals as goal

pub returns : goal.returns
returns c = lift c.args.n c.requires (omega arith)
