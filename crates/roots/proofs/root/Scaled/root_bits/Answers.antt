use Rattle.std.proofs.Common.{arith}
use Rattle.roots.proofs.Whole.{packed}
use Rattle.roots.proofs.root.Scaled.root_bits.Goals as goal

pub returns : goal.returns
returns c = packed c.args.self.digits c.args.self.exponent c.spread.result.value c.nearest_root-q.result c.spread.ensures c.nearest_root-q.ensures (omega arith) (omega arith)
