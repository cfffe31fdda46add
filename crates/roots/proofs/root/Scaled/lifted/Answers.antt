use Rattle.std.proofs.Common.{arith}
use Rattle.roots.proofs.Powers.{lifted_is}
use Rattle.roots.proofs.root.Scaled.lifted.Goals as goal

pub overflow_sub-places : goal.overflow_sub-places
overflow_sub-places c = (lifted_is c.args.t c.requires.t_nonzero c.requires.t_bound).0

pub invariant_of-result : goal.invariant_of-result
invariant_of-result c = let l = (lifted_is c.args.t c.requires.t_nonzero c.requires.t_bound).1 in record { least = l.least; most = l.most; bound = omega arith }

pub returns : goal.returns
returns c = (lifted_is c.args.t c.requires.t_nonzero c.requires.t_bound).1
