use Rattle.std.proofs.Common.{◌≡◌, ◌++◌, drop, replicate}
use Rattle.std.specs.Float.{binary32}
use Rattle.std.specs.Float.Ieee.{of_bits}
use Rattle.synthesis.specs.Code.{first}
use Rattle.igrf.specs.Igrf.{made_at}
use Rattle.igrf.proofs.gap.shares_between.Given as goal

-- the places below k hold what is made of both lists
abbrev pub invariant-loop-k : goal.invariant-loop-k
invariant-loop-k g l = l.r ≡ first (made_at g.S.Share.share l.from l.to) l.k ++ drop l.k (replicate 104 (of_bits binary32 0))
