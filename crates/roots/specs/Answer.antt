-- What `square_root` says, by the paper's numbers. Document 01, refusal 12. Definitions only.
use Rattle.std.specs.Prelude.{Float}
use Rattle.refusals.specs.declared.Refusal.TheVariants.{Unusable}
use Rattle.refusals.specs.Paper.{Paper, answered, paper, unless}
use Rattle.roots.specs.Root.{sqrt_of, rootable}

-- refusal 12 where there is no root, then the root
unfoldable pub root_says : Float → Paper Float
root_says x = unless (rootable x) (paper Unusable) (answered (sqrt_of x))
