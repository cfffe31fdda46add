use Rattle.std.proofs.Common.{sym, ◌∙◌}
use Rattle.std.specs.Float.Ieee.{of_bits}
use Rattle.roots.proofs.Answer.{no_root}
use Rattle.roots.proofs.sqrt.Goals as goal

pub returns-else-has_root : goal.returns-else-has_root
unfolding of_bits
returns-else-has_root c = no_root c.args.x (sym c.has_root.ensures ∙ c.if-has_root.false)
