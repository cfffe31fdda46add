use Rattle.std.proofs.Common.{ap, ◌∙◌}
use Rattle.exact.specs.Tests.{abs}
use Rattle.synthesis.proofs.GeneralSum.{s_place}
use Rattle.allowance.proofs.terms.schmidt_size.Goals as goal

pub returns : goal.returns
returns c = c.abs.ensures ∙ ap abs (s_place _ _ _ _ c.schmidt_table-ss.ensures c.legendre_index.ensures)
