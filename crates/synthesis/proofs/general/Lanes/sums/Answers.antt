use Rattle.synthesis.proofs.TermsHold.{zeros_wide}
use Rattle.synthesis.proofs.GeneralSum.{fresh_start}
use Rattle.synthesis.proofs.general.Lanes.sums.Goals as goal

pub returns : goal.returns
returns c = λ i er G es. c.add_degrees.ensures i er (c.put_all.ensures i G (fresh_start i _ es) zeros_wide)
