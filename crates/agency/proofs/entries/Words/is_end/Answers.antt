use Rattle.std.proofs.Common.{◌∙◌}
use Rattle.agency.proofs.Taken.{none_left}
use Rattle.agency.proofs.entries.Words.is_end.Goals as goal

pub returns : goal.returns
returns c = c.is_empty.ensures ∙ none_left _ _ c.first_word.ensures.word
