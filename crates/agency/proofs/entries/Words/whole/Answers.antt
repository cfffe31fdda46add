use Rattle.std.proofs.Common.{◌∙◌, ap}
use Rattle.text.specs.Decimals.{whole_of}
use Rattle.text.specs.Reading.{with_rest}
use Rattle.text.specs.Words.{words}
use Rattle.text.proofs.Numbers.{no_whole}
use Rattle.agency.proofs.Taken.{word_read}
use Rattle.agency.proofs.entries.Words.whole.Goals as goal

pub returns : goal.returns
returns c = ap (λ r. with_rest r (words c.next.new.self.rest.now)) c.read_whole.ensures.answer ∙ word_read _ _ c.next.ensures.word whole_of no_whole _ c.next.ensures.rest
