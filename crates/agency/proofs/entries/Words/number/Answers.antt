use Rattle.std.proofs.Common.{◌∙◌, ap}
use Rattle.text.specs.Decimals.{number_of}
use Rattle.text.specs.Reading.{with_rest}
use Rattle.text.specs.Words.{words}
use Rattle.text.proofs.Numbers.{no_number}
use Rattle.agency.proofs.Taken.{word_read}
use Rattle.agency.proofs.entries.Words.number.Goals as goal

pub returns : goal.returns
returns c = ap (λ r. with_rest r (words c.next.new.self.rest.now)) c.read_number.ensures.answer ∙ word_read _ _ c.next.ensures.word number_of no_number _ c.next.ensures.rest
