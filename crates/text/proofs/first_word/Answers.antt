use Rattle.std.proofs.Common.{◌∙◌}
use Rattle.std.proofs.lemmas.List.{take_rest}
use Rattle.text.proofs.Places.{word_is, after_word}
use Rattle.text.proofs.Parts.{word_named}
use Rattle.text.proofs.first_word.Goals as goal

pub returns-clause-word : goal.returns-clause-word
returns-clause-word c =
    let s = c.args.s.now in
    c.split_at.ensures.front ∙ word_is s c.blanks.result c.word_len.result _ (take_rest s c.blanks.result) c.blanks.ensures c.word_len.ensures

pub returns-clause-rest : goal.returns-clause-rest
returns-clause-rest c =
    let s = c.args.s.now in
    c.split_at.ensures.back ∙ after_word s c.blanks.result c.word_len.result _ (take_rest s c.blanks.result) c.blanks.ensures c.word_len.ensures

pub returns-clause-places : goal.returns-clause-places
returns-clause-places c = word_named c.args.s.now _ _ (returns-clause-word c) (returns-clause-rest c)
