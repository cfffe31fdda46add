use Rattle.std.proofs.Common.{◌∙◌, sym}
use Rattle.std.proofs.lemmas.List.{take_rest}
use Rattle.text.proofs.Places.{line_to, after_line, whole_line, no_rest}
use Rattle.text.proofs.Parts.{line_named}
use Rattle.text.proofs.first_line.Goals as goal

pub returns-in_default-clause-line : goal.returns-in_default-clause-line
returns-in_default-clause-line c = whole_line c.args.s.now (sym c.line_feed.ensures ∙ c.in_default.is)

pub returns-in_default-clause-rest : goal.returns-in_default-clause-rest
returns-in_default-clause-rest c = no_rest c.args.s.now (sym c.line_feed.ensures ∙ c.in_default.is)

pub returns-in_default-clause-places : goal.returns-in_default-clause-places
returns-in_default-clause-places c = line_named c.args.s.now _ _ (returns-in_default-clause-line c) (returns-in_default-clause-rest c)

pub returns-clause-line : goal.returns-clause-line
returns-clause-line c = c.without_return.ensures ∙ line_to c.args.s.now _ (sym c.line_feed.ensures ∙ c.in-Some.is)

pub returns-clause-rest : goal.returns-clause-rest
returns-clause-rest c = take_rest c.args.s.now _ ∙ after_line c.args.s.now _ (sym c.line_feed.ensures ∙ c.in-Some.is)

pub returns-clause-places : goal.returns-clause-places
returns-clause-places c = line_named c.args.s.now _ _ (returns-clause-line c) (returns-clause-rest c)
