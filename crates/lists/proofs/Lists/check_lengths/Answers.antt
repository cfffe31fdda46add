use Rattle.lists.proofs.Checked.{lengths_pass, none_whole, two_degrees, one_not_whole, same}
use Rattle.lists.proofs.Lists.check_lengths.Goals as goal

pub returns-then-is_whole-clause-answer : goal.returns-then-is_whole-clause-answer
returns-then-is_whole-clause-answer c = lengths_pass _ _ _ _ (same c.are_alike.ensures c.if-are_alike.true) (same c.is_whole.ensures c.if-is_whole.true)

pub returns-then-are_alike-clause-answer : goal.returns-then-are_alike-clause-answer
returns-then-are_alike-clause-answer c = none_whole _ _ _ _ (same c.are_alike.ensures c.if-are_alike.true) (same c.is_whole.ensures c.if-is_whole.false)

pub returns-then-are_whole-clause-answer : goal.returns-then-are_whole-clause-answer
returns-then-are_whole-clause-answer c = two_degrees _ _ _ _ (same c.are_alike.ensures c.if-are_alike.false) (same c.are_whole.ensures c.if-are_whole.true)

pub returns-clause-answer : goal.returns-clause-answer
returns-clause-answer c = one_not_whole _ _ _ _ (same c.are_whole.ensures c.if-are_whole.false)
