use Rattle.std.proofs.Common.{◌≡◌, ◌<◌, ◌∙◌, length, sym, arith}
use borrow.Author.Tests.{eqb-true, eqb-false}
use Rattle.text.proofs.Firsts.{no_line}
use Rattle.agency.proofs.Taken.{line_first, shorter}
use Rattle.agency.proofs.file.TextLines.next.Goals as goal

pub returns-then-is_empty-clause-line : goal.returns-then-is_empty-clause-line
returns-then-is_empty-clause-line c = no_line _ (eqb-true _ _ (sym c.is_empty.ensures ∙ c.if-is_empty.true))

pub invariant_of-self : goal.invariant_of-self
invariant_of-self c =
    let n : length c.args.self.now.rest.now ≡ 0 → ⊥ = eqb-false _ _ (sym c.is_empty.ensures ∙ c.if-is_empty.false) in
    let l : length c.first_line.result.rest.now < length c.args.self.now.rest.now = shorter _ c.first_line.result.line.now _ (omega arith) c.first_line.ensures.rest in
    record { in_range = omega arith }

pub returns-clause-line : goal.returns-clause-line
returns-clause-line c =
    let n : length c.args.self.now.rest.now ≡ 0 → ⊥ = eqb-false _ _ (sym c.is_empty.ensures ∙ c.if-is_empty.false) in
    line_first _ _ _ (omega arith) c.first_line.ensures.rest c.first_line.ensures.line

pub returns-clause-shorter : goal.returns-clause-shorter
returns-clause-shorter c =
    let n : length c.args.self.now.rest.now ≡ 0 → ⊥ = eqb-false _ _ (sym c.is_empty.ensures ∙ c.if-is_empty.false) in
    shorter _ c.first_line.result.line.now _ (omega arith) c.first_line.ensures.rest
