-- each return is a law of proofs/Digits.antt
use Rattle.std.proofs.Common.{◌≡◌, ◌∙◌, ◌∷◌, length, sym, ap, arith}
use borrow.Author.Tests.{eqb-true, eqb-false}
use Rattle.std.proofs.lemmas.List.{nil_from_length}
use Rattle.text.specs.Bytes.{POINT}
use Rattle.text.proofs.Scanned.{ran_split}
use Rattle.text.proofs.Digits.{no_digit, ends, other, goes_on, no_place, with_places}
use Rattle.text.proofs.decimals.numeral.Goals as goal
use Rattle.text.proofs.decimals.numeral.Goals.{then-all-whole-via-then-all-whole, then-all-whole-via-else-all-whole+then-not-is_empty}

pub returns-then-whole-eq-MOST : goal.returns-then-whole-eq-MOST
returns-then-whole-eq-MOST c = no_digit _ _ _ _ _ _ (ran_split _ _ _ _ _ _ c.run-whole.ensures) (omega arith) c.if-whole-eq-MOST.true

pub returns-in_default : goal.returns-in_default
returns-in_default c = ends _ _ _ _ _ _ (ran_split _ _ _ _ _ _ c.run-whole.ensures) (omega arith) c.if-whole-eq-MOST.false (nil_from_length _ c.in_default.ensures.cases)

pub returns-then-next-ne-POINT : goal.returns-then-next-ne-POINT
returns-then-next-ne-POINT c =
    other _ _ _ _ _ _ (ran_split _ _ _ _ _ _ c.run-whole.ensures) (omega arith) _ _ c.in-Some.ensures.cases.0 c.if-next-ne-POINT.true

pub returns-then-all-whole : goal.returns-then-all-whole
returns-then-all-whole c =
    let run = ran_split _ _ _ _ _ _ c.run-whole.ensures in
    let next = ran_split _ _ _ _ _ _ c.run-all.ensures in
    let at : c.run-whole.result.rest.now ≡ POINT ∷ c.in-Some.places.now = c.in-Some.ensures.cases.0 ∙ ap (λ b. b ∷ c.in-Some.places.now) c.if-next-ne-POINT.false in
    elim c.then-all-whole.branch [
      | then-all-whole-via-then-all-whole w ↦ no_place _ _ _ _ _ _ run (omega arith) _ at _ _ _ next w.if-all-whole.true
      | then-all-whole-via-else-all-whole+then-not-is_empty w ↦ goes_on _ _ _ _ _ _ run (omega arith) _ at _ _ _ next (λ e. eqb-false _ _ (sym w.is_empty.ensures ∙ w.if-not-is_empty.true) (ap length e))
    ]

pub overflow_sub-result : goal.overflow_sub-result
overflow_sub-result c = let k = (ran_split _ _ _ _ _ _ c.run-all.ensures).count in omega arith

pub returns : goal.returns
returns c =
    let run = ran_split _ _ _ _ _ _ c.run-whole.ensures in
    let next = ran_split _ _ _ _ _ _ c.run-all.ensures in
    let at : c.run-whole.result.rest.now ≡ POINT ∷ c.in-Some.places.now = c.in-Some.ensures.cases.0 ∙ ap (λ b. b ∷ c.in-Some.places.now) c.if-next-ne-POINT.false in
    with_places _ _ _ _ _ _ run (omega arith) _ at _ _ _ next c.if-whole-eq-MOST.false c.if-all-whole.false (nil_from_length _ (eqb-true _ _ (sym c.is_empty.ensures ∙ c.if-not-is_empty.false)))
