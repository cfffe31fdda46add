use Rattle.std.proofs.Common.{◌≡◌, ◌∙◌, sym, ap, length, drop, arith}
use Rattle.text.specs.Scan.{scan}
use Rattle.text.proofs.Scanned.{room, smaller, full, over, no_digit_at, digit_at, stopped_at}
use Rattle.text.proofs.decimals.run.Goals as goal
use Rattle.text.proofs.decimals.run.Goals.{then-left-eq0-via-then-left-eq0, then-left-eq0-via-else-left-eq0+then-not-is_ascii_digit}

pub returns-then-left-eq0 : goal.returns-then-left-eq0
returns-then-left-eq0 c =
    let s = c.args.s.now in
    let i = c.loop-i in
    elim c.then-left-eq0.branch [
      | then-left-eq0-via-then-left-eq0 w ↦ stopped_at s _ _ _ _ _ i.invariant.0 i.invariant.1 (full s i.i i.left i.value w.if-left-eq0.true)
      | then-left-eq0-via-else-left-eq0+then-not-is_ascii_digit w ↦ stopped_at s _ _ _ _ _ i.invariant.0 i.invariant.1 (no_digit_at s i.i i.left i.value c.loop-i-test.true (sym w.is_ascii_digit.ensures.value ∙ w.if-not-is_ascii_digit.true))
    ]

pub overflow_mul-value : goal.overflow_mul-value
overflow_mul-value c = let r = room c.loop-i.value 0 c.loop-i.left c.loop-i.invariant.0 c.if-left-eq0.false (omega arith) in omega arith

pub overflow_add-value : goal.overflow_add-value
overflow_add-value c =
    let b = c.if-not-is_ascii_digit.ensures.cases in
    let r = room c.loop-i.value c.from.result c.loop-i.left c.loop-i.invariant.0 c.if-left-eq0.false (omega arith) in
    omega arith

pub loop-i-preserved : goal.loop-i-preserved
loop-i-preserved c =
    let i = c.loop-i in
    let b = c.if-not-is_ascii_digit.ensures.cases in (
      smaller i.value c.from.result i.left _ i.invariant.0 (omega arith) (omega arith),
      rw c.from.ensures (i.invariant.1 ∙ digit_at c.args.s.now i.i i.left i.value c.loop-i-test.true (sym c.is_ascii_digit.ensures.value ∙ c.if-not-is_ascii_digit.false) (omega arith)),
    )

pub returns : goal.returns
returns c =
    let i = c.loop-i in
    let s = c.args.s.now in
    let e : i.i ≡ length s = omega arith in
    stopped_at s _ _ (length s) _ _ i.invariant.0 (i.invariant.1 ∙ ap (λ n. scan i.left i.value (drop n s)) e) (over s (length s) i.left i.value (omega arith))
