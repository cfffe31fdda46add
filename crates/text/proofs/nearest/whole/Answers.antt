use Rattle.std.proofs.Common.{arith}
use Rattle.text.proofs.Wholes.{ten_pos, left_over, plus, minus}
use Rattle.text.proofs.nearest.whole.Goals as goal

pub nonzero_rem-d : goal.nonzero_rem-d
nonzero_rem-d c = ten_pos c.args.d _ c.pow-ten.ensures c.requires.digits_bound

pub returns-then-d-ten-ne0 : goal.returns-then-d-ten-ne0
returns-then-d-ten-ne0 c = left_over c.args.d _ c.pow-ten.ensures c.requires.digits_bound (λ z. omega arith)

pub nonzero_div-n : goal.nonzero_div-n
nonzero_div-n c = ten_pos c.args.d _ c.pow-ten.ensures c.requires.digits_bound

pub returns-then-d : goal.returns-then-d
returns-then-d c = minus c.args.d _ c.pow-ten.ensures c.requires.digits_bound (omega arith) c.if-d.true

pub returns-else-d : goal.returns-else-d
returns-else-d c = plus c.args.d _ c.pow-ten.ensures c.requires.digits_bound (omega arith) c.if-d.false
