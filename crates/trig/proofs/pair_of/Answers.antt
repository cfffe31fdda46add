use Rattle.std.proofs.Common.{◌≡◌, ◌+◌, ◌-◌, ◌*◌, ◌/◌, ◌%◌, ◌^◌, ◌<◌, ◌≤◌, ℕ, arith}
use Rattle.trig.proofs.Entry.{normal_most}
use Rattle.trig.proofs.Turn.{y_range}
use Rattle.float32.proofs.Values.{shift_whole}
use Rattle.trig.proofs.Ways.{of_tiny, of_small, of_far}
use Rattle.trig.proofs.pair_of.Goals as goal

pub invariant_of-pair-then-b-le1110704128-clause-at_most_45 : goal.invariant_of-pair-then-b-le1110704128-clause-at_most_45
invariant_of-pair-then-b-le1110704128-clause-at_most_45 c = normal_most c.args.b c.if-b-le1110704128.true

-- what is shifted, from 45 degrees on
whole : (b : ℕ) → 1110704128 < b → b ≤ 1127481344 → (b % 8388608 + 8388608) * 2 ^ (b / 8388608 - 132) % 18446744073709551616 ≡ (b % 8388608 + 8388608) * 2 ^ (b / 8388608 - 132)
whole b h l = shift_whole (b % 8388608 + 8388608) (b / 8388608 - 132) (omega arith) (omega arith)

pub far_pair-requires-clause-lt_y : goal.far_pair-requires-clause-lt_y
far_pair-requires-clause-lt_y c = (y_range c.args.b _ c.if-b-le1110704128.false c.requires (whole c.args.b c.if-b-le1110704128.false c.requires)).0

pub far_pair-requires-clause-y_bound : goal.far_pair-requires-clause-y_bound
far_pair-requires-clause-y_bound c = (y_range c.args.b _ c.if-b-le1110704128.false c.requires (whole c.args.b c.if-b-le1110704128.false c.requires)).1

pub returns-then-e-eq0 : goal.returns-then-e-eq0
returns-then-e-eq0 c = of_tiny c.args.b _ c.if-e-eq0.true c.pair.ensures

pub returns-then-b-le1110704128 : goal.returns-then-b-le1110704128
returns-then-b-le1110704128 c = of_small c.args.b _ c.if-e-eq0.false c.if-b-le1110704128.true c.pair-then-b-le1110704128.ensures

pub returns-else-b-le1110704128 : goal.returns-else-b-le1110704128
returns-else-b-le1110704128 c = of_far c.args.b _ _ c.if-b-le1110704128.false (whole c.args.b c.if-b-le1110704128.false c.requires) c.far_pair.ensures
