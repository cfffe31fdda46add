use Rattle.std.proofs.Common.{rules, ◌≡◌, refl, arith}
use mathlib.Core.List.{append-nil}
use lib.Ieee.{of_int, of_bits, round}
use Rattle.tables.specs.Degree.{M_LEN}
use Rattle.sums.specs.Recurrence.{lit}
use Rattle.synthesis.specs.Code.{first, start_at, starts_of}
use Rattle.synthesis.proofs.Filled.{next_p, next_dp}
use Rattle.synthesis.proofs.lanes.start_values.Goals as goal

pub loop-m-init : goal.loop-m-init
unfolding first start_at lit of_int of_bits round
loop-m-init c = (omega arith, omega arith, refl, refl)

pub loop-m-preserved : goal.loop-m-preserved
loop-m-preserved c =
    let a = c.args.theta in
    let l = c.loop-m in (
      omega arith,
      omega arith,
      next_p a.cos a.sin l.p l.dp _ _ l.m (search rules) (search rules) l.invariant.2 l.invariant.3,
      next_dp a.cos a.sin l.p l.dp _ _ l.m (search rules) (search rules) l.invariant.2 l.invariant.3,
    )

pub returns : goal.returns
unfolding starts_of
returns c =
    let l = c.loop-m in
    let e : l.m ≡ M_LEN = omega arith in
    simp (l.invariant.2, l.invariant.3, e, append-nil)
