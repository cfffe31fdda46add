use Rattle.std.proofs.Common.{rules, ◌≡◌, refl, arith}
use mathlib.Core.List.{append-nil}
use lib.Ieee.{of_int, of_bits, round}
use Rattle.tables.specs.Degree.{M_LEN}
use Rattle.sums.specs.Arithmetic.{rounded}
use Rattle.sums.specs.Recurrence.{angle, lit}
use Rattle.synthesis.specs.Code.{angles_of, first}
use Rattle.synthesis.proofs.Filled.{next_sin, next_cos}
use Rattle.synthesis.proofs.angles.sin_cos_m_lambda.Goals as goal

pub loop-m-init : goal.loop-m-init
unfolding first angle rounded lit of_int of_bits round
loop-m-init c = (omega arith, omega arith, refl, refl)

pub loop-m-preserved : goal.loop-m-preserved
loop-m-preserved c =
    let a = c.args.longitude in
    let l = c.loop-m in (
      omega arith,
      omega arith,
      next_sin a.sin a.cos l.sin l.cos _ _ l.m (search rules) (search rules) l.invariant.2 l.invariant.3,
      next_cos a.sin a.cos l.sin l.cos _ _ l.m (search rules) (search rules) l.invariant.2 l.invariant.3,
    )

pub returns : goal.returns
unfolding angles_of
returns c =
    let l = c.loop-m in
    let e : l.m ≡ M_LEN = omega arith in
    simp (l.invariant.2, l.invariant.3, e, append-nil)
