use Rattle.std.proofs.Common.{◌≡◌, subst, arith}
use Rattle.tables.specs.Degree.{N_MAX, WMM_MAX}
use Rattle.synthesis.specs.Code.{Ready}
use Rattle.synthesis.proofs.TermsHold.{last_put}
use Rattle.synthesis.proofs.GeneralSum.{last_is}
use Rattle.synthesis.proofs.general.Lanes.put_last_two.Goals as goal

pub returns-then-top-eq-N_MAX : goal.returns-then-top-eq-N_MAX
returns-then-top-eq-N_MAX c = λ i G z.
    let l = c.args.self in
    let e : c.args.top ≡ N_MAX = c.if-top-eq-N_MAX.true in
    let g : Ready i N_MAX l = subst (λ n. Ready i n l) e G in
    rw (e, c.put_last-then-top-eq-N_MAX.ensures, c.put_last.ensures)
    (last_put i _ _ _
    (last_is i l N_MAX N_MAX g (omega arith) (omega arith) (omega arith) WMM_MAX (omega arith) (omega arith) (omega arith))
    (last_is i l N_MAX N_MAX g (omega arith) (omega arith) (omega arith) N_MAX (omega arith) (omega arith) (omega arith))
    z)
