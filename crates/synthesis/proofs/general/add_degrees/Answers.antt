use Rattle.std.proofs.Common.{◌≤◌, ◌∙◌, ap, arith, refl, Float}
use lib.Ieee.{binary32, mul}
use Rattle.exact.proofs.Wholes.{lit_zero}
use Rattle.sums.specs.Arithmetic.{rounded}
use Rattle.sums.specs.Recurrence.{power}
use Rattle.synthesis.specs.Code.{add_degree, degree_part, lane_total, plus_of}
use Rattle.synthesis.proofs.GeneralSum.{added, more_degrees, more_power}
use Rattle.synthesis.proofs.general.add_degrees.Goals as goal

pub loop-n-init : goal.loop-n-init
unfolding power rounded lane_total
loop-n-init c = (omega arith, omega arith, λ i e f. (rw e, rw lit_zero))

pub loop-n-preserved : goal.loop-n-preserved
unfolding plus_of degree_part add_degree
loop-n-preserved c =
    let l = c.loop-n in
    let n = l.n in (
      omega arith,
      omega arith,
      λ i e f.
          let u = l.invariant.2 i e f in
          let z = l.invariant.0 in
          let hn : n ≤ c.args.top = omega arith in (
            ap (λ (y : Float). mul binary32 l.power y) e ∙ more_power i n _ z u.0,
            (c.plus-tot.ensures ∙ rw c.degree_part.ensures refl) ∙ more_degrees i n _ _ _ z u.1 u.0 (added i _ n _ _ _ z hn c.legendre_index.ensures.0 f (c.added-acc.ensures i)),
          ),
    )
