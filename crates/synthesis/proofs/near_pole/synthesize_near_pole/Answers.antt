use Rattle.std.proofs.Common.{◌≤◌, ◌∙◌, arith, refl}
use Rattle.sums.specs.Recurrence.{lit}
use Rattle.synthesis.specs.Code.{add_pole_degree, degree_part, plus_of}
use Rattle.synthesis.proofs.PoleSum.{first_k, next_degree, next_k_lem, start}
use Rattle.synthesis.proofs.near_pole.synthesize_near_pole.Goals as goal

pub loop-n-init : goal.loop-n-init
loop-n-init c = (omega arith, omega arith, first_k 0, first_k 1, start _)

pub loop-n-preserved : goal.loop-n-preserved
unfolding lit plus_of degree_part add_pole_degree
loop-n-preserved c =
    let a = c.args in
    let l = c.loop-n in
    let v = l.invariant in
    let ht : l.n ≤ a.top = omega arith in
    let g = next_k_lem l.n (omega (arith, ht, c.requires.1)) in (
      omega arith,
      omega arith,
      c.legendre_k-k0.ensures ∙ g.0,
      c.legendre_k-k1.ensures ∙ g.1,
      next_degree a.theta a.lambda a.ratio a.dated a.top l.n _ _ _ _ _ _ _ _ _ v.0 c.requires ht c.legendre_index-i.ensures.0 c.schmidt_table-schmidt.ensures v.4
          (rw (v.2, v.3) at c.pole_row-row.ensures) c.pole_degree-a.ensures (c.plus-tot.ensures ∙ rw c.degree_part.ensures refl),
    )
