use Rattle.std.proofs.Common.{◌*◌, ◌^◌, ◌<◌, ◌≤◌}
use Rattle.trig.proofs.Turn.{above, lifted_by, zero_lifted, some_lifted, lifted_fits}
use Rattle.trig.proofs.SmallAngle.lifted.Goals as goal
use Rattle.trig.proofs.SmallAngle.lifted.Goals.{then-y-eq0, else-y-eq0}

pub overflow_sub-places : goal.overflow_sub-places
overflow_sub-places c = (lifted_by c.args.y (above _ c.if-y-eq0.false) c.requires).0

pub invariant_of-result : goal.invariant_of-result
invariant_of-result c =
    let r = c.if-y-eq0.result in
    let fits : (r.0 < 2 ^ 24) × (r.0 ≤ 11796480 * 2 ^ r.1.0) × (r.1.0 ≤ 131) =
    lifted_fits c.args.y _ _ c.requires
    (elim c.if-y-eq0.branch [ then-y-eq0 w ↦ rw w.result-is (zero_lifted _ w.if-y-eq0.true) | else-y-eq0 w ↦ rw w.result-is (some_lifted _ w.if-y-eq0.false c.requires) ]) in
    record { few_digits = fits.0; at_most_45 = fits.1; few_places = fits.2 }

pub returns-clause-digits : goal.returns-clause-digits
returns-clause-digits c =
    elim c.if-y-eq0.branch [ then-y-eq0 w ↦ rw w.result-is (zero_lifted _ w.if-y-eq0.true).0 | else-y-eq0 w ↦ rw w.result-is (some_lifted _ w.if-y-eq0.false c.requires).0 ]

pub returns-clause-places : goal.returns-clause-places
returns-clause-places c =
    elim c.if-y-eq0.branch [ then-y-eq0 w ↦ rw w.result-is (zero_lifted _ w.if-y-eq0.true).1 | else-y-eq0 w ↦ rw w.result-is (some_lifted _ w.if-y-eq0.false c.requires).1 ]
