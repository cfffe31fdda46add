use Rattle.std.proofs.Common.{sym, ◌∙◌, subst}
use Rattle.std.specs.Prelude.{T}
use Rattle.direction.proofs.Laws.{angle_said, said_points, x_not_finite, y_not_finite}
use Rattle.direction.proofs.direction.Goals as goal
use Rattle.direction.proofs.direction.Goals.{else-is_finite-via-then-is_finite+else-is_finite-2, else-is_finite-via-else-is_finite}

pub returns-then-is_finite-2-clause-answer : goal.returns-then-is_finite-2-clause-answer
returns-then-is_finite-2-clause-answer c =
    angle_said c.args.x c.args.y c.angle.result (sym c.is_finite.ensures ∙ c.if-is_finite.true) (sym c.is_finite-then-is_finite.ensures ∙ c.if-is_finite-2.true) c.angle.ensures

pub returns-then-is_finite-2-clause-distance : goal.returns-then-is_finite-2-clause-distance
returns-then-is_finite-2-clause-distance c =
    said_points c.args.x c.args.y c.angle.result (subst T (sym c.well_formed.1.0.1) tt)
    (angle_said c.args.x c.args.y c.angle.result (sym c.is_finite.ensures ∙ c.if-is_finite.true) (sym c.is_finite-then-is_finite.ensures ∙ c.if-is_finite-2.true) c.angle.ensures)

pub returns-else-is_finite-clause-answer : goal.returns-else-is_finite-clause-answer
returns-else-is_finite-clause-answer c =
    elim c.else-is_finite.branch [
      | else-is_finite-via-then-is_finite+else-is_finite-2 w ↦ y_not_finite c.args.x c.args.y (sym w.is_finite-then-is_finite.ensures ∙ w.if-is_finite-2.false)
      | else-is_finite-via-else-is_finite w ↦ x_not_finite c.args.x c.args.y (sym c.is_finite.ensures ∙ w.if-is_finite.false)
    ]
