use Rattle.direction.proofs.Laws.{behind, ahead, patterns, west, east}
use Rattle.direction.proofs.angle.Goals as goal

pub returns-then-x : goal.returns-then-x
returns-then-x c = behind c.args.x c.args.y c.if-y.true c.if-x.true

pub returns-else-x : goal.returns-else-x
returns-else-x c = ahead c.args.x c.args.y c.if-y.true c.if-x.false

pub quadrant-requires-clause-p_bound : goal.quadrant-requires-clause-p_bound
quadrant-requires-clause-p_bound c =
    (patterns c.args.x c.args.y c.requires.x_finite c.requires.y_finite c.well_formed.0.1 c.well_formed.1.0.1 c.if-y.false c.to_bits-p.result c.to_bits-q.result c.to_bits-p.ensures c.to_bits-q.ensures).0

pub quadrant-requires-clause-q_nonzero : goal.quadrant-requires-clause-q_nonzero
quadrant-requires-clause-q_nonzero c =
    (patterns c.args.x c.args.y c.requires.x_finite c.requires.y_finite c.well_formed.0.1 c.well_formed.1.0.1 c.if-y.false c.to_bits-p.result c.to_bits-q.result c.to_bits-p.ensures c.to_bits-q.ensures).1.0

pub quadrant-requires-clause-q_bound : goal.quadrant-requires-clause-q_bound
quadrant-requires-clause-q_bound c =
    (patterns c.args.x c.args.y c.requires.x_finite c.requires.y_finite c.well_formed.0.1 c.well_formed.1.0.1 c.if-y.false c.to_bits-p.result c.to_bits-q.result c.to_bits-p.ensures c.to_bits-q.ensures).1.1

pub returns-then-y-2 : goal.returns-then-y-2
returns-then-y-2 c =
    west c.args.x c.args.y c.requires.x_finite c.requires.y_finite c.well_formed.0.1 c.well_formed.1.0.1 c.if-y.false c.to_bits-p.result c.to_bits-q.result c.to_bits-p.ensures c.to_bits-q.ensures
    c.quadrant.result c.half_turn.result c.degrees-d.result c.quadrant.ensures.value c.half_turn.ensures.value c.degrees-d.ensures (assumption (c))

pub returns-else-y-2 : goal.returns-else-y-2
returns-else-y-2 c =
    east c.args.x c.args.y c.requires.x_finite c.requires.y_finite c.well_formed.0.1 c.well_formed.1.0.1 c.if-y.false c.to_bits-p.result c.to_bits-q.result c.to_bits-p.ensures c.to_bits-q.ensures
    c.quadrant.result c.half_turn.result c.degrees-d.result c.quadrant.ensures.value c.half_turn.ensures.value c.degrees-d.ensures (assumption (c))
