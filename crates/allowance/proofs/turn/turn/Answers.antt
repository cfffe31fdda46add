use Rattle.field.specs.Turn.{turn_x, turn_z, sin_turn, cos_turn}
use Rattle.bounds.specs.Bounds.{bounds}
use Rattle.allowance.specs.Code.{turned_of}
use Rattle.allowance.proofs.turn.turn.Goals as goal

pub returns : goal.returns
unfolding turned_of turn_x turn_z sin_turn cos_turn bounds
returns c = rw (c.abs-c.ensures, c.abs-s.ensures, c.abs-cp.ensures, c.abs-sp.ensures)
