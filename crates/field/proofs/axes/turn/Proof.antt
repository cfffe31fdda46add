-- `field::axes::turn` meets its contract. Assumes nothing.
use mathlib.Core.Path.{refl}
use Rattle.sums.specs.Arithmetic.{rounded}
use Rattle.field.specs.Turn.{turned, turn_x, turn_z, sin_turn, cos_turn}
use Rattle.field.proofs.axes.turn.Statement.{statement}
use Rattle.field.proofs.axes.turn.Tie as tie

returns : tie.Need-returns
unfolding turned turn_x turn_z sin_turn cos_turn rounded
returns c = refl

pub turn_spec : {M : Type 1} → statement M
turn_spec = tie.close (tie.spec returns)
