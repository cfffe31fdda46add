-- A relation between two arithmetics that every operation keeps goes through the turn.
use lib.Ieee.{Float}
use Rattle.sums.specs.Arithmetic.{Arithmetic}
use Rattle.sums.proofs.Related.{Related}
use Rattle.field.specs.Turn.{cos_turn, sin_turn, turn_x, turn_z}

module _ {A B : Type 0} (o : Arithmetic A) (o' : Arithmetic B) (R : A → B → Type 0) (k : Related o o' R) (c s cp sp : Float) where
  sin_related : R (sin_turn o c s cp sp) (sin_turn o' c s cp sp)
  unfolding sin_turn
  sin_related = k.less (k.times (k.num c) (k.num cp)) (k.times (k.num s) (k.num sp))

  cos_related : R (cos_turn o c s cp sp) (cos_turn o' c s cp sp)
  unfolding cos_turn
  cos_related = k.plus (k.times (k.num s) (k.num cp)) (k.times (k.num c) (k.num sp))

  pub turn_x_related : {x z : A} {x' z' : B} → R x x' → R z z' → R (turn_x o c s cp sp x z) (turn_x o' c s cp sp x' z')
  unfolding turn_x
  turn_x_related p q = k.plus (k.times (k.opp p) cos_related) (k.times q sin_related)

  pub turn_z_related : {x z : A} {x' z' : B} → R x x' → R z z' → R (turn_z o c s cp sp x z) (turn_z o' c s cp sp x' z')
  unfolding turn_z
  turn_z_related p q = k.less (k.times (k.opp p) sin_related) (k.times q cos_related)
