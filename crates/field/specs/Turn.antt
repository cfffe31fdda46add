-- The turn from geocentric to geodetic axes, over any arithmetic (the Rust crate, lib.rs, `new`). Definitions only.
-- c, s are the colatitude's pair, cp, sp the geodetic latitude's, x and z are X' and Z'.
use Rattle.std.specs.Prelude.{Float}
use Rattle.geocentric.specs.declared.Geocentric.{Geocentric}
use Rattle.synthesis.specs.declared.Xyz.{Xyz}
use Rattle.sums.specs.Arithmetic.{Arithmetic, rounded}

module _ {A : Type 0} (o : Arithmetic A) (c s cp sp : Float) where
  -- sin (φ' - φ)
  unfoldable pub sin_turn : A
  sin_turn = o.less (o.times (o.num c) (o.num cp)) (o.times (o.num s) (o.num sp))

  -- cos (φ' - φ)
  unfoldable pub cos_turn : A
  cos_turn = o.plus (o.times (o.num s) (o.num cp)) (o.times (o.num c) (o.num sp))

  -- north
  unfoldable pub turn_x : A → A → A
  turn_x x z = o.plus (o.times (o.opp x) cos_turn) (o.times z sin_turn)

  -- down
  unfoldable pub turn_z : A → A → A
  turn_z x z = o.less (o.times (o.opp x) sin_turn) (o.times z cos_turn)

-- the three components after the turn: v at the place p, with the pair of the geodetic latitude
unfoldable pub turned : Xyz → Geocentric → Float → Float → Xyz
turned v p sp cp =
    record {
      x = turn_x rounded p.cos_theta p.sin_theta cp sp v.x v.z;
      y = v.y;
      z = turn_z rounded p.cos_theta p.sin_theta cp sp v.x v.z;
    }
