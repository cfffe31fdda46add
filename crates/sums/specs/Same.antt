-- Numbers that are the same but for a zero's sign. Definitions only.
use Rattle.std.specs.Prelude.{Bool, pos, Float}
use Rattle.std.specs.Float.{fin}

-- the zero of the sign s
abbrev pub null : Bool → Float
null s = fin s 0 (pos 0)

-- numerically equal: the same number; a zero's sign is not looked at
pub data Same : Float → Float → Type 0 where
  same : {x : Float} → Same x x
  zeros : (s t : Bool) → Same (null s) (null t)
