-- The code's sum for the arctangent against the exact ones: `Sums` with its numbers. Assumes nothing.
use Prim.Native.Nat.{ℕ}
use native.Mathlib.Omega.{arith}
use lib.Dec.{lit<}
use Rattle.trig.specs.Circle.{inverse, nested}
use Rattle.trig.proofs.Steps.{Over, Under}
use Rattle.trig.proofs.Sums.{Scale, Square, Falling, errors, same_terms, one_more}
use Rattle.direction.specs.Direction.{arc_part}

-- units of 2 ^ -30, of which a square up to 25 / 144 may be 2 too small
abbrev pub scale : Scale
scale = record { W = 1073741824; Z = 186413511; M = 25; L = 144; e = 2 }

falling : Falling inverse scale
falling =
    record {
      unit = lit< tt;
      part = lit< tt;
      some = λ j. omega arith;
      held = λ j. omega arith;
      fall = λ j. omega arith;
    }

module _ (z u v : ℕ) (s : Square scale z u v) where
  -- eight terms
  pub arc_under : Under 1073741824 (arc_part z) (nested inverse 7 1 u v).top (nested inverse 7 1 u v).bottom 3
  unfolding arc_part errors
  arc_under = (same_terms inverse scale falling z u v s 7 1).0

  -- nine
  pub arc_over : Over 1073741824 (arc_part z) (nested inverse 8 1 u v).top (nested inverse 8 1 u v).bottom 53
  unfolding arc_part errors
  arc_over = (one_more inverse scale falling z u v s 7 1).1
