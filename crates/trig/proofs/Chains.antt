-- The code's sums for the sine and the cosine, against the exact ones: `Sums` with its numbers. Assumes nothing.
use Prim.Native.Nat.{ℕ, ◌+◌, ◌*◌, ◌<◌}
use native.Mathlib.Nat.{mul-pos, mul-le-mul_right}
use native.Mathlib.Omega.{arith}
use lib.Dec.{lit<}
use Rattle.trig.specs.Circle.{circular, nested}
use Rattle.trig.specs.Fixed.{sine_part, cosine_part}
use Rattle.trig.proofs.Steps.{Over, Under}
use Rattle.trig.proofs.Sums.{Scale, Square, Falling, errors, same_terms, one_more}

-- units of 2 ^ -32, of which a square up to one may be 11 too small
abbrev pub scale : Scale
scale = record { W = 4294967296; Z = 4294967296; M = 1; L = 1; e = 11 }

over_some : (j : ℕ) → 0 < (j + 1) * (j + 2)
over_some j = mul-pos {m = j + 1} {n = j + 2} (omega arith) (omega arith)

falling : Falling circular scale
falling =
    record {
      unit = lit< tt;
      part = lit< tt;
      some = over_some;
      held = λ j. mul-le-mul_right 4294967296 (over_some j);
      fall = λ j. let p = over_some j in omega arith;
    }

module _ (z u v : ℕ) (s : Square scale z u v) where
  -- six terms: how far the sum may be too high and too low
  pub sine_under : Under 4294967296 (sine_part z) (nested circular 5 1 u v).top (nested circular 5 1 u v).bottom 5
  unfolding sine_part errors
  sine_under = (same_terms circular scale falling z u v s 5 1).0

  pub cosine_under : Under 4294967296 (cosine_part z) (nested circular 5 0 u v).top (nested circular 5 0 u v).bottom 9
  unfolding cosine_part errors
  cosine_under = (same_terms circular scale falling z u v s 5 0).0

  pub sine_over_5 : Over 4294967296 (sine_part z) (nested circular 5 1 u v).top (nested circular 5 1 u v).bottom 1
  unfolding sine_part errors
  sine_over_5 = (same_terms circular scale falling z u v s 5 1).1

  pub cosine_over_5 : Over 4294967296 (cosine_part z) (nested circular 5 0 u v).top (nested circular 5 0 u v).bottom 3
  unfolding cosine_part errors
  cosine_over_5 = (same_terms circular scale falling z u v s 5 0).1

  -- seven
  pub sine_over : Over 4294967296 (sine_part z) (nested circular 6 1 u v).top (nested circular 6 1 u v).bottom 2
  unfolding sine_part errors
  sine_over = (one_more circular scale falling z u v s 5 1).1

  pub cosine_over : Over 4294967296 (cosine_part z) (nested circular 6 0 u v).top (nested circular 6 0 u v).bottom 11
  unfolding cosine_part errors
  cosine_over = (one_more circular scale falling z u v s 5 0).1
