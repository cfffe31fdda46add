-- An i32 that is not below zero, cast to an unsigned number. Assumes nothing.
use mathlib.Core.Path.{◌≡◌, subst}
use mathlib.Core.Bool.{false}
use Prim.Native.Nat.{◌<◌, ◌^◌}
use native.Mathlib.Omega.{arith}
use lib.Dec.{T}
use lib.IntN.{ℤ, pos, negsuc, nat_abs}
use lib.Signed.{mag, lt_z, non_neg}
use mir.Syntax.{w32, w64}
use mir.Val.{Fits, SFits, to_z, of_z}
use mir.ValLaws.{to_z-of_z}

-- what the cast asks
abbrev Sized : ℤ → Type 0
Sized z = T (non_neg z) × Fits w64 (nat_abs z)

sized : (z : ℤ) → mag z < 2 ^ 31 → lt_z z (pos 0) ≡ false → Sized z
sized (pos n) h e = (tt, record { fits = omega arith })
sized (negsuc n) h e = absurd (subst T e tt)

pub size_above : (z : ℤ) → SFits w32 z → lt_z (to_z w32 (of_z w32 z)) (pos 0) ≡ false → T (non_neg (to_z w32 (of_z w32 z))) × Fits w64 (nat_abs (to_z w32 (of_z w32 z)))
size_above z f e = rw (to_z-of_z w32 z f) (sized z f.sfits (rw (to_z-of_z w32 z f) at e))
