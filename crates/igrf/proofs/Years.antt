-- The years of the sets that are read. Assumes nothing.
use Rattle.refusals.specs.Paper.{accepted}
use Rattle.std.specs.Prelude.{Err}
use mathlib.Core.Path.{◌≡◌, refl, ap}
use mathlib.Core.Bool.{Bool, true, false}
use Prim.Native.Nat.{ℕ}
use native.Mathlib.Omega.{arith}
use borrow.Author.Tests.{ltb-false}
use lib.IntN.{ℤ, pos, negsuc, ◌+ℤ◌}
use lib.Signed.{lt_z}
use mir.Syntax.{w32}
use mir.Val.{SFits, of_z}
use Rattle.refusals.specs.declared.Refusal.TheVariants.{OtherEpoch}
use Rattle.models.specs.Epochs.{same_year}
use Rattle.models.proofs.Years.{bits_same, same_year_lem, year_same}
use Rattle.igrf.specs.Igrf.{years_found}

-- five years later is an i32
pub later_fits : (y : ℤ) → lt_z y (pos 0) ≡ false → lt_z (pos 2029) y ≡ false → SFits w32 (y +ℤ pos 5)
later_fits (pos n) l h = record { sfits = omega (arith, ltb-false 2029 n h) }
later_fits (negsuc n) l h = absurd (let z : ◌≡◌ {A = ℕ} 0 1 = cc in omega arith)

-- two years as i32s
pub years_differ : (a b : ℤ) → (of_z w32 a ≡ of_z w32 b → ⊥) → same_year a b ≡ false
years_differ a b n = go (same_year a b) refl
  where
    go : (t : Bool) → same_year a b ≡ t → t ≡ false
    go true h = absurd (n (ap (of_z w32) (same_year_lem a b h)))
    go false h = refl

pub years_alike : (a b : ℤ) → SFits w32 a → SFits w32 b → of_z w32 a ≡ of_z w32 b → same_year a b ≡ true
years_alike a b f g h = rw (bits_same a b f g h) (year_same b)

module _ (of_day one two : ℤ) where
  pub one_off : (soon : Bool) → same_year one of_day ≡ false → Err (OtherEpoch of_day one) ≡ years_found soon of_day one two
  one_off true e = rw e
  one_off false e = rw e

  module _ (a : same_year one of_day ≡ true) where
    pub one_alone : (soon : Bool) → soon ≡ false → accepted ≡ years_found soon of_day one two
    one_alone soon s = rw (s, a)

    module _ (soon : Bool) (s : soon ≡ true) where
      pub two_off : same_year two (of_day +ℤ pos 5) ≡ false → Err (OtherEpoch (of_day +ℤ pos 5) two) ≡ years_found soon of_day one two
      two_off e = rw (s, a, e)

      pub both_right : same_year two (of_day +ℤ pos 5) ≡ true → accepted ≡ years_found soon of_day one two
      both_right e = rw (s, a, e)
