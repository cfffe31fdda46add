-- A whole number of a decimal one: what `whole` returns on each way. Assumes nothing.
use mathlib.Core.Path.{◌≡◌, ap}
use mathlib.Core.Bool.{true, false}
use Prim.Native.Nat.{ℕ, zero, suc, ◌/◌, ◌%◌, ◌^◌, ◌<◌}
use native.Mathlib.Nat.{div-le_self, one-le-pow}
use native.Mathlib.Omega.{arith}
use borrow.Author.Tests.{eq-eqb, ne_eqb}
use lib.IntN.{pos, neg_ℤ, ◌-ℤ◌, +ℤ_idl}
use lib.Signed.{mag}
use mir.Syntax.{w32}
use mir.Val.{SFits, to_z, of_z}
use mir.ValLaws.{to_z-of_z, to_z_pos}
use Rattle.std.specs.Prelude.{Some, None}
use Rattle.text.specs.Decimals.{whole_in}
use Rattle.text.specs.declared.Decimal.{Decimal}

-- ---- a number below 10 ^ 9 as an i32, and the same with a minus
mag_minus : (n : ℕ) → n < 2 ^ 31 → mag (neg_ℤ (pos n)) < 2 ^ 31
mag_minus zero h = omega arith
mag_minus (suc n) h = omega arith

minus_is : (n : ℕ) → n < 2 ^ 31 → pos 0 -ℤ to_z w32 n ≡ neg_ℤ (pos n)
minus_is n h = rw (to_z_pos w32 n h) (+ℤ_idl (neg_ℤ (pos n)))

pub minus_fits : (n : ℕ) → n < 2 ^ 31 → SFits w32 (pos 0 -ℤ to_z w32 n)
minus_fits n h = rw (minus_is n h) (record { sfits = mag_minus n h })

-- ---- d, whose power of ten is t
module _ (d : Decimal) (t : ℕ) (is : t ≡ 10 ^ d.places) (few : d.digits < 10 ^ 9) where
  pub ten_pos : 0 < t
  ten_pos = rw is (one-le-pow d.places 10 (omega arith))

  pub small : d.digits / t < 2 ^ 31
  small = omega (arith, div-le_self d.digits t)

  pub left_over : (d.digits % t ≡ 0 → ⊥) → None ≡ whole_in d
  unfolding whole_in
  left_over n = rw (← is, ne_eqb (d.digits % t) 0 n)

  module _ (e : d.digits % t ≡ 0) where
    pub plus : d.minus ≡ false → Some (to_z w32 (d.digits / t)) ≡ whole_in d
    unfolding whole_in
    plus s = rw (s, ← is, eq-eqb (d.digits % t) 0 e, to_z_pos w32 (d.digits / t) small)

    pub minus : d.minus ≡ true → Some (to_z w32 (of_z w32 (pos 0 -ℤ to_z w32 (d.digits / t)))) ≡ whole_in d
    unfolding whole_in
    minus s = rw (s, ← is, eq-eqb (d.digits % t) 0 e, to_z-of_z w32 (pos 0 -ℤ to_z w32 (d.digits / t)) (minus_fits (d.digits / t) small)) (ap Some (minus_is (d.digits / t) small))
