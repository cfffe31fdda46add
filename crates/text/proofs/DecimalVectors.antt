-- Words, and what they are read as: the definitions compute. Assumes nothing.
use mathlib.Core.Path.{◌≡◌, refl}
use mathlib.Core.Bool.{true}
use mathlib.Core.List.{List, [], ◌∷◌}
use Prim.Native.Nat.{ℕ}
use lib.IntN.{negsuc}
use lib.Ieee.{binary32, round, of_bits}
use Rattle.std.specs.Prelude.{Some, None}
use Rattle.text.specs.Decimals.{before, beyond, pointed, digits, value_of, plain, plain_of, decimal_of, nearest_of, number_of, whole_in, whole_of}

-- "-29351.8"
abbrev minus_29351_8 : List ℕ
minus_29351_8 = 45 ∷ 50 ∷ 57 ∷ 51 ∷ 53 ∷ 49 ∷ 46 ∷ 56 ∷ []

decimal : decimal_of minus_29351_8 ≡ Some (record { minus = true; digits = 293518; places = 1 })
unfolding decimal_of plain_of plain before beyond pointed digits value_of
decimal = refl

number : number_of minus_29351_8 ≡ Some (of_bits binary32 0xc6e5_4f9a)
unfolding number_of decimal_of plain_of plain before beyond pointed digits value_of nearest_of round of_bits
number = refl

-- "16777217", half way between two, goes to the even one
tie : number_of (49 ∷ 54 ∷ 55 ∷ 55 ∷ 55 ∷ 50 ∷ 49 ∷ 55 ∷ []) ≡ Some (of_bits binary32 0x4b80_0000)
unfolding number_of decimal_of plain_of plain before beyond pointed digits value_of nearest_of round of_bits
tie = refl

-- "-2025.0" and "2025.5"
whole : whole_of (45 ∷ 50 ∷ 48 ∷ 50 ∷ 53 ∷ 46 ∷ 48 ∷ []) ≡ Some (negsuc 2024)
unfolding whole_of decimal_of plain_of plain before beyond pointed digits value_of whole_in
whole = refl

no_whole : whole_of (50 ∷ 48 ∷ 50 ∷ 53 ∷ 46 ∷ 53 ∷ []) ≡ None
unfolding whole_of decimal_of plain_of plain before beyond pointed digits value_of whole_in
no_whole = refl

-- "", "-", "5.", ".5", "1.2.3" and ten digits
none : (decimal_of [] ≡ None) × (decimal_of (45 ∷ []) ≡ None) × (decimal_of (53 ∷ 46 ∷ []) ≡ None) × (decimal_of (46 ∷ 53 ∷ []) ≡ None) × (decimal_of (49 ∷ 46 ∷ 50 ∷ 46 ∷ 51 ∷ []) ≡ None) × (decimal_of (49 ∷ 50 ∷ 51 ∷ 52 ∷ 53 ∷ 46 ∷ 54 ∷ 55 ∷ 56 ∷ 57 ∷ 48 ∷ []) ≡ None)
unfolding decimal_of plain_of plain before beyond pointed digits value_of
none = (refl, refl, refl, refl, refl, refl)
