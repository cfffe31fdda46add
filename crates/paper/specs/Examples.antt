-- The worked examples of document 01, P1 to P12, as one table with a single statement: `examples` (`proofs/Examples.antt`). Wish 5 of document 02 changed the last answer of P10.
-- What a call says stands as its number, 0 for an answer, and then the values, a float by its bits. The definitions are those that the contracts cite.
use Rattle.std.specs.Prelude.{◌≡◌, List, [], ◌∷◌, ◌++◌, map, ℕ, ℤ, pos, replicate, set, get_or, Float, Option, Some, None}
use Rattle.std.specs.Float.{binary32}
use Rattle.std.specs.Float.Ieee.{of_bits, to_bits}
use Rattle.refusals.specs.Paper.{Paper, answered, refused}
use Rattle.models.specs.declared.epochs.EpochOffset.{EpochOffset}
use Rattle.models.specs.Epochs.{epoch_says}
use Rattle.models.specs.Errors.{errors2025}
use Rattle.tables.specs.Degree.{N_COEFF, place}
use Rattle.tables.specs.Tables.{schmidt_bits}
use Rattle.tables.specs.Rule.{mended, misses}
use Rattle.synthesis.specs.declared.Xyz.{Xyz}
use Rattle.sums.specs.Arithmetic.{rounded}
use Rattle.sums.specs.Recurrence.{coefficient}
use Rattle.synthesis.specs.Sum.{lent, sum_says}
use Rattle.strengths.specs.declared.GeomagneticField.{GeomagneticField}
use Rattle.strengths.specs.declared.WarningZone.{WarningZone}
use Rattle.strengths.specs.declared.WarningZone.TheVariants.{Blackout, Caution}
use Rattle.strengths.specs.Strengths.{h_of, strength_says, zone_says, uncertainty_says}
use Rattle.strengths.specs.Grid.{wrapped}
use Rattle.field.specs.Field.{asked, field_says}

-- ---- what is said, as numbers
-- a float by its bits
pub bits : Float → ℤ
unfolding to_bits
bits x = pos (to_bits binary32 x)

pub row : {A : Type 0} → (A → List ℤ) → Paper A → List ℤ
unfolding bits
row f (answered a) = pos 0 ∷ f a
row f (refused n x z) = pos n ∷ (map bits x ++ z)

pub components : Xyz → List ℤ
unfolding bits
components v = bits v.x ∷ bits v.y ∷ bits v.z ∷ []

one_float : Float → List ℤ
unfolding bits
one_float x = bits x ∷ []

dated : EpochOffset → List ℤ
unfolding bits
dated e = e.epoch_year ∷ bits e.offset ∷ []

-- 0 no zone, 1 Blackout, 2 Caution
zone : Option WarningZone → List ℤ
zone None = pos 0 ∷ []
zone (Some Blackout) = pos 1 ∷ []
zone (Some Caution) = pos 2 ∷ []

-- ---- what is asked
abbrev pub nought : Float
nought = of_bits binary32 0

abbrev pub one : Float
one = of_bits binary32 0x3f800000

abbrev pub zeros : List Float
zeros = replicate N_COEFF nought

-- g_1^0 = -30000
abbrev pub dipole : List Float
dipole = set zeros 0 (of_bits binary32 0xc6ea6000)

-- h_1^1 = 4500
abbrev pub sectoral : List Float
sectoral = set zeros 1 (of_bits binary32 0x458ca000)

-- a record with Z 0
abbrev field_of : Float → Float → GeomagneticField
field_of x y = record { x = x; y = y; z = nought; error = errors2025 }

abbrev flat : GeomagneticField
flat = field_of (of_bits binary32 0x44960000) (of_bits binary32 0x44c80000)

abbrev steep : GeomagneticField
steep = field_of (of_bits binary32 0x45610000) (of_bits binary32 0x45960000)

abbrev weak : GeomagneticField
weak = field_of nought (of_bits binary32 0x44f9e000)

abbrev none : GeomagneticField
none = field_of nought nought

-- ---- the table: an example's number, what is said, what the documents say
pub record Example : Type 0 where
  pub number : ℕ
  pub said : List ℤ
  pub asked_for : List ℤ

p : ℕ → List ℤ → List ℤ → Example
p n x y = record { number = n; said = x; asked_for = y }

abbrev fifth : List ℤ
fifth = pos 5 ∷ pos 2020 ∷ pos 1 ∷ pos 2029 ∷ pos 365 ∷ []

unfoldable pub first : Example
unfolding p row bits components
first = p 1 (row components (sum_says (lent nought one nought one one nought dipole zeros zeros zeros))) (pos 0 ∷ pos 0xc6ea6000 ∷ pos 0 ∷ pos 0 ∷ [])

unfoldable pub second : Example
unfolding p row bits components
second = p 2 (row components (sum_says (lent one nought nought one one nought dipole zeros zeros zeros))) (pos 0 ∷ pos 0 ∷ pos 0 ∷ pos 0xc76a6000 ∷ [])

unfoldable pub third : Example
unfolding p row bits components
third = p 3 (row components (sum_says (lent nought one nought one one nought zeros sectoral zeros zeros))) (pos 0 ∷ pos 0 ∷ pos 0xc58ca000 ∷ pos 0 ∷ [])

unfoldable pub others : List Example
unfolding p row bits one_float dated zone
others =
    p 4 (one_float (coefficient rounded (of_bits binary32 0x42c80000) (of_bits binary32 0x41200000) (of_bits binary32 0x40900000))) (pos 0x43110000 ∷ []) ∷
    p 5 (row dated (epoch_says (pos 2024) (pos 184))) (pos 0 ∷ pos 2020 ∷ pos 0x40900000 ∷ []) ∷
    p 6 (row dated (epoch_says (pos 2019) (pos 365))) fifth ∷
    p 6 (row dated (epoch_says (pos 2030) (pos 1))) fifth ∷
    p 6 (row dated (epoch_says (pos 2020) (pos 1))) (pos 0 ∷ pos 2020 ∷ pos 0 ∷ []) ∷
    p 6 (row dated (epoch_says (pos 2029) (pos 365))) (pos 0 ∷ pos 2025 ∷ pos 0x409fe98e ∷ []) ∷
    p 7 (row dated (epoch_says (pos 2025) (pos 366))) (pos 4 ∷ []) ∷
    p 7 (row dated (epoch_says (pos 2024) (pos 366))) (pos 0 ∷ pos 2020 ∷ pos 0x409fe99e ∷ []) ∷
    p 8 (row one_float (strength_says flat (h_of flat))) (pos 0 ∷ pos 0x44fa0000 ∷ []) ∷
    p 8 (row zone (zone_says flat)) (pos 0 ∷ pos 2 ∷ []) ∷
    p 8 (row one_float (strength_says steep (h_of steep))) (pos 0 ∷ pos 0x45bb8000 ∷ []) ∷
    p 8 (row zone (zone_says steep)) (pos 0 ∷ pos 0 ∷ []) ∷
    p 8 (row zone (zone_says weak)) (pos 0 ∷ pos 1 ∷ []) ∷
    p 9 (row one_float (uncertainty_says none (pos 2020))) (pos 0 ∷ pos 0x43340000 ∷ []) ∷
    p 9 (row one_float (uncertainty_says none (pos 2025))) (pos 0 ∷ pos 0x43340000 ∷ []) ∷
    p 10 (one_float (wrapped (of_bits binary32 0x433e0000))) (pos 0xc32a0000 ∷ []) ∷
    p 10 (one_float (wrapped (of_bits binary32 0xc33e0000))) (pos 0x432a0000 ∷ []) ∷
    p 10 (one_float (wrapped (of_bits binary32 0x43340000))) (pos 0x43340000 ∷ []) ∷
    p 10 (one_float (wrapped (of_bits binary32 0xc3340000))) (pos 0x43340000 ∷ []) ∷
    p 11 (row (λ v. []) (field_says (asked nought nought one nought one (pos 2020) zeros zeros zeros zeros) (pos 2025) (pos 1))) (pos 8 ∷ pos 2025 ∷ pos 2020 ∷ []) ∷
    p 12 (pos (get_or schmidt_bits (place 12 12) 0) ∷ pos (mended schmidt_bits misses 12 12) ∷ []) (pos 0x3f11593d ∷ pos 0x3f11593f ∷ []) ∷
    []

unfoldable pub table : List Example
unfolding first second third others
table = first ∷ second ∷ third ∷ others

-- an example that says what the documents say
abbrev pub Met : Example → Type 0
Met e = e.said ≡ e.asked_for
