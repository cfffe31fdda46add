-- X, Y and Z of the yearly rates (document 02, Wish 7): Field's own sum and turn, read with other lists. Definitions only.
use Rattle.std.specs.Float.{binary32}
use Rattle.std.specs.Float.Ieee.{of_bits}
use Rattle.models.specs.declared.epochs.EpochOffset.{EpochOffset}
use Rattle.synthesis.specs.declared.Xyz.{Xyz}
use Rattle.field.specs.Field.{Asked, asked, strengths_of}

-- what is asked, with the two rate lists in the place of the coefficients
unfoldable pub rated : Asked → Asked
rated a = asked a.height a.sin_phi a.cos_phi a.sin_lambda a.cos_lambda a.set_epoch a.g_dot a.h_dot a.g_dot a.h_dot

-- offset 0
unfoldable pub no_time : Asked → EpochOffset
no_time a = record { epoch_year = a.set_epoch; offset = of_bits binary32 0 }

-- the rates of X, Y and Z, in nT a year, each operation rounded once
abbrev pub component_rates : Asked → Xyz
component_rates a = strengths_of (rated a) (no_time a)
