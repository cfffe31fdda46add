-- No byte is no number. Assumes nothing.
use mathlib.Core.Path.{◌≡◌, refl}
use mathlib.Core.List.{[]}
use Rattle.std.specs.Prelude.{None}
use Rattle.text.specs.Decimals.{plain, plain_of, before, decimal_of, number_of, whole_of}

pub no_number : number_of [] ≡ None
unfolding number_of decimal_of plain_of plain before
no_number = refl

pub no_whole : whole_of [] ≡ None
unfolding whole_of decimal_of plain_of plain before
no_whole = refl
