-- The ways of `wrap_to_180`. Assumes nothing.
use mathlib.Core.Path.{◌≡◌, sym}
use mathlib.Core.Bool.{true, false}
use lib.Ieee.{Float, neg, eq}
use Rattle.strengths.specs.Grid.{d180, crate_wrapped, wrapped}

-- of what the crate's rule gives: -180 is named 180, all else is kept
pub named : (x t : Float) → t ≡ crate_wrapped x → eq t (neg d180) ≡ true → d180 ≡ wrapped x
unfolding wrapped
named x t e s = rw (sym e, s)

pub kept : (x t : Float) → t ≡ crate_wrapped x → eq t (neg d180) ≡ false → t ≡ wrapped x
unfolding wrapped
kept x t e s = rw (sym e, s)
