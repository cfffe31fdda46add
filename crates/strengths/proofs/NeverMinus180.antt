-- No wrap is -180 (document 02, Wish 5): what `DueSouth` says of a grid variation stands on it. Assumes nothing.
use mathlib.Core.Path.{◌≡◌, refl}
use mathlib.Core.Bool.{Bool, true, false, cond}
use lib.Ieee.{Float, of_bits, neg, eq}
use Rattle.strengths.specs.Grid.{d180, crate_wrapped, wrapped}

pub never_minus_180 : (x : Float) → eq (wrapped x) (neg d180) ≡ false
unfolding wrapped
never_minus_180 x = go (eq (crate_wrapped x) (neg d180)) refl
  where
    go : (b : Bool) → eq (crate_wrapped x) (neg d180) ≡ b → eq (cond b d180 (crate_wrapped x)) (neg d180) ≡ false
    go true e = unfold of_bits neg eq in refl
    go false e = e
