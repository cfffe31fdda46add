-- Whole numbers as floats: each is its own size. 0 and 1 as the code writes them.
use mathlib.Core.Path.{◌≡◌, sym, ◌∙◌}
use Prim.Native.Nat.{ℕ}
use lib.Ieee.{binary32, of_int, of_bits}
use Rattle.exact.specs.Tests.{abs}
use Rattle.roots.proofs.Signs.{abs_clear, clear_round}
use Rattle.sums.specs.Recurrence.{lit}
use Rattle.exact.proofs.Wholes.{lit_one, lit_zero}

pub lit_size : (m : ℕ) → lit m ≡ abs (lit m)
unfolding lit of_int
lit_size m = sym (abs_clear _ (clear_round binary32 m 1))

pub abs_zero : of_bits binary32 0 ≡ abs (lit 0)
abs_zero = lit_zero ∙ lit_size 0

pub abs_one : of_bits binary32 0x3f800000 ≡ abs (lit 1)
abs_one = lit_one ∙ lit_size 1
