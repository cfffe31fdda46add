-- The bits of the division of n - 1 and m are those that the source stores, at every degree of its table. Assumes nothing.
use mathlib.Core.Path.{◌≡◌, ap, ◌∙◌}
use Prim.Native.Nat.{ℕ, ◌+◌, ◌<◌}
use native.Mathlib.Omega.{arith}
use lib.ListN.{get_or}
use lib.Ieee.{binary32, to_bits}
use Rattle.exact.specs.Exact.{lit}
use Rattle.tables.specs.Degree.{WMM_MAX, place}
use Rattle.tables.specs.Tables.{k_bits}
use Rattle.tables.specs.Division.{k_divided}
use Rattle.tables.proofs.TableStatement.{k_stored}
use Rattle.tables.proofs.Factors.{k_whole}

pub division_stored : (n m : ℕ) → n < WMM_MAX → m < n + 2 → to_bits binary32 (k_divided (lit n) (lit m)) ≡ get_or k_bits (place (n + 1) m) 0
division_stored n m hn hm = ap (to_bits binary32) (k_whole n m (omega arith) (omega arith)) ∙ k_stored (n + 1) m (omega arith) (omega arith)
