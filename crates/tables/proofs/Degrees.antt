-- The degree of a list by its entries: 12 or 13, and a list of 90 or 104 has the entries of its degree. Assumes nothing.
use mathlib.Core.Path.{◌≡◌, refl}
use mathlib.Core.Bool.{Bool, true, false, cond}
use Prim.Native.Nat.{ℕ, ◌≤◌}
use lib.Dec.{eqb, lit≤}
use Rattle.tables.specs.Degree.{N_MAX, WMM_MAX, degree_of, entries}

-- it lies from 12 to 13
pub degree_low : (k : ℕ) → WMM_MAX ≤ degree_of k
unfolding degree_of
degree_low k = go (eqb k (entries N_MAX))
  where
    go : (b : Bool) → WMM_MAX ≤ cond b N_MAX WMM_MAX
    go true = lit≤ tt
    go false = lit≤ tt

pub degree_high : (k : ℕ) → degree_of k ≤ N_MAX
unfolding degree_of
degree_high k = go (eqb k (entries N_MAX))
  where
    go : (b : Bool) → cond b N_MAX WMM_MAX ≤ N_MAX
    go true = lit≤ tt
    go false = lit≤ tt

-- the lengths that are taken have the entries of their degree
pub of_short : (k : ℕ) → k ≡ entries WMM_MAX → k ≡ entries (degree_of k)
unfolding degree_of
of_short k e = rw e refl

pub of_long : (k : ℕ) → k ≡ entries N_MAX → k ≡ entries (degree_of k)
unfolding degree_of
of_long k e = rw e refl
