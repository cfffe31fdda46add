-- The factors are of the sizes that the laws of nearness ask for: Schmidt's table by one computed test, K at every degree.
use mathlib.Core.List.{List, [], ◌∷◌}
use Prim.Native.Nat.{ℕ, zero, suc, ◌+◌, ◌*◌, zero-le}
use mathlib.Core.Bool.{Bool, true, ◌&&◌}
use lib.ListN.{get_or}
use lib.Dec.{T, leb, leb→le, le→leb}
use lib.Ieee.{Float, binary32, of_bits}
use lib.Ieee.Fits.{and_l, and_r}
use lib.Ieee.Scale.{finite}
use Rattle.exact.specs.Exact.{Exact, own}
use Rattle.exact.proofs.Near.{near_own}
use Rattle.exact.proofs.Ranks.{Leaf, Nr, leaf_a}
use Rattle.tables.specs.Degree.{place}
use Rattle.tables.specs.Tables.{schmidt_at, schmidt_bits}
use Rattle.tables.specs.Rule.{k_of}
use Rattle.tables.proofs.Factors.{k_small}
use Rattle.sums.specs.Arithmetic.{Arithmetic}
use Rattle.sums.proofs.Keeps.{Keeps}

-- ---- every entry of a table is of size at most B, by a computed test
unfoldable sized : ℕ → ℕ → Bool
unfolding of_bits own
sized B b = let x = of_bits binary32 b in finite x && leb ((own x).plus + (own x).minus) (B * (own x).over)

unfoldable all_sized : ℕ → List ℕ → Bool
unfolding sized
all_sized B [] = true
all_sized B (b ∷ l) = sized B b && all_sized B l

sized_at : (B : ℕ) (l : List ℕ) (k : ℕ) → T (sized B 0) → T (all_sized B l) → T (sized B (get_or l k 0))
unfolding all_sized
sized_at B [] zero z t = z
sized_at B [] (suc k) z t = z
sized_at B (b ∷ l) zero z t = and_l (sized B b) (all_sized B l) t
sized_at B (b ∷ l) (suc k) z t = sized_at B l k z (and_r (sized B b) (all_sized B l) t)

sized_leaf : (B b : ℕ) → T (sized B b) → Leaf B (of_bits binary32 b)
unfolding sized
sized_leaf B b t =
    let x = of_bits binary32 b in
    let q : Bool = leb ((own x).plus + (own x).minus) (B * (own x).over) in
    near_own (and_l (finite x) q t) (leb→le ((own x).plus + (own x).minus) (B * (own x).over) (and_r (finite x) q t))

schmidt_ok : T (all_sized 2048 schmidt_bits)
unfolding all_sized schmidt_bits
schmidt_ok = tt

zero_ok : (B : ℕ) → T (sized B 0)
unfolding sized
zero_ok B = le→leb 0 (B * 1) zero-le

module _ {o : Arithmetic Float} {o' : Arithmetic Exact} (kept : Keeps o o') (n m : ℕ) where
  pub schmidt_near : Nr (leaf_a 2048) (o.num (schmidt_at (place n m))) (o'.num (schmidt_at (place n m)))
  unfolding schmidt_at
  schmidt_near = kept.num (sized_leaf 2048 (get_or schmidt_bits (place n m) 0) (sized_at 2048 schmidt_bits (place n m) (zero_ok 2048) schmidt_ok))

  pub k_near : Nr (leaf_a 1) (o.num (k_of n m)) (o'.num (k_of n m))
  k_near = let h = k_small n m in kept.num (near_own h.0 h.1)
