-- Coefficients between two lists: near, with four roundings, and carried over by every relation that the operations keep. Assumes nothing.
use mathlib.Core.List.{List}
use Prim.Native.Nat.{ℕ}
use lib.Dec.{lit<, lit≤}
use lib.IntN.{pos}
use lib.Ieee.{Float, binary32, of_bits}
use Rattle.exact.specs.Exact.{Exact, own}
use Rattle.exact.proofs.Ranks.{Abs, Leaf, Nr, add_a, fine_ok, leaf_a, mul_a}
use Rattle.exact.proofs.Near.{near_own, weaken}
use Rattle.exact.proofs.Sizes.{inverse}
use Rattle.sums.specs.Arithmetic.{Arithmetic}
use Rattle.sums.specs.Paths.{at, between, five, gap, passing}
use Rattle.sums.proofs.Keeps.{Divides, Keeps}
use Rattle.sums.proofs.Related.{Related}
use Rattle.sums.proofs.Terms.{coeff_a}

-- 1 / 5 is at most 1
five_divides : Divides 1 five
unfolding own of_bits
five_divides = let b = inverse 1 5 (pos 0) five (lit< tt) (lit≤ tt) tt (lit≤ tt) in record { is_finite = tt; over = b.0; size = b.1 }

-- the gap between two entries, a fifth of it, and what passes of it in five years
abbrev gap_a : Abs
gap_a = add_a (leaf_a 65536) (leaf_a 65536)

abbrev fifth_a : Abs
fifth_a = mul_a gap_a (leaf_a 1)

abbrev passed_a : Abs
passed_a = mul_a (leaf_a 5) fifth_a

no_years : Leaf 1 (of_bits binary32 0)
unfolding of_bits own
no_years = near_own tt (lit≤ tt)

module _ {o : Arithmetic Float} {o' : Arithmetic Exact} (kept : Keeps o o') (first second : List Float) (n m : ℕ) (F : Leaf 65536 (at first n m)) (S : Leaf 65536 (at second n m)) where
  gap_near : Nr fifth_a (gap o first second n m) (gap o' first second n m)
  gap_near = kept.over {a = gap_a} 1 five (kept.less {a = leaf_a 65536} {b = leaf_a 65536} (kept.num S) (kept.num F) (fine_ok gap_a tt)) five_divides (fine_ok fifth_a tt)

  -- as near as every coefficient at the date
  pub between_near : (t : Float) → Leaf 5 t → Nr coeff_a (between o first second t n m) (between o' first second t n m)
  between_near t L =
      let passed = kept.times {a = leaf_a 5} {b = fifth_a} (kept.num L) gap_near (fine_ok passed_a tt) in
      weaken (lit≤ tt) (lit≤ tt) (lit≤ tt) (kept.plus {a = leaf_a 65536} {b = passed_a} (kept.num F) passed (fine_ok (add_a (leaf_a 65536) passed_a) tt))

  pub passing_near : Nr coeff_a (passing o first second n m) (passing o' first second n m)
  passing_near =
      let passed = kept.times {a = leaf_a 1} {b = fifth_a} (kept.num no_years) gap_near (fine_ok (mul_a (leaf_a 1) fifth_a) tt) in
      weaken (lit≤ tt) (lit≤ tt) (lit≤ tt) (kept.plus {a = fifth_a} {b = mul_a (leaf_a 1) fifth_a} gap_near passed (fine_ok (add_a fifth_a (mul_a (leaf_a 1) fifth_a)) tt))

-- so both are carried over, to the sizes as to every other image
module _ {A B : Type 0} {o : Arithmetic A} {o' : Arithmetic B} {R : A → B → Type 0} (k : Related o o' R) (first second : List Float) where
  gap_related : (n m : ℕ) → R (gap o first second n m) (gap o' first second n m)
  gap_related n m = k.over five (k.less (k.num (at second n m)) (k.num (at first n m)))

  pub between_related : (t : Float) (n m : ℕ) → R (between o first second t n m) (between o' first second t n m)
  between_related t n m = k.plus (k.num (at first n m)) (k.times (k.num t) (gap_related n m))

  pub passing_related : (n m : ℕ) → R (passing o first second n m) (passing o' first second n m)
  passing_related n m = k.plus (gap_related n m) (k.times (k.num (of_bits binary32 0)) (gap_related n m))
