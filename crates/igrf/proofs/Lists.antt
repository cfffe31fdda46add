-- A list made place by place of two lists of one length, and its part of an array that is longer: of any function of two entries. Assumes nothing.
use mathlib.Core.Path.{◌≡◌, refl, sym, ap, ◌∙◌}
use mathlib.Core.List.{List, [], ◌∷◌, ◌++◌}
use mathlib.Core.Logic.{⊎_elim}
use Prim.Native.Nat.{ℕ, zero, suc, ◌-◌, ◌≤◌, ◌<◌, zero-le}
use native.Mathlib.Nat.{not-suc-le-zero, le_of_suc-le-suc}
use native.Mathlib.Omega.{arith}
use lib.ListN.{length, drop, get_or, replicate, take}
use lib.Ieee.{Float, binary32, nan, of_bits}
use Rattle.tables.specs.Degree.{degree_of}
use Rattle.tables.proofs.Degrees.{degree_high}
use Rattle.lists.specs.Lists.{Long}
use Rattle.tables.proofs.TableStatement.{get_any}
use Rattle.igrf.specs.declared.gap.Gap.{Gap}
use Rattle.igrf.specs.Igrf.{filled, in_array, made, made_at}
use Rattle.sums.specs.Paths.{nought}
use Rattle.sums.proofs.Step.{less_or}
use Rattle.synthesis.specs.Code.{first}
use Rattle.synthesis.proofs.PlaceSizes.{in_tables}

-- lists of one degree have at most 104 entries
pub few : {g h c d : List Float} → Long g h c d → length g ≤ 104
few {g} l = omega (arith, l.g_long, in_tables (degree_of (length g)) (degree_high (length g)))

-- ---- as a part of an array
pub take_first : (f : ℕ → Float) (n : ℕ) (e : List Float) → take n (first f n ++ e) ≡ first f n
unfolding first
take_first f zero e = refl
take_first f (suc n) e = ap (λ (l : List Float). f 0 ∷ l) (take_first (λ k. f (suc k)) n e)

pub first_long : (f : ℕ → Float) (n : ℕ) → length (first f n) ≡ n
unfolding first
first_long f zero = refl
first_long f (suc n) = ap suc (first_long (λ k. f (suc k)) n)

first_room : (f : ℕ → Float) (n : ℕ) (e : List Float) → n ≤ length (first f n ++ e)
unfolding first
first_room f zero e = zero-le
first_room f (suc n) e = let h = first_room (λ k. f (suc k)) n e in omega (arith, h)

module _ (f : ℕ → Float) (n : ℕ) (r : List Float) (e : r ≡ first f n ++ drop n (replicate 104 (of_bits binary32 0))) where
  pub held : n ≤ length r
  held = rw e (first_room f n _)

  pub part_is : (k : ℕ) → k ≡ n → take (k - 0) r ≡ first f n
  part_is k h = let z : k - 0 ≡ n = omega (arith, h) in rw (z, e) (take_first f n _)

-- two such lists in the place of the rates
pub made_long : {g h c d : List Float} (f f' : ℕ → Float) → Long g h c d → Long g h (first f (length g)) (first f' (length h))
made_long {g} {h} f f' l = record { g_long = l.g_long; h_long = l.h_long; gd_long = first_long f (length g); hd_long = first_long f' (length h) ∙ l.h_long }

-- ---- two lists of one degree in an array
-- what is made at a place of both lists
pub made_is : (f : Float → Float → Float) (from to : List Float) (k : ℕ) → k < length from → k < length to → f (get_or from k nan) (get_or to k nan) ≡ made_at f from to k
made_is f from to k h i = rw (get_any from k nan nought h, get_any to k nan nought i)

-- lists of one degree have room in the array, and its first places hold what is made of them
module _ (f : Float → Float → Float) (from to r : List Float) (e : r ≡ in_array f from to) (n : length from ≤ 104) (l : length to ≡ length from) where
  all_filled : filled from to ≡ length from
  all_filled = omega (arith, n, l)

  room : length from ≤ length r
  room = rw (e, all_filled) (first_room (made_at f from to) (length from) _)

  part : take (length from) r ≡ made f from to
  part = rw (e, all_filled) (take_first (made_at f from to) (length from) _)

pub few_h : {g h c d : List Float} → Long g h c d → length h ≤ 104
few_h l = omega (arith, few l, l.h_long)

module _ {g h c d : List Float} (l : Long g h c d) (f : Float → Float → Float) {r : Gap} (e : r ≡ record { g = in_array f g c; h = in_array f h d }) where
  pub gap_room : (length g ≤ length r.g) × (length h ≤ length r.h)
  gap_room = (room f g c r.g (ap (λ (x : Gap). x.g) e) (few l) l.gd_long, room f h d r.h (ap (λ (x : Gap). x.h) e) (few_h l) (l.hd_long ∙ sym l.h_long))

  pub gap_g : take (length g) r.g ≡ made f g c
  gap_g = part f g c r.g (ap (λ (x : Gap). x.g) e) (few l) l.gd_long

  pub gap_h : take (length h) r.h ≡ made f h d
  gap_h = part f h d r.h (ap (λ (x : Gap). x.h) e) (few_h l) (l.hd_long ∙ sym l.h_long)

-- ---- by place
first_at : (f : ℕ → Float) (n k : ℕ) → k < n → get_or (first f n) k nought ≡ f k
unfolding first
first_at f zero k h = absurd (not-suc-le-zero h)
first_at f (suc n) zero h = refl
first_at f (suc n) (suc k) h = first_at (λ j. f (suc j)) n k (le_of_suc-le-suc h)

first_beyond : (f : ℕ → Float) (n k : ℕ) → n ≤ k → get_or (first f n) k nought ≡ nought
unfolding first
first_beyond f zero k h = refl
first_beyond f (suc n) zero h = absurd (not-suc-le-zero h)
first_beyond f (suc n) (suc k) h = first_beyond (λ j. f (suc j)) n k (le_of_suc-le-suc h)

beyond : (l : List Float) (k : ℕ) → length l ≤ k → get_or l k nought ≡ nought
beyond [] k h = refl
beyond (x ∷ l) zero h = absurd (not-suc-le-zero h)
beyond (x ∷ l) (suc k) h = beyond l k (le_of_suc-le-suc h)

-- at every place, beyond the end too, where the function makes nothing of nothing
pub at_all : (f : Float → Float → Float) → f nought nought ≡ nought → (from to : List Float) (k : ℕ) → length to ≡ length from
    → get_or (first (λ j. f (get_or from j nought) (get_or to j nought)) (length from)) k nought ≡ f (get_or from k nought) (get_or to k nought)
at_all f z from to k e =
    ⊎_elim
    (λ (h : k < length from). first_at _ (length from) k h)
    (λ (h : length from ≤ k). first_beyond _ (length from) k h ∙ sym z ∙ rw (beyond from k h, beyond to k (omega (arith, h, e))) refl)
    (less_or k (length from))
