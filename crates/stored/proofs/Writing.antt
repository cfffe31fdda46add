-- The ways to the writers' answers, and the five runs of stores. Assumes nothing.
use mathlib.Core.Path.{◌≡◌, sym, ap, ◌∙◌}
use mathlib.Core.Bool.{Bool, true, false, not}
use mathlib.Core.List.{List, [], ◌∷◌, ◌++◌, append_assoc}
use Prim.Native.Nat.{ℕ, suc, ◌+◌, ◌*◌, ◌≤◌, ◌<◌}
use native.Mathlib.Omega.{arith}
use borrow.Author.Tests.{le-leb, lt-leb, not-false, not-true}
use lib.IntN.{ℤ, nat_abs}
use lib.ListN.{length, drop}
use lib.Seq.{drop-drop, sets, sets-eq}
use Rattle.std.specs.Prelude.{Err}
use Rattle.refusals.specs.Paper.{Verdict, accepted, both}
use Rattle.refusals.specs.declared.Refusal.{Refusal}
use Rattle.refusals.specs.declared.Refusal.TheVariants.{Length, NoRoom}
use Rattle.tables.specs.Degree.{N_COEFF}
use Rattle.lists.specs.Lists.{lengths_verdict, lists_verdict, long, ninety_verdict}
use Rattle.lists.specs.Sets.{Lists, set_verdict}
use Rattle.stored.specs.Layout.{YEAR, bytes_of, contents_of, extent, field_of, fields_of, low_first, stored_length}
use Rattle.stored.specs.Stored.{Each, Written, room_verdict, storable, stored_of, write_either_of, write_either_verdict, write_of, write_verdict, written, wrote}
use Rattle.stored.proofs.Bytes.{length_low}
use Rattle.stored.proofs.Floats.{list_long}
use Rattle.stored.proofs.Frame.{length_fields, lengths}
use Rattle.stored.proofs.Stores.{one_field}

-- what both writers leave once the lengths are asked of
abbrev pub from_caps : ℕ → ℤ → Lists → List ℕ → Written
from_caps k year l held = wrote (stored_length k) (both (set_verdict l) (room_verdict k year (length held))) (stored_of (nat_abs year) l) held

module _ (k : ℕ) (year : ℤ) (l : Lists) (held : List ℕ) (v : Verdict) (e : v ≡ set_verdict l) where
  pub refused_caps : (r : Refusal) → v ≡ Err r → written (Err r) held ≡ from_caps k year l held
  refused_caps r h = rw (sym e, h)

  module _ (a : v ≡ accepted) (b : Bool) (f : b ≡ storable year) where
    pub year_refused : not b ≡ true → written (Err NoRoom) held ≡ from_caps k year l held
    year_refused n = rw (sym e, a, sym f, not-true b n)

    module _ (n : not b ≡ false) (m : ℕ) (i : m ≡ stored_length k) where
      pub no_room : length held < m → written (Err NoRoom) held ≡ from_caps k year l held
      no_room h = rw (sym e, a, sym f, not-false b n, lt-leb (stored_length k) (length held) (omega (arith, h, i)))

      pub all_written : m ≤ length held → written accepted (stored_of (nat_abs year) l ++ drop (stored_length k) held) ≡ from_caps k year l held
      all_written h = rw (sym e, a, sym f, not-false b n, le-leb (stored_length k) (length held) (omega (arith, h, i)))

module _ (year : ℤ) (l : Lists) (held : List ℕ) where
  module _ (b : Bool) (e : b ≡ long l.g l.h l.g_dot l.h_dot) where
    pub not_ninety_lists : not b ≡ true → written (Err Length) held ≡ write_of year l held
    unfolding write_verdict ninety_verdict
    not_ninety_lists n = rw (sym e, not-true b n)

    pub ninety_lists : not b ≡ false → from_caps N_COEFF year l held ≡ write_of year l held
    unfolding write_verdict ninety_verdict
    ninety_lists n = rw (sym e, not-false b n)

  module _ (u : Verdict) (e : u ≡ lengths_verdict l.g l.h l.g_dot l.h_dot) where
    pub bad_lists : (r : Refusal) → u ≡ Err r → written (Err r) held ≡ write_either_of year l held
    unfolding write_either_verdict lists_verdict
    bad_lists r h = rw (sym e, h)

    pub good_lists : u ≡ accepted → from_caps (length l.g) year l held ≡ write_either_of year l held
    unfolding write_either_verdict lists_verdict
    good_lists h = rw (sym e, h)

-- a field, the others, and what stands after them
field_first : (tag : ℕ) (c : List ℕ) (cs : List (List ℕ)) (r : List ℕ) → fields_of tag (c ∷ cs) ++ r ≡ field_of tag c ++ (fields_of (suc tag) cs ++ r)
unfolding fields_of
field_first tag c cs r = append_assoc (field_of tag c) (fields_of (suc tag) cs) r

-- the set, for lists of k entries
module _ (k year : ℕ) (l : Lists) (held : List ℕ) (n : Each k l) where
  -- the lengths of its contents are those of the layout
  pub as_laid_out : lengths (low_first YEAR year ∷ bytes_of l.g ∷ bytes_of l.h ∷ bytes_of l.g_dot ∷ bytes_of l.h_dot ∷ []) ≡ contents_of k
  unfolding lengths
  as_laid_out = rw (list_long k l.g n.0, list_long k l.h n.1, list_long k l.g_dot n.2, list_long k l.h_dot n.3)

  pub stored_long : length (stored_of year l) ≡ stored_length k
  stored_long = length_fields _ 1 ∙ ap extent as_laid_out

  -- the five runs of bytes as the code makes them, each in its part, are the set, and then stands what was held
  pub five_runs : (b1 b2 b3 b4 b5 : List ℕ) → b1 ≡ field_of 1 (low_first YEAR year) → b2 ≡ field_of 2 (bytes_of l.g) → b3 ≡ field_of 3 (bytes_of l.h) → b4 ≡ field_of 4 (bytes_of l.g_dot)
      → b5 ≡ field_of 5 (bytes_of l.h_dot) → (r2 r3 r4 r5 : List ℕ) → r2 ≡ drop 5 held → r3 ≡ drop (3 + 4 * k) r2 → r4 ≡ drop (3 + 4 * k) r3 → r5 ≡ drop (3 + 4 * k) r4
      → b1 ++ (b2 ++ (b3 ++ (b4 ++ (b5 ++ drop (3 + 4 * k) r5)))) ≡ stored_of year l ++ drop (stored_length k) held
  unfolding fields_of
  five_runs b1 b2 b3 b4 b5 e1 e2 e3 e4 e5 r2 r3 r4 r5 d2 d3 d4 d5 =
      let w = 3 + 4 * k in
      let c4 = bytes_of l.h_dot ∷ [] in
      let c3 = bytes_of l.g_dot ∷ c4 in
      let c2 = bytes_of l.h ∷ c3 in
      let c1 = bytes_of l.g ∷ c2 in
      let q3 = d3 ∙ ap (drop w) d2 ∙ drop-drop w 5 held in
      let q4 = d4 ∙ ap (drop w) q3 ∙ drop-drop w (5 + w) held in
      let q5 = d5 ∙ ap (drop w) q4 ∙ drop-drop w (5 + w + w) held in
      let r : drop w r5 ≡ drop (stored_length k) held = ap (drop w) q5 ∙ drop-drop w (5 + w + w + w) held ∙ ap (λ (m : ℕ). drop m held) (omega arith) in
      (λ i. e1 i ++ (e2 i ++ (e3 i ++ (e4 i ++ (e5 i ++ r i)))))
      ∙ sym (field_first 1 (low_first YEAR year) c1 _
      ∙ ap (λ (p : List ℕ). field_of 1 (low_first YEAR year) ++ p) (field_first 2 (bytes_of l.g) c2 _
      ∙ ap (λ (p : List ℕ). field_of 2 (bytes_of l.g) ++ p) (field_first 3 (bytes_of l.h) c3 _
      ∙ ap (λ (p : List ℕ). field_of 3 (bytes_of l.h) ++ p) (field_first 4 (bytes_of l.g_dot) c4 _
      ∙ ap (λ (p : List ℕ). field_of 4 (bytes_of l.g_dot) ++ p) (field_first 5 (bytes_of l.h_dot) [] _)))))

  -- the same as runs of stores, one on what the last one left
  pub five_fields : (
      let b1 = sets held 0 (field_of 1 (low_first YEAR year)) in
      let b2 = sets b1 5 (field_of 2 (bytes_of l.g)) in
      let b3 = sets b2 (5 + (3 + 4 * k)) (field_of 3 (bytes_of l.h)) in
      let b4 = sets b3 (5 + 2 * (3 + 4 * k)) (field_of 4 (bytes_of l.g_dot)) in
      sets b4 (5 + 3 * (3 + 4 * k)) (field_of 5 (bytes_of l.h_dot)) ≡ sets held 0 (stored_of year l))
  unfolding fields_of
  five_fields =
      let b1 = sets held 0 (field_of 1 (low_first YEAR year)) in
      let b2 = sets b1 5 (field_of 2 (bytes_of l.g)) in
      let b3 = sets b2 (5 + (3 + 4 * k)) (field_of 3 (bytes_of l.h)) in
      let b4 = sets b3 (5 + 2 * (3 + 4 * k)) (field_of 4 (bytes_of l.g_dot)) in
      let c4 = bytes_of l.h_dot ∷ [] in
      let c3 = bytes_of l.g_dot ∷ c4 in
      let c2 = bytes_of l.h ∷ c3 in
      sym (one_field held 0 1 (low_first YEAR year) (bytes_of l.g ∷ c2) 5 (omega (arith, length_low YEAR year))
      ∙ one_field b1 5 2 (bytes_of l.g) c2 (5 + (3 + 4 * k)) (omega (arith, list_long k l.g n.0))
      ∙ one_field b2 (5 + (3 + 4 * k)) 3 (bytes_of l.h) c3 (5 + 2 * (3 + 4 * k)) (omega (arith, list_long k l.h n.1))
      ∙ one_field b3 (5 + 2 * (3 + 4 * k)) 4 (bytes_of l.g_dot) c4 (5 + 3 * (3 + 4 * k)) (omega (arith, list_long k l.g_dot n.2))
      ∙ one_field b4 (5 + 3 * (3 + 4 * k)) 5 (bytes_of l.h_dot) [] (5 + 4 * (3 + 4 * k)) (omega (arith, list_long k l.h_dot n.3)))

  pub stored_first : stored_length k ≤ length held → sets held 0 (stored_of year l) ≡ stored_of year l ++ drop (stored_length k) held
  stored_first h =
      let e : 0 + length (stored_of year l) ≡ stored_length k = omega (arith, stored_long) in
      sets-eq (stored_of year l) held 0 (omega (arith, h, stored_long))
      ∙ ap (λ (m : ℕ). stored_of year l ++ drop m held) e
