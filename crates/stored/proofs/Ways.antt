-- More ways to an answer: after the last field of any list of lengths, and the five runs as stores in one output. Assumes nothing.
use mathlib.Core.Path.{◌≡◌, sym, ap, ◌∙◌}
use mathlib.Core.List.{List, ◌++◌}
use Prim.Native.Nat.{ℕ, ◌+◌, ◌*◌, ◌≤◌, ◌<◌}
use borrow.Author.Tests.{le-leb, lt-leb}
use lib.Dec.{leb}
use lib.ListN.{length, drop, drop_of_length-le}
use lib.Seq.{sets}
use Rattle.std.specs.Prelude.{Err}
use Rattle.refusals.specs.Paper.{Verdict, accepted, check}
use Rattle.refusals.specs.declared.Refusal.TheVariants.{WrongEnd}
use Rattle.lists.specs.Sets.{Lists}
use Rattle.stored.specs.Layout.{YEAR, bytes_of, field_of, low_first, stored_length}
use Rattle.stored.specs.Stored.{Each, fields_verdict, stored_of}
use Rattle.stored.proofs.Writing.{five_fields, stored_first}

-- ---- after the last field
module _ (ns : List ℕ) (s : List ℕ) (i at : ℕ) (q : Verdict) (h : length ns ≤ i) (e : q ≡ fields_verdict (drop i ns) (i + 1) at s) where
  -- no field is left
  last : q ≡ check (leb (length s) at) (WrongEnd at) accepted
  unfolding fields_verdict
  last = e ∙ rw (drop_of_length-le ns {i = i} h)

  pub left_over : at < length s → Err (WrongEnd at) ≡ q
  left_over l = sym (last ∙ rw (lt-leb (length s) at l))

  pub all_taken : length s ≤ at → accepted ≡ q
  all_taken l = sym (last ∙ rw (le-leb (length s) at l))

-- ---- the five runs, for lists of k entries
module _ (k year : ℕ) (l : Lists) (held : List ℕ) (n : Each k l) where
  -- the five runs of stores, one on what the last one left
  pub five_runs : (b1 b2 b3 b4 b5 : List ℕ) → b1 ≡ sets held 0 (field_of 1 (low_first YEAR year)) → b2 ≡ sets b1 5 (field_of 2 (bytes_of l.g)) → b3 ≡ sets b2 (5 + (3 + 4 * k)) (field_of 3 (bytes_of l.h))
      → b4 ≡ sets b3 (5 + 2 * (3 + 4 * k)) (field_of 4 (bytes_of l.g_dot)) → b5 ≡ sets b4 (5 + 3 * (3 + 4 * k)) (field_of 5 (bytes_of l.h_dot)) → stored_length k ≤ length held → b5 ≡ stored_of year l ++ drop (stored_length k) held
  five_runs b1 b2 b3 b4 b5 e1 e2 e3 e4 e5 h =
      let f2 = e2 ∙ ap (λ (b : List ℕ). sets b 5 (field_of 2 (bytes_of l.g))) e1 in
      let f3 = e3 ∙ ap (λ (b : List ℕ). sets b (5 + (3 + 4 * k)) (field_of 3 (bytes_of l.h))) f2 in
      let f4 = e4 ∙ ap (λ (b : List ℕ). sets b (5 + 2 * (3 + 4 * k)) (field_of 4 (bytes_of l.g_dot))) f3 in
      e5 ∙ ap (λ (b : List ℕ). sets b (5 + 3 * (3 + 4 * k)) (field_of 5 (bytes_of l.h_dot))) f4 ∙ five_fields k year l held n ∙ stored_first k year l held n h
