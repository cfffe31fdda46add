-- What is said of a stored set of either form, whichever lists it is read into. Assumes nothing.
use Rattle.refusals.specs.Paper.{Verdict, accepted, Paper, answered, after, told, both, check}
use Rattle.std.specs.Prelude.{Ok, Err}
use mathlib.Core.Path.{◌≡◌, refl, sym, ap, ◌∙◌}
use mathlib.Core.Bool.{Bool, true, false, cond, ◌&&◌}
use mathlib.Core.List.{List}
use Prim.Native.Nat.{ℕ, ◌+◌}
use native.Mathlib.Omega.{arith}
use borrow.Author.Tests.{eq-eqb}
use lib.Dec.{eqb, leb}
use lib.IntN.{ℤ}
use lib.ListN.{length, take, drop}
use lib.Ieee.{Float, binary32, of_bits}
use Rattle.std.proofs.lemmas.List.{length-replicate}
use Rattle.refusals.specs.declared.Refusal.TheVariants.{Degree}
use Rattle.tables.specs.Degree.{N_COEFF, degree_of, entries}
use Rattle.lists.specs.Lists.{Long, lengths_verdict}
use Rattle.lists.specs.Sets.{Lists, afterwards, left, set_verdict}
use Rattle.lists.proofs.Checked.{long_pass}
use Rattle.stored.specs.Layout.{LONGER, content_at, field_at, list_length, number}
use Rattle.stored.specs.Stored.{Each, either_verdict, entries_in, form_verdict, frame_of, read_either_of, says_of, set_of, verdict_of}
use Rattle.stored.proofs.Answers.{frame_long}
use Rattle.field.specs.Field.{asked, field_says}
use Rattle.ffi.specs.Told.{either_field}
use Rattle.ffi.proofs.Stored.{read_then, zeros}

-- ---- lists of n entries, where bytes in order have so many: 6 and 23 are never said
module _ (s : List ℕ) (held : Lists) (n : ℕ) (d : n ≡ entries (degree_of n)) (w : Each n held) (f : frame_of (entries_in s) s ≡ accepted → n ≡ entries_in s) where
  passes : lengths_verdict held.g held.h held.g_dot held.h_dot ≡ accepted
  passes = long_pass held.g held.h held.g_dot held.h_dot each
    where
      each : Long held.g held.h held.g_dot held.h_dot
      each =
          record {
            g_long = w.0 ∙ d ∙ ap (λ (k : ℕ). entries (degree_of k)) (sym w.0);
            h_long = w.1 ∙ sym w.0;
            gd_long = w.2 ∙ sym w.0;
            hd_long = w.3 ∙ sym w.0;
          }

  same_form : (k m : ℕ) (u v : Verdict) → (u ≡ accepted → k ≡ m) → both (both u (check (eqb k m) Degree accepted)) v ≡ both u v
  same_form k m (Ok _) v h = rw (eq-eqb k m (h refl))
  same_form k m (Err r) v h = refl

  same_verdict : either_verdict s held ≡ verdict_of (entries_in s) s
  unfolding either_verdict form_verdict verdict_of
  same_verdict =
      let m = entries_in s in
      ap (λ (u : Verdict). both u (both (both (frame_of m s) (check (eqb (length held.g) m) Degree accepted)) (set_verdict (set_of m s).lists))) passes
      ∙ same_form (length held.g) m (frame_of m s) (set_verdict (set_of m s).lists) (λ h. w.0 ∙ f h)

  pub form_fits : read_either_of s held ≡ afterwards (says_of (entries_in s) s) held
  unfolding says_of
  form_fits = ap (λ (v : Verdict). afterwards (told v (answered (set_of (entries_in s) s))) held) same_verdict

-- so Field is asked of the set that stands in the bytes
module _ (s : List ℕ) (height sp cp sl cl : Float) (year day : ℤ) (q : Paper ℤ) (l : Lists) (n : ℕ) (d : n ≡ entries (degree_of n)) (f : frame_of (entries_in s) s ≡ accepted → n ≡ entries_in s) where
  pub form_read : left q l ≡ read_either_of s (zeros n) → after q (λ y. field_says (asked height sp cp sl cl y l.g l.h l.g_dot l.h_dot) year day) ≡ either_field s height sp cp sl cl year day
  unfolding either_field
  form_read e =
      let w = length-replicate n (of_bits binary32 0) in
      read_then (says_of (entries_in s) s) (zeros n) l q (e ∙ form_fits s (zeros n) n d (w, w, w, w) f)
      (λ m. field_says (asked height sp cp sl cl m.year m.lists.g m.lists.h m.lists.g_dot m.lists.h_dot) year day)

-- both lengths are those of a degree
pub ninety_whole : N_COEFF ≡ entries (degree_of N_COEFF)
unfolding degree_of
ninety_whole = refl

pub longer_whole : LONGER ≡ entries (degree_of LONGER)
unfolding degree_of
longer_whole = refl

-- ---- the length of bytes in order tells their form
-- the test of `entries_in`
abbrev of_longer : List ℕ → Bool
of_longer s = leb (content_at N_COEFF 1) (length s) && eqb (number (take 2 (drop (field_at N_COEFF 1 + 1) s))) (list_length LONGER)

module _ (s : List ℕ) where
  by_length : (b : Bool) → length s ≡ 1681 → frame_of (cond b LONGER N_COEFF) s ≡ accepted → LONGER ≡ cond b LONGER N_COEFF
  by_length true h f = refl
  by_length false h f = let l : length s ≡ 1457 = frame_long N_COEFF s _ refl f in absurd (omega (arith, l, h))

  by_other_length : (b : Bool) → (length s ≡ 1681 → ⊥) → frame_of (cond b LONGER N_COEFF) s ≡ accepted → N_COEFF ≡ cond b LONGER N_COEFF
  by_other_length true h f = absurd (h (frame_long LONGER s _ refl f))
  by_other_length false h f = refl

  pub longer_form : length s ≡ 1681 → frame_of (entries_in s) s ≡ accepted → LONGER ≡ entries_in s
  unfolding entries_in
  longer_form h f = by_length (of_longer s) h f

  pub shorter_form : (length s ≡ 1681 → ⊥) → frame_of (entries_in s) s ≡ accepted → N_COEFF ≡ entries_in s
  unfolding entries_in
  shorter_form h f = by_other_length (of_longer s) h f
