-- The two forms side by side: what the reader of lists of 90 takes, the reader of either form takes alike; and the longer form meets it with 18. Assumes nothing.
use mathlib.Core.Path.{◌≡◌, refl, sym, ◌∙◌}
use mathlib.Core.Bool.{true}
use mathlib.Core.List.{List}
use Prim.Native.Nat.{ℕ}
use native.Mathlib.Omega.{arith}
use borrow.Author.Tests.{eq-eqb, le-leb, lt-ltb, ne_eqb}
use lib.ListN.{length, get_or, take, drop}
use Rattle.std.specs.Prelude.{Err}
use Rattle.refusals.specs.Paper.{accepted, answered, paper}
use Rattle.refusals.specs.declared.Refusal.TheVariants.{WrongLength}
use Rattle.refusals.proofs.Laws.{both_accepted, told_answered}
use Rattle.tables.specs.Degree.{N_COEFF}
use Rattle.tables.proofs.Degrees.{of_short}
use Rattle.lists.specs.Lists.{long}
use Rattle.lists.specs.Sets.{Lists, ModelSet, left, set_verdict}
use Rattle.lists.proofs.Checked.{each_long, long_pass}
use Rattle.stored.specs.Layout.{LONGER, YEAR, list_length, number}
use Rattle.stored.specs.Stored.{field_verdict, fields_verdict, frame_of, frame_verdict, read_either_of, read_of, set_in, stored_says, stored_verdict, verdict_of}
use Rattle.stored.proofs.Frame.{field_of_lem}
use Rattle.stored.proofs.Answers.{either_on, form_good, form_of, ninety}

-- a set with lists of 90 is read by both readers alike
pub either_as_read : (s : List ℕ) (into : Lists) (m : ModelSet) → long into.g into.h into.g_dot into.h_dot ≡ true → stored_says s ≡ answered m → read_either_of s into ≡ read_of s into
unfolding stored_says verdict_of
either_as_read s into m n e =
    let l = each_long into.g into.h into.g_dot into.h_dot n in
    let v = (told_answered (stored_verdict s) (answered (set_in s)) m e).0 in
    let frame = (both_accepted (frame_verdict s) (set_verdict (set_in s).lists) v).0 in
    let form = form_good _ s N_COEFF (form_of N_COEFF (of_short N_COEFF refl) s frame) (frame_verdict s) refl frame l.0 in
    let lengths = long_pass into.g into.h into.g_dot into.h_dot
    (record { g_long = of_short _ l.0; h_long = l.1 ∙ sym l.0; gd_long = l.2 ∙ sym l.0; hd_long = l.3 ∙ sym l.0 }) in
    sym (either_on s into _ refl lengths _ refl (sym form) N_COEFF l.0) ∙ ninety s into true (sym n) refl

-- the longer form without fault has another length at place 6
longer_other : (s : List ℕ) → frame_of LONGER s ≡ accepted → frame_verdict s ≡ Err (WrongLength 6)
unfolding fields_verdict
longer_other s e =
    let u = both_accepted (field_verdict 1 YEAR 0 s) _ e in
    let f = field_of_lem 2 (list_length LONGER) 5 s (both_accepted (field_verdict 2 (list_length LONGER) 5 s) _ u.1).0 in
    let r = f.reaches in
    let m = f.measured in
    rw (
      u.0,
      lt-ltb 5 (length s) (omega (arith, r)),
      eq-eqb (get_or s 5 0) 2 f.tagged,
      le-leb 8 (length s) (omega (arith, r)),
      ne_eqb (number (take 2 (drop 6 s))) (list_length N_COEFF) (λ q. omega (arith, m, q)),
    )
    refl

pub longer_refused : (s : List ℕ) (into : Lists) → long into.g into.h into.g_dot into.h_dot ≡ true → frame_of LONGER s ≡ accepted → read_of s into ≡ left (paper (WrongLength 6)) into
unfolding stored_says verdict_of
longer_refused s into n e = rw (n, longer_other s e) refl
