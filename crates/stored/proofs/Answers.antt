-- The ways to the readers' answers. Assumes nothing.
use mathlib.Core.Path.{◌≡◌, refl, sym, ap, ◌∙◌}
use mathlib.Core.Bool.{Bool, true, false, not, cond}
use mathlib.Core.List.{List}
use Prim.Native.Nat.{ℕ, ◌+◌, ◌*◌, ◌≤◌, ◌<◌}
use native.Mathlib.Omega.{arith}
use borrow.Author.Tests.{eq-eqb, eqb-true, le-leb, lt-leb, ne_eqb, not-false, not-true}
use lib.Dec.{eqb}
use lib.IntN.{ℤ}
use lib.ListN.{length, take, drop}
use lib.Ieee.{Float}
use Rattle.std.specs.Prelude.{Err}
use Rattle.refusals.specs.Paper.{Verdict, accepted, answered, paper}
use Rattle.refusals.specs.declared.Refusal.{Refusal}
use Rattle.refusals.specs.declared.Refusal.TheVariants.{Length, Degree}
use Rattle.refusals.proofs.Laws.{both_accepted, check_accepted}
use Rattle.tables.specs.Degree.{N_COEFF, N_MAX, WMM_MAX, degree_of, entries}
use Rattle.lists.specs.Lists.{Long, lengths_verdict, lists_verdict, long, ninety_verdict}
use Rattle.lists.specs.Sets.{Lists, afterwards, left, lists_of, set_verdict}
use Rattle.lists.proofs.Checked.{lengths_long, long_pass}
use Rattle.stored.specs.Layout.{LONGER, YEAR, content_at, contents_of, floats_in, list_length, number, stored_length}
use Rattle.stored.specs.Stored.{Each, either_verdict, entries_in, field_verdict, fields_verdict, form_verdict, frame_of, list_of, read_either_of, read_of, says_of, set_in, set_of, stored_says, verdict_of}
use Rattle.stored.proofs.Floats.{length_floats}
use Rattle.stored.proofs.Frame.{Field, field_of_lem, fields_length}

-- ---- the checks of the bytes
module _ (k : ℕ) (s : List ℕ) (v : Verdict) (e : v ≡ frame_of k s) where
  pub no_frame : (r : Refusal) → v ≡ Err r → Err r ≡ verdict_of k s
  unfolding verdict_of
  no_frame r h = rw (sym e, h)

  pub in_frame : v ≡ accepted → (u : Verdict) → u ≡ set_verdict (set_of k s).lists → u ≡ verdict_of k s
  unfolding verdict_of
  in_frame h u f = f ∙ rw (sym e, h)

  pub frame_long : v ≡ accepted → length s ≡ stored_length k
  frame_long h = let l = fields_length (contents_of k) 1 0 s (omega arith) (sym e ∙ h) in omega (arith, l)

-- lists that are read are long enough: 7 alone is left to ask
abbrev AsRead : List ℕ → ℕ → Type 0
AsRead s at = length (floats_in N_COEFF (drop at s)) ≡ N_COEFF

pub caps_alone : (s : List ℕ) → ninety_verdict (list_of N_COEFF 1 s) (list_of N_COEFF 2 s) (list_of N_COEFF 3 s) (list_of N_COEFF 4 s) ≡ set_verdict (set_in s).lists
unfolding ninety_verdict
caps_alone s =
    let n : (at : ℕ) → AsRead s at = λ at. length_floats N_COEFF (drop at s) in
    rw (n 8, n 371, n 734, n 1097)

-- and Field's own checks of the lists have no more to ask, where k are the entries of a degree
pub field_alone : (k : ℕ) → k ≡ entries (degree_of k) → (s : List ℕ) → lists_verdict (list_of k 1 s) (list_of k 2 s) (list_of k 3 s) (list_of k 4 s) ≡ set_verdict (set_of k s).lists
unfolding lists_verdict
field_alone k d s = rw (long_pass (list_of k 1 s) (list_of k 2 s) (list_of k 3 s) (list_of k 4 s) each)
  where
    n : (i : ℕ) → length (list_of k i s) ≡ k
    n i = length_floats k (drop (content_at k i) s)

    each : Long (list_of k 1 s) (list_of k 2 s) (list_of k 3 s) (list_of k 4 s)
    each =
        record {
          g_long = n 1 ∙ d ∙ ap (λ (j : ℕ). entries (degree_of j)) (sym (n 1));
          h_long = n 2 ∙ sym (n 1);
          gd_long = n 3 ∙ sym (n 1);
          hd_long = n 4 ∙ sym (n 1);
        }

-- ---- reading lists of k entries
-- the four lists, from their places
pub lists_taken : (k : ℕ) (s : List ℕ) (g h gd hd : List Float) → g ≡ floats_in k (drop 8 s) → h ≡ floats_in k (drop (8 + (3 + 4 * k)) s)
    → gd ≡ floats_in k (drop (8 + 2 * (3 + 4 * k)) s) → hd ≡ floats_in k (drop (8 + 3 * (3 + 4 * k)) s) → lists_of g h gd hd ≡ (set_of k s).lists
lists_taken k s g h gd hd a b c d =
    let p2 : 8 + (3 + 4 * k) ≡ content_at k 2 = omega arith in
    let p3 : 8 + 2 * (3 + 4 * k) ≡ content_at k 3 = omega arith in
    let p4 : 8 + 3 * (3 + 4 * k) ≡ content_at k 4 = omega arith in
    λ i. lists_of (a i) ((b ∙ there p2) i) ((c ∙ there p3) i) ((d ∙ there p4) i)
  where
    there : {p q : ℕ} → p ≡ q → floats_in k (drop p s) ≡ floats_in k (drop q s)
    there e = ap (λ (at : ℕ). floats_in k (drop at s)) e

module _ (k : ℕ) (s : List ℕ) (held : Lists) (v : Verdict) (f : v ≡ verdict_of k s) where
  pub refused_bytes : (r : Refusal) → v ≡ Err r → left (paper r) held ≡ afterwards (says_of k s) held
  unfolding says_of
  refused_bytes r h = rw (sym f, h)

  pub taken_bytes : v ≡ accepted → (y : ℤ) → y ≡ (set_of k s).year → (l : Lists) → l ≡ (set_of k s).lists → left (answered y) l ≡ afterwards (says_of k s) held
  unfolding says_of
  taken_bytes h y i l j = (λ n. left (answered (i n)) (j n)) ∙ rw (sym f, h)

  pub taken_long : v ≡ accepted → length s ≡ stored_length k
  unfolding verdict_of
  taken_long h = frame_long k s (frame_of k s) refl (both_accepted (frame_of k s) (set_verdict (set_of k s).lists) (sym f ∙ h)).0

module _ (s : List ℕ) (held : Lists) (b : Bool) (e : b ≡ long held.g held.h held.g_dot held.h_dot) where
  pub not_ninety : not b ≡ true → left (paper Length) held ≡ read_of s held
  not_ninety n = rw (sym e, not-true b n)

  pub ninety : not b ≡ false → afterwards (says_of N_COEFF s) held ≡ read_of s held
  unfolding stored_says
  ninety n = rw (sym e, not-false b n)

-- ---- reading lists of either length
-- the entries of a stored list
pub early_end : (s : List ℕ) → length s < 8 → N_COEFF ≡ entries_in s
unfolding entries_in
early_end s h = rw (lt-leb 8 (length s) h)

module _ (s : List ℕ) (h : 8 ≤ length s) (v : ℕ) (e : v ≡ number (take 2 (drop 6 s))) where
  pub longer_list : v ≡ list_length LONGER → LONGER ≡ entries_in s
  unfolding entries_in
  longer_list f = rw (le-leb 8 (length s) h, sym e, eq-eqb v (list_length LONGER) f)

  pub other_list : (v ≡ list_length LONGER → ⊥) → N_COEFF ≡ entries_in s
  unfolding entries_in
  other_list f = rw (le-leb 8 (length s) h, sym e, ne_eqb v (list_length LONGER) f)

-- the form, and the degree of lists with n entries
module _ (n : ℕ) (s : List ℕ) (m : ℕ) (e : m ≡ entries_in s) (v : Verdict) (f : v ≡ frame_of m s) where
  pub form_bad : (r : Refusal) → v ≡ Err r → Err r ≡ form_verdict n s
  unfolding form_verdict
  form_bad r h = rw (sym e, sym f, h)

  pub other_degree : v ≡ accepted → (n ≡ m → ⊥) → Err Degree ≡ form_verdict n s
  unfolding form_verdict
  other_degree h d = rw (sym e, sym f, h, ne_eqb n m d)

  pub form_good : v ≡ accepted → n ≡ m → accepted ≡ form_verdict n s
  unfolding form_verdict
  form_good h d = rw (sym e, sym f, h, eq-eqb n m d)

-- what a form without fault says: the fields have none, and the stored lists have n entries
pub form_found : (n : ℕ) (s : List ℕ) → form_verdict n s ≡ accepted → (frame_of (entries_in s) s ≡ accepted) × (n ≡ entries_in s)
unfolding form_verdict
form_found n s e =
    let u = both_accepted (frame_of (entries_in s) s) _ e in
    (u.0, eqb-true n (entries_in s) (check_accepted (eqb n (entries_in s)) Degree accepted u.1).0)

module _ (s : List ℕ) (held : Lists) (u : Verdict) (e : u ≡ lengths_verdict held.g held.h held.g_dot held.h_dot) where
  pub bad_output : (r : Refusal) → u ≡ Err r → left (paper r) held ≡ read_either_of s held
  unfolding either_verdict
  bad_output r h = rw (sym e, h)

  module _ (a : u ≡ accepted) (v : Verdict) (f : v ≡ form_verdict (length held.g) s) where
    pub bad_form : (r : Refusal) → v ≡ Err r → left (paper r) held ≡ read_either_of s held
    unfolding either_verdict
    bad_form r h = rw (sym e, a, sym f, h)

    -- then the reader of that length goes on
    pub either_on : v ≡ accepted → (n : ℕ) → length held.g ≡ n → afterwards (says_of n s) held ≡ read_either_of s held
    unfolding either_verdict says_of verdict_of
    either_on h n l =
        let found = form_found (length held.g) s (sym f ∙ h) in
        ap (λ (m : ℕ). afterwards (says_of m s) held) (sym l ∙ found.1)
        ∙ rw (found.0, sym e, a, sym f, h)

pub two_lengths : (k : ℕ) → k ≡ entries (degree_of k) → (k ≡ N_COEFF → ⊥) → k ≡ LONGER
unfolding degree_of
two_lengths k d n = go (eqb k (entries N_MAX)) refl d
  where
    go : (b : Bool) → eqb k (entries N_MAX) ≡ b → k ≡ entries (cond b N_MAX WMM_MAX) → k ≡ LONGER
    go true s t = t
    go false s t = absurd (n t)

-- the lengths of lists that nothing is refused of: one of two, and each the same
module _ (l : Lists) (e : lengths_verdict l.g l.h l.g_dot l.h_dot ≡ accepted) where
  pub each_alike : (n : ℕ) → length l.g ≡ n → Each n l
  each_alike n h = let w = lengths_long l.g l.h l.g_dot l.h_dot e in (h, w.h_long ∙ h, w.gd_long ∙ h, w.hd_long ∙ h)

  pub a_degree : length l.g ≡ entries (degree_of (length l.g))
  a_degree = (lengths_long l.g l.h l.g_dot l.h_dot e).g_long

  pub longer : (n : ℕ) → length l.g ≡ n → (n ≡ N_COEFF → ⊥) → n ≡ LONGER
  longer n h d = sym h ∙ two_lengths (length l.g) a_degree (λ q. d (sym h ∙ q))

pub at_most : (k : ℕ) → k ≡ entries (degree_of k) → k ≤ LONGER
unfolding degree_of
at_most k d = go (eqb k (entries N_MAX)) d
  where
    go : (b : Bool) → k ≡ entries (cond b N_MAX WMM_MAX) → k ≤ LONGER
    go true t = omega (arith, t)
    go false t = omega (arith, t)

-- bytes without fault in a form are bytes of that form
pub form_of : (k : ℕ) → k ≡ entries (degree_of k) → (s : List ℕ) → frame_of k s ≡ accepted → k ≡ entries_in s
unfolding degree_of fields_verdict
form_of k d s e =
    let u = both_accepted (field_verdict 1 YEAR 0 s) _ e in
    let f = both_accepted (field_verdict 2 (list_length k) 5 s) _ u.1 in
    go (field_of_lem 2 (list_length k) 5 s f.0) (eqb k (entries N_MAX)) d
  where
    go : Field 2 (list_length k) 5 s → (b : Bool) → k ≡ entries (cond b N_MAX WMM_MAX) → k ≡ entries_in s
    go f true t =
        let r = f.reaches in
        t ∙ longer_list s (omega (arith, r)) _ refl (f.measured ∙ ap list_length t)
    go f false t =
        let r = f.reaches in
        let m = f.measured in
        t ∙ other_list s (omega (arith, r)) _ refl (λ q. omega (arith, m, q, t))
