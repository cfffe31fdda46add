-- There and back, over all sets and all bytes: `written_reads_back` and `read_writes_back`, and the same of lists of either length; and `read_passes`. Assumes nothing.
use mathlib.Core.Path.{◌≡◌, refl, sym, ap, subst, ◌∙◌}
use mathlib.Core.Bool.{Bool, true, false, ◌&&◌}
use mathlib.Core.List.{List, [], ◌∷◌, ◌++◌}
use Prim.Native.Nat.{ℕ, suc, ◌+◌, ◌^◌, ◌≤◌, ◌<◌}
use native.Mathlib.Omega.{arith}
use borrow.Author.Tests.{le-leb, leb-true}
use lib.Dec.{T, leb, lit≤}
use lib.IntN.{ℤ, pos, negsuc, nat_abs}
use lib.Ieee.{Float}
use lib.Ieee.Bits.{is_true}
use lib.Ieee.Fits.{and_l}
use lib.ListN.{length, take, drop, length-drop}
use lib.Pow.{are_bytes}
use lib.Seq.{length-take-le, take_at}
use Rattle.exact.specs.Tests.{all_capped}
use Rattle.std.specs.Prelude.{Ok, Err}
use Rattle.refusals.specs.Paper.{Verdict, accepted, answered, paper, unless, told, both}
use Rattle.refusals.specs.declared.Refusal.TheVariants.{Length, NoRoom}
use Rattle.refusals.proofs.Laws.{told_answered, answered_one, both_accepted, check_accepted, no_answer}
use Rattle.tables.specs.Degree.{N_COEFF, degree_of, entries}
use Rattle.tables.proofs.Degrees.{of_short}
use Rattle.lists.specs.Lists.{caps_verdict, lengths_verdict, lists_verdict, long, ninety_verdict, main_cap, rate_cap}
use Rattle.lists.specs.Sets.{Lists, ModelSet, afterwards, left, lists_of, set_verdict}
use Rattle.lists.proofs.Checked.{each_long, holds, listed}
use Rattle.stored.specs.Layout.{HEAD, LONGER, STORED, YEAR, bytes_of, content_at, contents_of, fields_of, floats_in, list_length, low_first, number, stored_length}
use Rattle.stored.specs.Stored.{Each, either_verdict, entries_in, fields_verdict, form_verdict, frame_of, list_of, read_either_of, read_of, room_verdict, says_of, set_of, storable, stored_of, stored_says, verdict_of, write_either_of, write_either_verdict, write_of, write_verdict, written, wrote, year_in}
use Rattle.stored.proofs.Bytes.{bytes_drop, bytes_take, length_low, low_back, number_back, number_small}
use Rattle.stored.proofs.Floats.{all_fit, bytes_back, floats_back, length_floats, list_long}
use Rattle.stored.proofs.Frame.{Short, content_here, fields_joined, fields_taken, next_field, parts}
use Rattle.stored.proofs.Answers.{a_degree, at_most, caps_alone, each_alike, either_on, field_alone, form_found, form_good, form_of, frame_long}
use Rattle.stored.proofs.Writing.{as_laid_out, stored_long}

-- ---- a set that is written, with k entries in each list
-- each entry of the four lists is an f32
pub SetFits : Lists → Type 0
SetFits l = T (all_fit l.g) × T (all_fit l.h) × T (all_fit l.g_dot) × T (all_fit l.h_dot)

-- a list whose field stands at a place is read back from there
list_back : (k : ℕ) (s : List ℕ) (tag at : ℕ) (x : List Float) (cs : List (List ℕ)) → length x ≡ k → T (all_fit x) → drop at s ≡ fields_of tag (bytes_of x ∷ cs)
    → (p : ℕ) → p ≡ at + HEAD → floats_in k (drop p s) ≡ x
list_back k s tag at x cs n f e p q =
    ap (λ (m : ℕ). floats_in k (drop m s)) q
    ∙ ap (floats_in k) (content_here s tag at (bytes_of x) cs e)
    ∙ ap (λ (j : ℕ). floats_in j (bytes_of x ++ fields_of (suc tag) cs)) (sym n)
    ∙ floats_back x (fields_of (suc tag) cs) f

module _ (k : ℕ) (most : k ≤ LONGER) (y : ℕ) (small : y < 65536) (l : Lists) (n : Each k l) where
  set_back : SetFits l → set_of k (stored_of y l) ≡ record { year = pos y; lists = l }
  unfolding SetFits
  set_back f =
      let s = stored_of y l in
      let p3 = 5 + HEAD + list_length k in
      let p4 = p3 + HEAD + list_length k in
      let p5 = p4 + HEAD + list_length k in
      let at_g = next_field s 1 0 (low_first YEAR y) _ refl YEAR (length_low YEAR y) in
      let at-h = next_field s 2 5 (bytes_of l.g) _ at_g (list_length k) (list_long k l.g n.0) in
      let at-gd = next_field s 3 p3 (bytes_of l.h) _ at-h (list_length k) (list_long k l.h n.1) in
      let at-hd = next_field s 4 p4 (bytes_of l.g_dot) _ at-gd (list_length k) (list_long k l.g_dot n.2) in
      let year = ap (λ (r : List ℕ). number (take YEAR r)) (content_here s 1 0 (low_first YEAR y) _ refl) ∙ low_back YEAR y small in
      let g = list_back k s 2 5 l.g _ n.0 f.0 at_g (content_at k 1) refl in
      let h = list_back k s 3 p3 l.h _ n.1 f.1 at-h (content_at k 2) (omega arith) in
      let gd = list_back k s 4 p4 l.g_dot _ n.2 f.2 at-gd (content_at k 3) (omega arith) in
      let hd = list_back k s 5 p5 l.h_dot [] n.3 f.3 at-hd (content_at k 4) (omega arith) in
      λ i. record { year = pos (year i); lists = lists_of (g i) (h i) (gd i) (hd i) }

  frame_good : frame_of k (stored_of y l) ≡ accepted
  unfolding Short
  frame_good =
      let cs = low_first YEAR y ∷ bytes_of l.g ∷ bytes_of l.h ∷ bytes_of l.g_dot ∷ bytes_of l.h_dot ∷ [] in
      ap (λ (ns : List ℕ). fields_verdict ns 1 0 (stored_of y l)) (sym (as_laid_out k y l [] n)) ∙ fields_taken cs 1 [] short
    where
      short : Short (low_first YEAR y ∷ bytes_of l.g ∷ bytes_of l.h ∷ bytes_of l.g_dot ∷ bytes_of l.h_dot ∷ [])
      short =
          let a = list_long k l.g n.0 in
          let b = list_long k l.h n.1 in
          let c = list_long k l.g_dot n.2 in
          let d = list_long k l.h_dot n.3 in
          (omega (arith, length_low YEAR y), (omega (arith, a, most), (omega (arith, b, most), (omega (arith, c, most), (omega (arith, d, most), tt)))))

  stored_read : SetFits l → set_verdict l ≡ accepted → says_of k (stored_of y l) ≡ answered (record { year = pos y; lists = l })
  unfolding says_of verdict_of
  stored_read f c =
      ap (λ (v : Verdict). told (both v (set_verdict (set_of k (stored_of y l)).lists)) (answered (set_of k (stored_of y l)))) frame_good
      ∙ ap (λ (m : ModelSet). told (set_verdict m.lists) (answered m)) (set_back f)
      ∙ ap (λ (v : Verdict). told v (answered (record { year = pos y; lists = l }))) c

-- a year that can be stored, as a natural number
storable_small : (z : ℤ) → storable z ≡ true → (pos (nat_abs z) ≡ z) × (nat_abs z < 65536)
storable_small (pos y) e = (refl, let h = leb-true y 65535 e in omega (arith, h))
storable_small (negsuc y) e = absurd (subst T (sym e) tt)

-- what a write that refuses nothing found: q, of the lists, and the year's test
found : (k : ℕ) (year : ℤ) (room : ℕ) (q : Verdict) → both q (room_verdict k year room) ≡ accepted → (q ≡ accepted) × (storable year ≡ true)
found k year room q e =
    let u = both_accepted q _ e in
    let t = holds (check_accepted (storable year && leb (stored_length k) room) NoRoom accepted u.1).0 in
    (u.0, is_true (storable year) (and_l (storable year) (leb (stored_length k) room) t))

accepted_wrote : (n : ℕ) (v : Verdict) (b held : List ℕ) → (wrote n v b held).found ≡ accepted → v ≡ accepted
accepted_wrote n (Ok _) b held e = refl
accepted_wrote n (Err k) b held e = e

module _ (k : ℕ) (most : k ≤ LONGER) (year : ℤ) (l : Lists) (n : Each k l) (st : storable year ≡ true) where
  -- what is written begins with the bytes of the set
  first_bytes : (held : List ℕ) (v : Verdict) → v ≡ accepted → take (stored_length k) (wrote (stored_length k) v (stored_of (nat_abs year) l) held).bytes ≡ stored_of (nat_abs year) l
  first_bytes held v a =
      let s = stored_of (nat_abs year) l in
      ap (λ (w : Verdict). take (stored_length k) (wrote (stored_length k) w s held).bytes) a
      ∙ take_at s (drop (stored_length k) held) (stored_length k) (stored_long k (nat_abs year) l held n)

  -- and these say the set
  same_set : (into : Lists) → SetFits l → set_verdict l ≡ accepted → afterwards (says_of k (stored_of (nat_abs year) l)) into ≡ left (answered year) l
  same_set into f c =
      let y = storable_small year st in
      rw (stored_read k most (nat_abs year) y.1 l n f c)
      (ap (λ (z : ℤ). left (answered z) l) y.0)

-- a set that is written reads back to the same bits, whatever the output held and whatever the lists hold that it is read into
pub written_reads_back : (year : ℤ) (l : Lists) (held : List ℕ) (into : Lists) → SetFits l → long into.g into.h into.g_dot into.h_dot ≡ true
    → (write_of year l held).found ≡ accepted → read_of (take STORED (write_of year l held).bytes) into ≡ left (answered year) l
unfolding ninety_verdict write_verdict stored_says
written_reads_back year l held into f long_enough e =
    let a = accepted_wrote STORED (write_verdict year l (length held)) (stored_of (nat_abs year) l) held e in
    let u = found N_COEFF year (length held) (ninety_verdict l.g l.h l.g_dot l.h_dot) a in
    let c = check_accepted (long l.g l.h l.g_dot l.h_dot) Length (caps_verdict l.g l.h l.g_dot l.h_dot) u.0 in
    let n = each_long l.g l.h l.g_dot l.h_dot c.0 in
    ap (λ (r : List ℕ). read_of r into) (first_bytes N_COEFF (lit≤ tt) year l n u.1 held (write_verdict year l (length held)) a)
    ∙ rw long_enough
    (same_set N_COEFF (lit≤ tt) year l n u.1 into f c.1)

-- the same for lists of either length, read into lists as long
pub either_reads_back : (year : ℤ) (l : Lists) (held : List ℕ) (into : Lists) → SetFits l → lengths_verdict into.g into.h into.g_dot into.h_dot ≡ accepted
    → length into.g ≡ length l.g → (write_either_of year l held).found ≡ accepted
    → read_either_of (take (stored_length (length l.g)) (write_either_of year l held).bytes) into ≡ left (answered year) l
unfolding lists_verdict write_either_verdict
either_reads_back year l held into f i same e =
    let k = length l.g in
    let s = stored_of (nat_abs year) l in
    let a = accepted_wrote (stored_length k) (write_either_verdict year l (length held)) s held e in
    let u = found k year (length held) (lists_verdict l.g l.h l.g_dot l.h_dot) a in
    let c = both_accepted (lengths_verdict l.g l.h l.g_dot l.h_dot) (set_verdict l) u.0 in
    let d = a_degree l c.0 in
    let n = each_alike l c.0 k refl in
    let most = at_most k d in
    let frame = frame_good k most (nat_abs year) (storable_small year u.1).1 l n in
    let form = form_good (length into.g) s k (form_of k d s frame) (frame_of k s) refl frame same in
    ap (λ (r : List ℕ). read_either_of r into) (first_bytes k most year l n u.1 held (write_either_verdict year l (length held)) a)
    ∙ sym (either_on s into _ refl i _ refl (sym form) k same)
    ∙ same_set k most year l n u.1 into f c.1

-- ---- bytes that are read
-- a read that refuses nothing: the checks passed, and the set is what stands in the bytes
answer_told : (v : Verdict) (m : ModelSet) (into : Lists) (y : ℤ) → (afterwards (told v (answered m)) into).says ≡ answered y
    → (v ≡ accepted) × (m.year ≡ y) × ((afterwards (told v (answered m)) into).lists ≡ m.lists)
answer_told (Err k) m into y e = absurd (no_answer k y e)
answer_told (Ok _) m into y e = (refl, answered_one m.year y e, refl)

answer_read : (b : Bool) (v : Verdict) (m : ModelSet) (into : Lists) (y : ℤ) → (afterwards (unless b (paper Length) (told v (answered m))) into).says ≡ answered y
    → (v ≡ accepted) × (m.year ≡ y) × ((afterwards (unless b (paper Length) (told v (answered m))) into).lists ≡ m.lists)
answer_read false v m into y e = absurd (no_answer Length y e)
answer_read true v m into y e = answer_told v m into y e

module _ (k : ℕ) (d : k ≡ entries (degree_of k)) (s : List ℕ) (t : T (are_bytes s)) (v : verdict_of k s ≡ accepted) where
  framed : frame_of k s ≡ accepted
  unfolding verdict_of
  framed = (both_accepted (frame_of k s) (set_verdict (set_of k s).lists) v).0

  in_caps : set_verdict (set_of k s).lists ≡ accepted
  unfolding verdict_of
  in_caps = (both_accepted (frame_of k s) (set_verdict (set_of k s).lists) v).1

  as_long : length s ≡ stored_length k
  as_long = frame_long k s (frame_of k s) refl framed

  year_bytes : low_first YEAR (year_in s) ≡ take YEAR (drop 3 s)
  year_bytes =
      let two : length (take YEAR (drop 3 s)) ≡ YEAR = length-take-le YEAR (drop 3 s) (omega (arith, as_long, length-drop 3 s)) in
      ap (λ (j : ℕ). low_first j (year_in s)) (sym two) ∙ number_back (take YEAR (drop 3 s)) (bytes_take YEAR (drop 3 s) (bytes_drop 3 s t))

  year_small : year_in s < 65536
  year_small =
      let two : length (take YEAR (drop 3 s)) ≡ YEAR = length-take-le YEAR (drop 3 s) (omega (arith, as_long, length-drop 3 s)) in
      subst (λ (j : ℕ). year_in s < 256 ^ j) two (number_small (take YEAR (drop 3 s)) (bytes_take YEAR (drop 3 s) (bytes_drop 3 s t)))

  -- a list whose content begins at a place, which is also written as p
  list_bytes : (cap : Float) (at p : ℕ) → at ≡ p → at + list_length k ≤ stored_length k → T (all_capped cap (floats_in k (drop at s))) → bytes_of (floats_in k (drop at s)) ≡ take (list_length k) (drop p s)
  list_bytes cap at p e h c =
      bytes_back cap k (drop at s) (bytes_drop at s t) (omega (arith, h, as_long, length-drop at s)) c
      ∙ ap (λ (m : ℕ). take (list_length k) (drop m s)) e

  same_bytes : stored_of (year_in s) (set_of k s).lists ≡ s
  unfolding parts
  same_bytes =
      let c = listed (list_of k 1 s) (list_of k 2 s) (list_of k 3 s) (list_of k 4 s) (field_alone k d s ∙ in_caps) in
      let p3 = 5 + HEAD + list_length k in
      let p4 = p3 + HEAD + list_length k in
      let p5 = p4 + HEAD + list_length k in
      let g = list_bytes main_cap (content_at k 1) 8 refl (omega arith) c.g_capped in
      let h = list_bytes main_cap (content_at k 2) (p3 + HEAD) (omega arith) (omega arith) c.h_capped in
      let gd = list_bytes rate_cap (content_at k 3) (p4 + HEAD) (omega arith) (omega arith) c.gd_capped in
      let hd = list_bytes rate_cap (content_at k 4) (p5 + HEAD) (omega arith) (omega arith) c.hd_capped in
      (λ i. fields_of 1 (year_bytes i ∷ g i ∷ h i ∷ gd i ∷ hd i ∷ [])) ∙ fields_joined (contents_of k) 1 0 s t framed

  -- the set goes back to these bytes, where q is what was asked of its lists
  wrote_again : (held : List ℕ) → stored_length k ≤ length held → (q : Verdict) → q ≡ accepted
      → wrote (stored_length k) (both q (room_verdict k (pos (year_in s)) (length held))) (stored_of (year_in s) (set_of k s).lists) held ≡ written accepted (s ++ drop (stored_length k) held)
  wrote_again held h q e =
      rw (e, le-leb (year_in s) 65535 (omega (arith, year_small)), le-leb (stored_length k) (length held) h)
      (ap (λ (b : List ℕ). written accepted (b ++ drop (stored_length k) held)) same_bytes)

-- bytes that are read write back to the same bytes, whatever the lists held and whatever follows in the output
pub read_writes_back : (s : List ℕ) (into : Lists) (y : ℤ) (held : List ℕ) → T (are_bytes s) → (read_of s into).says ≡ answered y → STORED ≤ length held
    → write_of y (read_of s into).lists held ≡ written accepted (s ++ drop STORED held)
unfolding stored_says write_verdict
read_writes_back s into y held t e h =
    let u = answer_read (long into.g into.h into.g_dot into.h_dot) (verdict_of N_COEFF s) (set_of N_COEFF s) into y e in
    let v = u.0 in
    let d = of_short N_COEFF refl in
    ap (λ (z : ℤ). write_of z (read_of s into).lists held) (sym u.1)
    ∙ ap (λ (l : Lists). write_of (pos (year_in s)) l held) u.2
    ∙ wrote_again N_COEFF d s t v held h _ (caps_alone s ∙ in_caps N_COEFF d s t v)

-- what an answer of the reader of either form says: the form of the lists it read into, without fault
module _ (s : List ℕ) (into : Lists) (y : ℤ) (e : (read_either_of s into).says ≡ answered y) where
  either_answer : (either_verdict s into ≡ accepted) × (pos (year_in s) ≡ y) × ((read_either_of s into).lists ≡ (set_of (entries_in s) s).lists)
  either_answer = answer_told (either_verdict s into) (set_of (entries_in s) s) into y e

  either_found : (entries_in s ≡ entries (degree_of (entries_in s))) × (verdict_of (entries_in s) s ≡ accepted)
  unfolding either_verdict verdict_of
  either_found =
      let u = both_accepted (lengths_verdict into.g into.h into.g_dot into.h_dot) _ either_answer.0 in
      let w = both_accepted (form_verdict (length into.g) s) (set_verdict (set_of (entries_in s) s).lists) u.1 in
      let f = form_found (length into.g) s w.0 in
      (subst (λ (j : ℕ). j ≡ entries (degree_of j)) f.1 (a_degree into u.0), rw f.0 w.1)

  -- in a set that is read Field's own 6, 23 and 7 find nothing
  either_good : lists_verdict (list_of (entries_in s) 1 s) (list_of (entries_in s) 2 s) (list_of (entries_in s) 3 s) (list_of (entries_in s) 4 s) ≡ accepted
  unfolding verdict_of
  either_good = field_alone (entries_in s) either_found.0 s ∙ (both_accepted (frame_of (entries_in s) s) (set_verdict (set_of (entries_in s) s).lists) either_found.1).1

  pub either_passes : (let l = (read_either_of s into).lists in lists_verdict l.g l.h l.g_dot l.h_dot ≡ accepted)
  either_passes = ap (λ (l : Lists). lists_verdict l.g l.h l.g_dot l.h_dot) either_answer.2 ∙ either_good

  -- and it writes back to the same bytes
  pub either_writes_back : (held : List ℕ) → T (are_bytes s) → stored_length (entries_in s) ≤ length held
      → write_either_of y (read_either_of s into).lists held ≡ written accepted (s ++ drop (stored_length (entries_in s)) held)
  unfolding write_either_verdict
  either_writes_back held t h =
      let k = entries_in s in
      let l = (set_of k s).lists in
      let n : length l.g ≡ k = length_floats k (drop (content_at k 1) s) in
      ap (λ (z : ℤ). write_either_of z (read_either_of s into).lists held) (sym either_answer.1)
      ∙ ap (λ (m : Lists). write_either_of (pos (year_in s)) m held) either_answer.2
      ∙ ap (λ (j : ℕ). wrote (stored_length j) (both (lists_verdict l.g l.h l.g_dot l.h_dot) (room_verdict j (pos (year_in s)) (length held))) (stored_of (year_in s) l) held) n
      ∙ wrote_again k either_found.0 s t either_found.1 held h _ either_good

-- the same of the reader of lists of 90: so behind the bytes' refusals stand Field's 1 to 5 and 8 alone
pub read_passes : (s : List ℕ) (m : ModelSet) → stored_says s ≡ answered m → lists_verdict m.lists.g m.lists.h m.lists.g_dot m.lists.h_dot ≡ accepted
unfolding stored_says verdict_of
read_passes s m e =
    let u = told_answered (verdict_of N_COEFF s) (answered (set_of N_COEFF s)) m e in
    let same : set_of N_COEFF s ≡ m = answered_one (set_of N_COEFF s) m u.1 in
    sym (ap (λ (j : ModelSet). lists_verdict j.lists.g j.lists.h j.lists.g_dot j.lists.h_dot) same)
    ∙ field_alone N_COEFF (of_short N_COEFF refl) s
    ∙ (both_accepted (frame_of N_COEFF s) (set_verdict (set_of N_COEFF s).lists) u.0).1
