-- More ways to an answer: a line of nines byte by byte; two tests, one after another; words two by two; words and lines by places; and what the call puts. Assumes nothing.
use mathlib.Core.Path.{◌≡◌, refl, sym, ap, subst, ◌∙◌}
use mathlib.Core.Bool.{Bool, true, false, not, ◌&&◌, ◌||◌}
use mathlib.Core.List.{List, ◌∷◌, ◌++◌, append-nil}
use Prim.Native.Nat.{ℕ, ◌+◌, ◌-◌, ◌<◌, ◌≤◌}
use native.Mathlib.Nat.{add-sub_cancel_left}
use native.Mathlib.Numerals.{add-one}
use native.Mathlib.Omega.{arith}
use borrow.Author.Tests.{eq-eqb, eqb-true, eqb-false, ne_eqb, not-true, not-false}
use lib.Dec.{eqb}
use lib.IntN.{ℤ}
use lib.ListN.{length, get_or, take, drop, drop_of_length-le}
use lib.Seq.{drop-cons, drop-drop, take_all}
use lib.Ieee.{Float}
use Rattle.std.specs.Prelude.{Some, None, Result, Ok, Err}
use Rattle.refusals.specs.Paper.{Paper, Verdict, answered, refused, paper, after, said, told}
use Rattle.refusals.specs.declared.Refusal.{Refusal}
use Rattle.refusals.proofs.Laws.{no_refusal}
use Rattle.tables.specs.Degree.{N_COEFF}
use Rattle.lists.specs.Lists.{long}
use Rattle.lists.specs.Sets.{Lists, ModelSet, Ninety, afterwards, left, lists_of, set_verdict}
use Rattle.text.specs.Bytes.{blank}
use Rattle.text.specs.Decimals.{number_of, whole_of}
use Rattle.text.specs.Reading.{two_words}
use Rattle.text.specs.Lines.{LinePlaces, first_line, lines}
use Rattle.text.specs.Words.{WordPlaces, first_word, words}
use Rattle.text.proofs.Firsts.{lines_first, no_word, some_word}
use Rattle.agency.specs.Code.{Filled, WordFrom}
use Rattle.agency.specs.Cof.{cof_says, file_says, read_of}
use Rattle.agency.specs.Entries.{NINE, entry_of, none, only_nines, some_nine}
use Rattle.agency.proofs.Call.{put_in}
use Rattle.agency.proofs.Taken.{left_of, own_line, some}

-- ---- a line of nines
module _ (s : List ℕ) (i : ℕ) where
  pub only_end : length s ≤ i → only_nines s ≡ only_nines (drop i s) → true ≡ only_nines s
  only_end h e = sym (e ∙ rw (drop_of_length-le s {i = i} h))

  pub some_end : length s ≤ i → some_nine s ≡ some_nine (drop i s) → false ≡ some_nine s
  some_end h e = sym (e ∙ rw (drop_of_length-le s {i = i} h))

  module _ (h : i < length s) where
    only_at : only_nines (drop i s) ≡ (eqb (get_or s i 0) NINE || blank (get_or s i 0)) && only_nines (drop (i + 1) s)
    only_at = rw (add-one, drop-cons s i 0 h)

    some_at : some_nine (drop i s) ≡ eqb (get_or s i 0) NINE || some_nine (drop (i + 1) s)
    some_at = rw (add-one, drop-cons s i 0 h)

    module _ (e : only_nines s ≡ only_nines (drop i s)) (b : Bool) (k : b ≡ eqb (get_or s i 0) NINE || blank (get_or s i 0)) where
      pub only_bad : not b ≡ true → false ≡ only_nines s
      only_bad n = sym (e ∙ only_at ∙ ap (λ (t : Bool). t && only_nines (drop (i + 1) s)) (sym k ∙ not-true b n))

      pub only_on : not b ≡ false → only_nines s ≡ only_nines (drop (i + 1) s)
      only_on n = e ∙ only_at ∙ ap (λ (t : Bool). t && only_nines (drop (i + 1) s)) (sym k ∙ not-false b n)

    module _ (e : some_nine s ≡ some_nine (drop i s)) where
      pub some_here : get_or s i 0 ≡ NINE → true ≡ some_nine s
      some_here n = sym (e ∙ some_at ∙ rw (eq-eqb (get_or s i 0) NINE n))

      pub some_on : (get_or s i 0 ≡ NINE → ⊥) → some_nine s ≡ some_nine (drop (i + 1) s)
      some_on n = e ∙ some_at ∙ rw (ne_eqb (get_or s i 0) NINE n)

-- ---- two tests: r is the first one's result, q the second's
module _ (a b r : Bool) (e : r ≡ a) where
  pub first_fails : not r ≡ true → false ≡ a && b
  first_fails n = rw (sym e, not-true r n)

  pub second_decides : not r ≡ false → (q : Bool) → q ≡ b → q ≡ a && b
  second_decides n q f = f ∙ rw (sym e, not-false r n)

-- ---- a coefficient line's words, two by two
module _ (ws : List (List ℕ)) where
  module _ (n m : ℤ) (vs : List (List ℕ)) (e : two_words whole_of ws ≡ Some ((n, m), vs)) where
    module _ (g h : Float) (us : List (List ℕ)) (f : two_words number_of vs ≡ Some ((g, h), us)) where
      module _ (g_dot h_dot : Float) (ts : List (List ℕ)) (k : two_words number_of us ≡ Some ((g_dot, h_dot), ts)) (b : Bool) (l : b ≡ none ts) where
        pub too_many : not b ≡ true → None ≡ entry_of ws
        unfolding entry_of
        too_many t = rw (e, f, k, sym l, not-true b t)

        pub good_entry : not b ≡ false → Some (record { degree = n; order = m; g = g; h = h; g_dot = g_dot; h_dot = h_dot }) ≡ entry_of ws
        unfolding entry_of
        good_entry t = rw (e, f, k, sym l, not-false b t)

-- ---- by places
eqb_same : (a b c d : ℕ) → (a ≡ b → c ≡ d) → (c ≡ d → a ≡ b) → eqb a b ≡ eqb c d
eqb_same a b c d f g = go (eqb a b) refl
  where
    go : (t : Bool) → eqb a b ≡ t → eqb a b ≡ eqb c d
    go true e = e ∙ sym (eq-eqb c d (f (eqb-true a b e)))
    go false e = e ∙ sym (ne_eqb c d (λ k. eqb-false a b e (g k)))

none_of : (s : List ℕ) → eqb (first_word s).start (length s) ≡ none (words s)
none_of s = go (eqb (first_word s).start (length s)) refl
  where
    go : (t : Bool) → eqb (first_word s).start (length s) ≡ t → eqb (first_word s).start (length s) ≡ none (words s)
    go true e = e ∙ sym (ap none (no_word s (eqb-true (first_word s).start (length s) e)))
    go false e = e ∙ sym (ap none (some_word s (eqb-false (first_word s).start (length s) e)))

-- no word is left from a place on
pub none_left : (s : List ℕ) (from : ℕ) (w : WordPlaces) → from ≤ length s → WordFrom s from w → eqb w.start (length s) ≡ none (words (drop from s))
none_left s from w h e = same_test ∙ none_of (drop from s)
  where
    same_test : eqb w.start (length s) ≡ eqb (first_word (drop from s)).start (length (drop from s))
    same_test = eqb_same w.start (length s) (first_word (drop from s)).start (length (drop from s)) (λ k. omega (arith, k, e.0, left_of s from h)) (λ k. omega (arith, k, e.0, left_of s from h))

-- a line of a text
module _ (s : List ℕ) (at : ℕ) (h : at < length s) (l : LinePlaces) (e : l ≡ first_line (take (length s - at) (drop at s))) where
  pub line_first : lines (drop at s) ≡ take (at + l.end - at) (drop at s) ∷ lines (drop (at + l.next) s)
  line_first =
      lines_first (drop at s) (some s at h l e)
      ∙ ap (λ (v : LinePlaces). take v.end (drop at s) ∷ lines (drop v.next (drop at s))) (sym (own_line s at h l e))
      ∙ ap (λ (n : ℕ). take n (drop at s) ∷ lines (drop l.next (drop at s))) (sym (add-sub_cancel_left at l.end))
      ∙ ap (λ (t : List ℕ). take (at + l.end - at) (drop at s) ∷ lines t) (drop-drop l.next at s)

-- ---- a set over the caps
pub over_cap : (text : List ℕ) (l : Lists) (y : ℤ) → Filled (file_says (lines text)) (answered y) l → (v : Verdict) → v ≡ set_verdict l → (k : Refusal) → v ≡ Err k → Filled (cof_says text) (paper k) l
unfolding cof_says
over_cap text l y f v w k h = go (file_says (lines text)) f
  where
    go : (q : Paper ModelSet) → Filled q (answered y) l → Filled (after q (λ s. told (set_verdict s.lists) (answered s))) (paper k) l
    go (answered s) g = subst (λ (u : Verdict). Filled (told u (answered s)) (paper k) l) (sym (ap set_verdict (sym g.1) ∙ sym w ∙ h)) refl
    go (refused m f z) g = absurd (no_refusal g)

-- ---- an answer puts all
whole_list : (x y : List Float) → length x ≡ N_COEFF → length y ≡ N_COEFF → take N_COEFF y ++ drop N_COEFF x ≡ y
whole_list x y g h =
    ap (λ (r : List Float). take N_COEFF y ++ r) (drop_of_length-le x {i = N_COEFF} (omega (arith, g))) ∙ append-nil (take N_COEFF y) ∙ take_all N_COEFF y (omega (arith, h))

whole_lists : (held l : Lists) → Ninety held → Ninety l → put_in N_COEFF l held ≡ l
whole_lists held l g h =
    let a = whole_list held.g l.g g.0 h.0 in
    let b = whole_list held.h l.h g.1 h.1 in
    let c = whole_list held.g_dot l.g_dot g.2 h.2 in
    let d = whole_list held.h_dot l.h_dot g.3 h.3 in
    λ i. lists_of (a i) (b i) (c i) (d i)

module _ (text : List ℕ) (held : Lists) (e : true ≡ long held.g held.h held.g_dot held.h_dot) (l : Lists) where
  taken_file : (y : ℤ) → Filled (cof_says text) (answered y) l → left (answered y) l ≡ read_of text held
  taken_file y f = rw (← e) (sym (go (cof_says text) f))
    where
      go : (q : Paper ModelSet) → Filled q (answered y) l → afterwards q held ≡ left (answered y) l
      go (answered s) g = ap (λ (p : Paper ℤ). left p s.lists) (sym g.0) ∙ ap (left (answered y)) (sym g.1)
      go (refused m f z) g = absurd (no_refusal g)

  pub all_put : (r : Result ℤ Refusal) → Filled (cof_says text) (said r) l → (c : ℕ) → Ninety held → Ninety l → (y : ℤ) → r ≡ Ok y → c ≡ N_COEFF → left (said r) (put_in c l held) ≡ read_of text held
  all_put r f c g h y i z =
      ap (λ (n : ℕ). left (said r) (put_in n l held)) z
      ∙ ap (left (said r)) (whole_lists held l g h)
      ∙ ap (λ (a : Result ℤ Refusal). left (said a) l) i
      ∙ taken_file y (subst (λ (a : Result ℤ Refusal). Filled (cof_says text) (said a) l) i f)
