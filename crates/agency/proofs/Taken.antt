-- A line's next word, and a text's next line, as they are lent and by their places. Assumes nothing.
use mathlib.Core.Path.{◌≡◌, refl, sym, ap, subst, ◌∙◌}
use mathlib.Core.Bool.{Bool, true, false}
use mathlib.Core.List.{List, [], ◌∷◌}
use Prim.Native.Nat.{ℕ, ◌+◌, ◌-◌, ◌<◌, ◌≤◌}
use native.Mathlib.Omega.{arith}
use borrow.Author.Tests.{eqb-true, eqb-false}
use lib.Dec.{eqb}
use lib.ListN.{length, take, drop, length-drop}
use lib.Seq.{take_all, drop-drop}
use Rattle.std.specs.Prelude.{Option, Some, None, slice_range}
use Rattle.text.specs.Reading.{next_word, two_words, with_rest}
use Rattle.text.specs.Lines.{LinePlaces, first_line, lines}
use Rattle.text.specs.Words.{WordPlaces, first_word, words}
use Rattle.text.proofs.Firsts.{empty_word, lent_word, lines_first, line_end_within, line_next_within, line_takes, word_end_within, word_start_within, words_first}
use Rattle.agency.specs.Code.{WordFrom}
use Rattle.agency.specs.Entries.{none}

-- ---- w is the first word of the line s, and r is what stands after it
module _ (s w : List ℕ) (is : w ≡ slice_range s (first_word s).start (first_word s).end) where
  -- it is read as f reads it
  pub word_read : {A : Type 0} (f : List ℕ → Option A) → f [] ≡ None → (r : List ℕ) → r ≡ drop (first_word s).end s → with_rest (f w) (words r) ≡ next_word f (words s)
  word_read f e r h = rw (is, h) (sym (words_first f e s))

  -- it is empty where no word is left
  pub none_left : eqb (length w) 0 ≡ none (words s)
  none_left = go (eqb (length w) 0) refl
    where
      go : (b : Bool) → eqb (length w) 0 ≡ b → b ≡ none (words s)
      go true e = sym (ap none (empty_word s w is (eqb-true (length w) 0 e)))
      go false e = sym (ap none (lent_word s w is (eqb-false (length w) 0 e)))

-- ---- l is the first line of the text s, and r is what stands after it
module _ (s l r : List ℕ) (h : 0 < length s) (rest : r ≡ drop (first_line s).next s) where
  pub line_first : l ≡ take (first_line s).end s → lines s ≡ l ∷ lines r
  line_first e = rw (e, rest) (lines_first s h)

  pub shorter : length r < length s
  shorter = let e : length r ≡ length s - (first_line s).next = ap length rest ∙ length-drop (first_line s).next s in omega (arith, line_takes s h, line_next_within s)

-- ---- by places: what stands from a place on
pub rest_is : (s : List ℕ) (from : ℕ) → take (length s - from) (drop from s) ≡ drop from s
rest_is s from = let e : length (drop from s) ≡ length s - from = length-drop from s in take_all (length s - from) (drop from s) (omega (arith, e))

module _ (s : List ℕ) (from : ℕ) (h : from ≤ length s) where
  pub left_of : length (drop from s) + from ≡ length s
  left_of = let e : length (drop from s) ≡ length s - from = length-drop from s in omega (arith, e, h)

  module _ (w : WordPlaces) (e : w ≡ first_word (take (length s - from) (drop from s))) where
    own : w ≡ first_word (drop from s)
    own = e ∙ ap first_word (rest_is s from)

    pub word_places : WordFrom s from (record { start = from + w.start; end = from + w.end })
    word_places = (ap (λ (v : WordPlaces). from + v.start) own, ap (λ (v : WordPlaces). from + v.end) own)

    pub word_order : from + w.start ≤ from + w.end
    word_order = let k : w.start ≤ w.end = subst (λ (v : WordPlaces). v.start ≤ v.end) (sym own) (word_start_within (drop from s)) in omega (arith, k)

    pub word_within : from + w.end ≤ length s
    word_within = let k : w.end ≤ length (drop from s) = subst (λ (v : WordPlaces). v.end ≤ length (drop from s)) (sym own) (word_end_within (drop from s)) in omega (arith, k, left_of)

-- the first word from a place on, as f reads it
module _ {A : Type 0} (f : List ℕ → Option A) (none : f [] ≡ None) (s : List ℕ) (from : ℕ) (w : WordPlaces) (e : WordFrom s from w) where
  placed_read : (q : Option A) → q ≡ f (take (w.end - w.start) (drop w.start s)) → next_word f (words (drop from s)) ≡ with_rest q (words (drop w.end s))
  placed_read q k =
      let S = (first_word (drop from s)).start in
      let E = (first_word (drop from s)).end in
      let long : w.end - w.start ≡ E - S = ap (λ (a : ℕ). a - w.start) e.1 ∙ ap (λ (a : ℕ). from + E - a) e.0 ∙ same_less in
      words_first f none (drop from s)
      ∙ ap (λ (t : List ℕ). with_rest (f (take (E - S) t)) (words (drop E (drop from s)))) (drop-drop S from s ∙ ap (λ (a : ℕ). drop a s) (sym e.0))
      ∙ ap (λ (a : ℕ). with_rest (f (take a (drop w.start s))) (words (drop E (drop from s)))) (sym long)
      ∙ ap (λ (r : Option A). with_rest r (words (drop E (drop from s)))) (sym k)
      ∙ ap (λ (t : List ℕ). with_rest q (words t)) (drop-drop E from s ∙ ap (λ (a : ℕ). drop a s) (sym e.1))
    where
      same_less : from + (first_word (drop from s)).end - (from + (first_word (drop from s)).start) ≡ (first_word (drop from s)).end - (first_word (drop from s)).start
      same_less = omega arith

  pub word_good : (q : Option A) (a : A) → q ≡ f (take (w.end - w.start) (drop w.start s)) → q ≡ Some a → next_word f (words (drop from s)) ≡ Some (a, words (drop w.end s))
  word_good q a k r = placed_read q k ∙ ap (λ (p : Option A). with_rest p (words (drop w.end s))) r

  pub word_bad : (q : Option A) → q ≡ f (take (w.end - w.start) (drop w.start s)) → q ≡ None → next_word f (words (drop from s)) ≡ None
  word_bad q k r = placed_read q k ∙ ap (λ (p : Option A). with_rest p (words (drop w.end s))) r

-- two words, one after another
module _ {A : Type 0} (f : List ℕ → Option A) (ws : List (List ℕ)) where
  pub first_bad : next_word f ws ≡ None → two_words f ws ≡ None
  first_bad e = rw e

  module _ (a : A) (vs : List (List ℕ)) (e : next_word f ws ≡ Some (a, vs)) where
    pub second_bad : next_word f vs ≡ None → two_words f ws ≡ None
    second_bad k = rw (e, k)

    pub both_good : (b : A) (us : List (List ℕ)) → next_word f vs ≡ Some (b, us) → two_words f ws ≡ Some ((a, b), us)
    both_good b us k = rw (e, k)

-- ---- l is the first line from the place at on, by its own places
module _ (s : List ℕ) (at : ℕ) (h : at < length s) (l : LinePlaces) (e : l ≡ first_line (take (length s - at) (drop at s))) where
  pub some : 0 < length (drop at s)
  some = let k : length (drop at s) ≡ length s - at = length-drop at s in omega (arith, k, h)

  pub own_line : l ≡ first_line (drop at s)
  own_line = e ∙ ap first_line (rest_is s at)

  pub line_order : at < at + l.next
  line_order = let k : 0 < l.next = subst (λ (v : LinePlaces). 0 < v.next) (sym own_line) (line_takes (drop at s) some) in omega (arith, k)

  pub line_within : at + l.end ≤ length s
  line_within =
      let k : l.end ≤ length (drop at s) = subst (λ (v : LinePlaces). v.end ≤ length (drop at s)) (sym own_line) (line_end_within (drop at s)) in
      let n : length (drop at s) ≡ length s - at = length-drop at s in
      omega (arith, k, n, h)

  pub next_within : at + l.next ≤ length s
  next_within =
      let k : l.next ≤ length (drop at s) = subst (λ (v : LinePlaces). v.next ≤ length (drop at s)) (sym own_line) (line_next_within (drop at s)) in
      let n : length (drop at s) ≡ length s - at = length-drop at s in
      omega (arith, k, n, h)
