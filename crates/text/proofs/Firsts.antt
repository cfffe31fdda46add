-- The first line of a text and the first word of a line, as the calls give them. Assumes nothing.
use mathlib.Core.Path.{◌≡◌, refl, sym, ap, subst, ◌∙◌}
use mathlib.Core.Bool.{Bool, true, false, not, cond, ◌&&◌}
use mathlib.Core.List.{List, [], ◌∷◌}
use Prim.Native.Nat.{ℕ, zero, suc, ◌+◌, ◌-◌, ◌<◌, ◌≤◌}
use native.Mathlib.Nat.{zero-add, suc-add, add-sub_cancel_left}
use native.Mathlib.Omega.{arith}
use borrow.Author.Tests.{ltb-true, ltb-false, eqb-false, ne_eqb, not-true}
use lib.Dec.{T, eqb, ltb}
use lib.Ieee.Bits.{is_true, cond_no}
use lib.Ieee.Fits.{and_r}
use lib.ListN.{length, take, drop, drop_of_length-le, length-drop}
use lib.Seq.{take-nil, drop-drop}
use Rattle.std.proofs.lemmas.List.{length-take-le}
use Rattle.text.specs.Bytes.{LF, CR, blank, until}
use Rattle.text.specs.Lines.{at_LF, at_end, ending, first_line, lines}
use Rattle.text.specs.Words.{at_blank, at_word, first_word, words}
use Rattle.std.specs.Prelude.{Option, None}
use Rattle.text.specs.Reading.{next_word, with_rest}

-- ---- lines
-- the first line's bytes, and the lines after it
First : List ℕ → ℕ → Type 0
First s n = lines s ≡ take n s ∷ lines (drop (n + ending (drop n s)) s)

line_on : (c : ℕ) (s : List ℕ) → eqb c LF ≡ false → (eqb c CR && at_LF s) ≡ false → (n : ℕ) → First s n → First (c ∷ s) (suc n)
unfolding First lines
line_on c s e f n h = rw (e, f, h, suc-add n (ending (drop n s)))

holds : {b : Bool} → b ≡ true → T b
holds e = subst T (sym e) tt

-- a CR before an LF: what follows the LF
after_CR_LF : (s : List ℕ) → T (at_LF s) → lines s ≡ [] ∷ lines (drop 1 s)
unfolding lines
after_CR_LF [] h = absurd h
after_CR_LF (d ∷ s) h = rw (is_true (eqb d LF) h)

pub until_on : (c : ℕ) (s : List ℕ) → eqb c LF ≡ false → (eqb c CR && at_LF s) ≡ false → until at_end (c ∷ s) ≡ suc (until at_end s)
unfolding until
until_on c s e f = rw (e, f)

module _ (c : ℕ) (s : List ℕ) where
  pub at_end_first : (k : ℕ) → ending (c ∷ s) ≡ suc k → until at_end (c ∷ s) ≡ 0
  unfolding until
  at_end_first k e = rw (ne_eqb (ending (c ∷ s)) 0 (λ z. omega (arith, e, z)))

  here : (k : ℕ) → ending (c ∷ s) ≡ suc k → lines (c ∷ s) ≡ [] ∷ lines (drop (suc k) (c ∷ s)) → First (c ∷ s) 0
  unfolding First
  here k e h = h ∙ ap (λ (n : ℕ). [] ∷ lines (drop n (c ∷ s))) (sym (zero-add (suc k)) ∙ ap (λ (n : ℕ). 0 + n) (sym e))

  -- a line's end of suc k bytes stands first
  at_once : (k : ℕ) → ending (c ∷ s) ≡ suc k → lines (c ∷ s) ≡ [] ∷ lines (drop (suc k) (c ∷ s)) → First (c ∷ s) (until at_end (c ∷ s))
  at_once k e h =
      subst (First (c ∷ s)) (sym (at_end_first k e)) (here k e h)

  at_an_LF : eqb c LF ≡ true → First (c ∷ s) (until at_end (c ∷ s))
  unfolding lines
  at_an_LF e = at_once 0 (rw e) (rw e)

  at_a_CR : eqb c LF ≡ false → (eqb c CR && at_LF s) ≡ true → First (c ∷ s) (until at_end (c ∷ s))
  unfolding lines
  at_a_CR e f = at_once 1 (rw (e, f)) (rw (e, f) (after_CR_LF s (and_r (eqb c CR) (at_LF s) (holds f))))

last_byte : (c : ℕ) → eqb c LF ≡ false → (eqb c CR && false) ≡ false → First (c ∷ []) (suc (until at_end []))
unfolding First lines until
last_byte c e f = rw (e, f)

-- the first line begins with c, and goes on as s does
line_first : (c : ℕ) (s : List ℕ) → (0 < length s → First s (until at_end s)) → First (c ∷ s) (until at_end (c ∷ s))
line_first c s h = go (eqb c LF) refl (eqb c CR && at_LF s) refl
  where
    on : (s : List ℕ) → eqb c LF ≡ false → (eqb c CR && at_LF s) ≡ false → (0 < length s → First s (until at_end s)) → First (c ∷ s) (suc (until at_end s))
    on [] e f h = last_byte c e f
    on (d ∷ s) e f h = line_on c (d ∷ s) e f (until at_end (d ∷ s)) (h (omega arith))

    go : (b : Bool) → eqb c LF ≡ b → (d : Bool) → (eqb c CR && at_LF s) ≡ d → First (c ∷ s) (until at_end (c ∷ s))
    go true e d f = at_an_LF c s e
    go false e true f = at_a_CR c s e f
    go false e false f = subst (First (c ∷ s)) (sym (until_on c s e f)) (on s e f h)

first_of : (s : List ℕ) → 0 < length s → First s (until at_end s)
first_of [] h = absurd (omega (arith, h))
first_of (c ∷ s) h = line_first c s (first_of s)

-- a text that is not empty: its first line's bytes, then the lines of what follows
pub lines_first : (s : List ℕ) → 0 < length s → lines s ≡ take (first_line s).end s ∷ lines (drop (first_line s).next s)
unfolding First first_line
lines_first s h = first_of s h

pub no_line : (s : List ℕ) → length s ≡ 0 → lines s ≡ []
unfolding lines
no_line [] h = refl
no_line (c ∷ s) h = absurd (omega (arith, h))

-- where they stand
ending_within : (s : List ℕ) → ending s ≤ length s
ending_within [] = omega arith
ending_within (c ∷ []) = go (eqb c LF) (eqb c CR)
  where
    go : (a b : Bool) → cond a 1 (cond (b && false) 2 0) ≤ 1
    go true b = omega arith
    go false true = omega arith
    go false false = omega arith
ending_within (c ∷ d ∷ s) = go (eqb c LF) (eqb c CR && eqb d LF)
  where
    go : (a b : Bool) → cond a 1 (cond b 2 0) ≤ suc (suc (length s))
    go true b = omega arith
    go false true = omega arith
    go false false = omega arith

until_within : (stop : List ℕ → Bool) (s : List ℕ) → until stop s ≤ length s
unfolding until
until_within stop [] = omega arith
until_within stop (c ∷ s) = go (stop (c ∷ s)) (until_within stop s)
  where
    go : (b : Bool) {n m : ℕ} → n ≤ m → cond b 0 (suc n) ≤ suc m
    go true h = omega arith
    go false h = omega (arith, h)

-- what stands before a place, and the place
drop_within : (n m : ℕ) (s : List ℕ) → n ≤ length s → m ≤ length (drop n s) → n + m ≤ length s
drop_within n m s h k = let e : length (drop n s) ≡ length s - n = length-drop n s in omega (arith, h, k, e)

pub line_end_within : (s : List ℕ) → (first_line s).end ≤ length s
unfolding first_line
line_end_within s = until_within at_end s

pub line_next_within : (s : List ℕ) → (first_line s).next ≤ length s
unfolding first_line
line_next_within s = let n = until at_end s in drop_within n (ending (drop n s)) s (until_within at_end s) (ending_within (drop n s))

pos_of : (n : ℕ) → (n ≡ 0 → ⊥) → 0 < n
pos_of zero h = absurd (h refl)
pos_of (suc n) h = omega arith

-- at the place where a scan ends nothing follows, or its test holds
stop_holds : (stop : List ℕ → Bool) (s : List ℕ) → 0 < length (drop (until stop s) s) → stop (drop (until stop s) s) ≡ true
unfolding until
stop_holds stop [] h = absurd (omega (arith, h))
stop_holds stop (c ∷ s) h = go (stop (c ∷ s)) refl (stop_holds stop s) h
  where
    go : (b : Bool) → stop (c ∷ s) ≡ b → (0 < length (drop (until stop s) s) → stop (drop (until stop s) s) ≡ true)
        → 0 < length (drop (cond b 0 (suc (until stop s))) (c ∷ s)) → stop (drop (cond b 0 (suc (until stop s))) (c ∷ s)) ≡ true
    go true e f k = e
    go false e f k = f k

-- a line that is there takes a byte at least
pub line_takes : (s : List ℕ) → 0 < length s → 0 < (first_line s).next
unfolding first_line until
line_takes [] h = absurd (omega (arith, h))
line_takes (c ∷ s) h = go (at_end (c ∷ s)) refl
  where
    go : (b : Bool) → at_end (c ∷ s) ≡ b → 0 < cond b 0 (suc (until at_end s)) + ending (drop (cond b 0 (suc (until at_end s))) (c ∷ s))
    go true e = let n = eqb-false (ending (c ∷ s)) 0 (not-true (eqb (ending (c ∷ s)) 0) e) in subst (λ (k : ℕ). 0 < k) (sym (zero-add (ending (c ∷ s)))) (pos_of (ending (c ∷ s)) n)
    go false e = omega arith

-- ---- words
skip_blanks : (s : List ℕ) → words s ≡ words (drop (until at_word s) s)
unfolding words until
skip_blanks [] = refl
skip_blanks (c ∷ s) = go (blank c) refl (skip_blanks s)
  where
    go : (b : Bool) → blank c ≡ b → words s ≡ words (drop (until at_word s) s) → words (c ∷ s) ≡ words (drop (cond (not b) 0 (suc (until at_word s))) (c ∷ s))
    go true e h = rw e h
    go false e h = refl

-- the first word's bytes, and the words after it
Word : List ℕ → ℕ → Type 0
Word s n = words s ≡ take n s ∷ words (drop n s)

-- c is no blank, and what follows it is one, or nothing
word_alone : (c : ℕ) (s : List ℕ) → blank c ≡ false → at_word s ≡ false → Word (c ∷ s) 1
unfolding Word words
word_alone c s e f = rw (e, f)

-- c is no blank, and the word goes on after it
word_on : (c : ℕ) (s : List ℕ) → blank c ≡ false → at_word s ≡ true → (n : ℕ) → Word s n → Word (c ∷ s) (suc n)
unfolding Word words
word_on c s e f n h = rw (e, f, h)

word_of : (s : List ℕ) → at_word s ≡ true → Word s (until at_blank s)
unfolding until
word_of [] h = absurd (subst T (sym h) tt)
word_of (c ∷ s) h = subst (Word (c ∷ s)) (sym (cond_no (blank c) 0 (suc (until at_blank s)) (subst T (sym h) tt))) (go s (not-true (blank c) h) (word_of s))
  where
    go : (s : List ℕ) → blank c ≡ false → (at_word s ≡ true → Word s (until at_blank s)) → Word (c ∷ s) (suc (until at_blank s))
    go [] e f = word_alone c [] e refl
    go (d ∷ s) e f = with (blank d) refl f
      where
        with : (b : Bool) → blank d ≡ b → (not (blank d) ≡ true → Word (d ∷ s) (cond b 0 (suc (until at_blank s)))) → Word (c ∷ d ∷ s) (suc (cond b 0 (suc (until at_blank s))))
        with true g k = word_alone c (d ∷ s) e (ap not g)
        with false g k = word_on c (d ∷ s) e (ap not g) (suc (until at_blank s)) (k (ap not g))

-- where they stand
pub word_start_within : (s : List ℕ) → (first_word s).start ≤ (first_word s).end
unfolding first_word
word_start_within s = omega arith

pub word_end_within : (s : List ℕ) → (first_word s).end ≤ length s
unfolding first_word
word_end_within s = let n = until at_word s in drop_within n (until at_blank (drop n s)) s (until_within at_word s) (until_within at_blank (drop n s))

-- after the blanks nothing stands, and there is no word
nothing_left : (s : List ℕ) → length s ≤ (first_word s).start → words s ≡ []
unfolding words first_word
nothing_left s h = skip_blanks s ∙ ap words (drop_of_length-le s {i = until at_word s} h)

something_left : (s : List ℕ) → (first_word s).start < length s → words s ≡ take ((first_word s).end - (first_word s).start) (drop (first_word s).start s) ∷ words (drop (first_word s).end s)
unfolding first_word Word
something_left s h =
    let n = until at_word s in
    let k = until at_blank (drop n s) in
    let some : 0 < length (drop n s) = let e : length (drop n s) ≡ length s - n = length-drop n s in omega (arith, h, e) in
    skip_blanks s
    ∙ word_of (drop n s) (stop_holds at_word s some)
    ∙ ap (λ (j : ℕ). take j (drop n s) ∷ words (drop k (drop n s))) (sym (add-sub_cancel_left n k))
    ∙ ap (λ (t : List ℕ). take (n + k - n) (drop n s) ∷ words t) (drop-drop k n s)

-- the first word as f reads it, and the words after it; no word is an empty one
pub words_first : {A : Type 0} (f : List ℕ → Option A) → f [] ≡ None → (s : List ℕ)
    → next_word f (words s) ≡ with_rest (f (take ((first_word s).end - (first_word s).start) (drop (first_word s).start s))) (words (drop (first_word s).end s))
words_first {A} f e s = go (ltb n (length s)) refl
  where
    n : ℕ
    n = (first_word s).start

    m : ℕ
    m = (first_word s).end

    go : (b : Bool) → ltb n (length s) ≡ b → next_word f (words s) ≡ with_rest (f (take (m - n) (drop n s))) (words (drop m s))
    go true h = ap (next_word f) (something_left s (ltb-true n (length s) h))
    go false h =
        let none : take (m - n) (drop n s) ≡ [] = ap (take (m - n)) (drop_of_length-le s {i = n} (ltb-false n (length s) h)) ∙ take-nil (m - n) in
        ap (next_word f) (nothing_left s (ltb-false n (length s) h)) ∙ ap (λ (r : Option A). with_rest r (words (drop m s))) (sym (ap f none ∙ e))

-- no word is left where the blanks reach the end
pub no_word : (s : List ℕ) → (first_word s).start ≡ length s → words s ≡ []
no_word s h = nothing_left s (omega (arith, h))

pub some_word : (s : List ℕ) → ((first_word s).start ≡ length s → ⊥)
    → words s ≡ take ((first_word s).end - (first_word s).start) (drop (first_word s).start s) ∷ words (drop (first_word s).end s)
some_word s h = something_left s (lt_of (word_start_within s) (word_end_within s) h)
  where
    lt_of : {a b c : ℕ} → a ≤ b → b ≤ c → (a ≡ c → ⊥) → a < c
    lt_of {a} {b} {c} f g h = omega (arith, f, g, h)

-- the word as it is lent: empty where there is none
module _ (s w : List ℕ) (is : w ≡ take ((first_word s).end - (first_word s).start) (drop (first_word s).start s)) where
  pub empty_word : length w ≡ 0 → words s ≡ []
  unfolding first_word until
  empty_word h = go (ltb (until at_word s) (length s)) refl
    where
      takes : (t : List ℕ) → at_word t ≡ true → 0 < until at_blank t
      takes [] e = absurd (subst T (sym e) tt)
      takes (c ∷ t) e = rw (not-true (blank c) e) (omega arith)

      go : (b : Bool) → ltb (until at_word s) (length s) ≡ b → words s ≡ []
      go true e =
          let n = until at_word s in
          let k = until at_blank (drop n s) in
          let l : 0 < length (drop n s) = let d : length (drop n s) ≡ length s - n = length-drop n s in omega (arith, d, ltb-true n (length s) e) in
          let m : length w ≡ k = ap length is ∙ ap (λ j. length (take j (drop n s))) (add-sub_cancel_left n k) ∙ length-take-le k (drop n s) (until_within at_blank (drop n s)) in
          let p : 0 < k = takes (drop n s) (stop_holds at_word s l) in
          absurd (omega (arith, m, p, h))
      go false e = nothing_left s (ltb-false (until at_word s) (length s) e)

  pub lent_word : (length w ≡ 0 → ⊥) → words s ≡ w ∷ words (drop (first_word s).end s)
  lent_word n = go (ltb (first_word s).start (length s)) refl
    where
      go : (b : Bool) → ltb (first_word s).start (length s) ≡ b → words s ≡ w ∷ words (drop (first_word s).end s)
      go true e = something_left s (ltb-true (first_word s).start (length s) e) ∙ ap (λ v. v ∷ words (drop (first_word s).end s)) (sym is)
      go false e = absurd (n (ap length is ∙ ap (λ t. length (take ((first_word s).end - (first_word s).start) t)) (drop_of_length-le s {i = (first_word s).start} (ltb-false (first_word s).start (length s) e)) ∙ ap length (take-nil ((first_word s).end - (first_word s).start))))
