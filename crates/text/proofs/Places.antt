-- The places that the code finds are those of the first line and of the first word. Assumes nothing.
use mathlib.Core.Path.{◌≡◌, refl, sym, ap, ◌∙◌}
use mathlib.Core.Bool.{Bool, true, false, not, cond, ◌&&◌, and-true}
use mathlib.Core.List.{List, [], ◌∷◌}
use Prim.Native.Nat.{ℕ, suc, ◌+◌, ◌-◌, ◌<◌, ◌≤◌}
use native.Mathlib.Nat.{add-sub_cancel_left}
use native.Mathlib.Omega.{arith}
use borrow.Author.Tests.{ltb-true, ltb-false}
use lib.Dec.{eqb, ltb}
use lib.ListN.{length, take, drop, drop_of_length-le}
use lib.Seq.{take_all, drop-drop}
use Rattle.std.specs.Prelude.{Some, None, ◌==◌, slice_range}
use Rattle.std.specs.Cmp.Lexicographic.{pointwise}
use Rattle.std.specs.List.{position, position_or_len, prefix_len, take_while}
use Rattle.std.proofs.lemmas.List.Folds.{length-prefix_len}
use Rattle.std.proofs.lemmas.Option.{cond_some, none-some}
use Rattle.text.specs.Bytes.{LF, CR, blank, until}
use Rattle.text.specs.Lines.{at_LF, at_end, ending, first_line, without_return}
use Rattle.text.specs.Words.{at_blank, at_word, first_word}
use Rattle.text.proofs.Digits.{and_parts}
use Rattle.text.proofs.Firsts.{at_end_first, until_on}

-- ---- the first word
-- a scan that looks at the first byte alone, and goes on while p holds of it
until_fails : (stop : List ℕ → Bool) (p : ℕ → Bool) → stop [] ≡ false → ((c : ℕ) (s : List ℕ) → stop (c ∷ s) ≡ not (p c)) → (s : List ℕ) → until stop s ≡ prefix_len p s
unfolding until
until_fails stop p z h [] = refl
until_fails stop p z h (c ∷ s) = ap (λ b. cond b 0 (suc (until stop s))) (h c s) ∙ go (p c) (until_fails stop p z h s)
  where
    go : (b : Bool) {n m : ℕ} → n ≡ m → cond (not b) 0 (suc n) ≡ cond b (1 + m) 0
    go true {n} {m} e = omega (arith, e)
    go false e = refl

twice : (c : ℕ) → blank c ≡ not (not (blank c))
twice c = go (blank c)
  where
    go : (b : Bool) → b ≡ not (not b)
    go true = refl
    go false = refl

-- n blanks, then a word of m bytes
module _ (s : List ℕ) (n m : ℕ) (w : List ℕ) (r : w ≡ drop n s) (e : n ≡ length (take_while blank s)) (f : m ≡ length (take_while (λ c. not (blank c)) w)) where
  starts : n ≡ until at_word s
  starts = e ∙ length-prefix_len blank s ∙ sym (until_fails at_word blank refl (λ c t. refl) s)

  ends : m ≡ until at_blank (drop n s)
  ends = f ∙ length-prefix_len (λ c. not (blank c)) w ∙ sym (until_fails at_blank (λ c. not (blank c)) refl (λ c t. twice c) w) ∙ ap (until at_blank) r

  pub word_is : take m w ≡ slice_range s (first_word s).start (first_word s).end
  unfolding first_word
  word_is = rw (r, ← starts, ← ends, add-sub_cancel_left n m)

  pub after_word : drop m w ≡ drop (first_word s).end s
  unfolding first_word
  after_word = rw (r, ← starts, ← ends, drop-drop m n s)

-- ---- a line without the CR that stands last
-- c, then s
with_return : (c : ℕ) (s : List ℕ) → pointwise eqb (drop (length s) (c ∷ s)) (CR ∷ []) ≡ true → take (length s) (c ∷ s) ≡ without_return (c ∷ s)
unfolding without_return
with_return c [] e = go (eqb c CR) e
  where
    go : (b : Bool) → b && true ≡ true → [] ≡ cond b [] (c ∷ [])
    go true e = refl
    go false e = cc
with_return c (d ∷ s) e = ap (λ t. c ∷ t) (with_return d s e)

as_it_is : (c : ℕ) (s : List ℕ) → pointwise eqb (drop (length s) (c ∷ s)) (CR ∷ []) ≡ false → c ∷ s ≡ without_return (c ∷ s)
unfolding without_return
as_it_is c [] e = go (eqb c CR) e
  where
    go : (b : Bool) → b && true ≡ false → c ∷ [] ≡ cond b [] (c ∷ [])
    go true e = cc
    go false e = refl
as_it_is c (d ∷ s) e = ap (λ t. c ∷ t) (as_it_is d s e)

before_last : (c : ℕ) (s : List ℕ) → length (c ∷ s) - 1 ≡ length s
before_last c s = omega arith

pub return_last : (s : List ℕ) → pointwise eqb (drop (length s - 1) s) (CR ∷ []) ≡ true → take (length s - 1) s ≡ without_return s
return_last [] e = cc
return_last (c ∷ s) e = rw before_last (with_return c s (rw before_last at e))

pub other_last : (s : List ℕ) → pointwise eqb (drop (length s - 1) s) (CR ∷ []) ≡ false → s ≡ without_return s
unfolding without_return
other_last [] e = refl
other_last (c ∷ s) e = as_it_is c s (rw before_last at e)

-- ---- the first line
-- where the first LF stands, or the length
feed : List ℕ → ℕ
feed s = position_or_len (λ c. c == LF) s

on : (c : ℕ) (s : List ℕ) → eqb c LF ≡ false → feed (c ∷ s) ≡ suc (feed s)
unfolding feed
on c s e = rw e (omega arith)

-- a CR goes on into a line where no LF follows
return_on : (c : ℕ) (s : List ℕ) → (eqb c CR && at_LF s) ≡ false → feed s < length s → without_return (c ∷ take (feed s) s) ≡ c ∷ without_return (take (feed s) s)
unfolding without_return feed
return_on c [] f h = absurd (omega arith)
return_on c (d ∷ s) f h = go (eqb d LF) refl f
  where
    go : (b : Bool) → eqb d LF ≡ b → (eqb c CR && b) ≡ false → without_return (c ∷ take (feed (d ∷ s)) (d ∷ s)) ≡ c ∷ without_return (take (feed (d ∷ s)) (d ∷ s))
    go true e f = rw (e, sym (and-true (eqb c CR)) ∙ f)
    go false e f = rw (on d s e)

-- an LF is there: the first line's bytes, and where the next one starts
record Fed (s : List ℕ) : Type 0 where
  pub line : without_return (take (feed s) s) ≡ take (until at_end s) s
  pub next : until at_end s + ending (drop (until at_end s) s) ≡ feed s + 1

made : (s : List ℕ) (u n : ℕ) → until at_end s ≡ u → feed s ≡ n → without_return (take n s) ≡ take u s → u + ending (drop u s) ≡ n + 1 → Fed s
made s u n e f g h = record { line = rw (e, f) g; next = rw (e, f) h }

fed : (s : List ℕ) → feed s < length s → Fed s
unfolding feed without_return
fed [] h = absurd (omega arith)
fed (c ∷ s) h = go (eqb c LF) refl (eqb c CR && at_LF s) refl (fed s)
  where
    none : (s : List ℕ) → (eqb c CR && at_LF s) ≡ true → feed s ≡ 0
    none [] f = refl
    none (d ∷ s) f = rw ((and_parts (eqb c CR) (eqb d LF) f).1)

    go : (b : Bool) → eqb c LF ≡ b → (d : Bool) → (eqb c CR && at_LF s) ≡ d → (feed s < length s → Fed s) → Fed (c ∷ s)
    go true e d f k = made (c ∷ s) 0 0 (at_end_first c s 0 (rw e)) (rw e) refl (rw e)
    go false e true f k =
        made (c ∷ s) 0 1 (at_end_first c s 1 (rw (e, f))) (on c s e ∙ ap suc (none s f)) (rw ((and_parts (eqb c CR) (at_LF s) f).0)) (rw (e, f))
    go false e false f k =
        let n : feed (c ∷ s) ≡ suc (feed s) = on c s e in
        let l : feed s < length s = omega arith in
        let r : Fed s = k l in
        let x = r.next in
        made (c ∷ s) (suc (until at_end s)) (suc (feed s)) (until_on c s e f) n (return_on c s f l ∙ ap (λ t. c ∷ t) r.line) (omega arith)

unfed : (s : List ℕ) → length s ≤ feed s → until at_end s ≡ length s
unfolding feed until
unfed [] h = refl
unfed (c ∷ s) h = go (eqb c LF) refl (eqb c CR && at_LF s) refl (unfed s)
  where
    none : (s : List ℕ) → (eqb c CR && at_LF s) ≡ true → suc (feed s) < suc (length s)
    none [] f = absurd (let z = (and_parts (eqb c CR) false f).1 in cc)
    none (d ∷ s) f = rw ((and_parts (eqb c CR) (eqb d LF) f).1) (omega arith)

    go : (b : Bool) → eqb c LF ≡ b → (d : Bool) → (eqb c CR && at_LF s) ≡ d → (length s ≤ feed s → until at_end s ≡ length s) → until at_end (c ∷ s) ≡ suc (length s)
    go true e d f k = absurd (let n : feed (c ∷ s) ≡ 0 = rw e in omega arith)
    go false e true f k = absurd (let n : feed (c ∷ s) ≡ suc (feed s) = on c s e in let m : suc (feed s) < suc (length s) = none s f in omega arith)
    go false e false f k = let n : feed (c ∷ s) ≡ suc (feed s) = on c s e in until_on c s e f ∙ ap suc (k (omega arith))

-- what the code finds
module _ (s : List ℕ) where
  pub line_to : (n : ℕ) → position (λ c. c == LF) s ≡ Some n → without_return (take n s) ≡ take (first_line s).end s
  unfolding first_line feed
  line_to n e = let p = cond_some (ltb (feed s) (length s)) (feed s) n e in rw (← p.1) (fed s (ltb-true (feed s) (length s) p.0)).line

  pub after_line : (n : ℕ) → position (λ c. c == LF) s ≡ Some n → drop (n + 1) s ≡ drop (first_line s).next s
  unfolding first_line feed
  after_line n e = let p = cond_some (ltb (feed s) (length s)) (feed s) n e in rw (← p.1, (fed s (ltb-true (feed s) (length s) p.0)).next)

  none_found : position (λ c. c == LF) s ≡ None → until at_end s ≡ length s
  unfolding feed
  none_found e = go (ltb (feed s) (length s)) refl e
    where
      go : (b : Bool) → ltb (feed s) (length s) ≡ b → cond b (Some (feed s)) None ≡ None → until at_end s ≡ length s
      go true f h = absurd (none-some (feed s) (sym h))
      go false f h = unfed s (ltb-false (feed s) (length s) f)

  pub whole_line : position (λ c. c == LF) s ≡ None → s ≡ take (first_line s).end s
  unfolding first_line
  whole_line e = rw (none_found e) (sym (take_all (length s) s (omega arith)))

  pub no_rest : position (λ c. c == LF) s ≡ None → [] ≡ drop (first_line s).next s
  unfolding first_line
  no_rest e = rw (none_found e) (sym (drop_of_length-le s {i = length s + ending (drop (length s) s)} (omega arith)))
