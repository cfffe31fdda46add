-- The first line, or word, and what stands after it name their places: their lengths alone give them. Assumes nothing.
use mathlib.Core.Path.{◌≡◌, ap, ◌∙◌}
use mathlib.Core.List.{List}
use Prim.Native.Nat.{ℕ, ◌-◌, ◌≤◌}
use native.Mathlib.Omega.{arith}
use lib.ListN.{length, take, drop, length-drop}
use Rattle.std.specs.Prelude.{slice_range}
use Rattle.std.proofs.lemmas.List.{length-take-le}
use Rattle.text.specs.Lines.{first_line, line_places}
use Rattle.text.specs.Words.{first_word, word_places}
use Rattle.text.proofs.Firsts.{line_end_within, line_next_within, word_end_within, word_start_within}

-- what is left of s from the place n on tells n
from_place : (s r : List ℕ) (n : ℕ) → n ≤ length s → r ≡ drop n s → length s - length r ≡ n
from_place s r n h e = let l : length r ≡ length s - n = ap length e ∙ length-drop n s in omega (arith, h, l)

pub line_named : (s l r : List ℕ) → l ≡ take (first_line s).end s → r ≡ drop (first_line s).next s → line_places s l r ≡ first_line s
line_named s l r e f =
    let g : length l ≡ (first_line s).end = ap length e ∙ length-take-le (first_line s).end s (line_end_within s) in
    let h : length s - length r ≡ (first_line s).next = from_place s r (first_line s).next (line_next_within s) f in
    λ i. record { end = g i; next = h i }

pub word_named : (s w r : List ℕ) → w ≡ slice_range s (first_word s).start (first_word s).end → r ≡ drop (first_word s).end s → word_places s w r ≡ first_word s
word_named s w r e f =
    let a = (first_word s).start in
    let b = (first_word s).end in
    let h : length s - length r ≡ b = from_place s r b (word_end_within s) f in
    let d : length (drop a s) ≡ length s - a = length-drop a s in
    let g : length w ≡ b - a = ap length e ∙ length-take-le (b - a) (drop a s) (omega (arith, word_start_within s, word_end_within s, d)) in
    let j : length s - length r - length w ≡ a = omega (arith, h, g, word_start_within s) in
    λ i. record { start = j i; end = h i }
