-- The words of a line. Definitions only.
use Rattle.std.specs.Prelude.{Bool, false, not, cond, List, [], ◌∷◌, ℕ, ◌+◌, ◌-◌, drop, length}
use Rattle.text.specs.Bytes.{blank, onto, until}

-- a blank stands first; a byte that is none
abbrev pub at_blank : List ℕ → Bool
at_blank [] = false
at_blank (c ∷ s) = blank c

abbrev pub at_word : List ℕ → Bool
at_word [] = false
at_word (c ∷ s) = not (blank c)

-- the words: what stands between blanks
unfoldable pub words : List ℕ → List (List ℕ)
words [] = []
words (c ∷ s) = let rest = words s in cond (blank c) rest (cond (at_word s) (onto c rest) ((c ∷ []) ∷ rest))

-- where the first word starts, and where it ends; without a word both are the end
pub record WordPlaces : Type 0 where
  pub start : ℕ
  pub end : ℕ

unfoldable pub first_word : List ℕ → WordPlaces
first_word s = let n = until at_word s in record { start = n; end = n + until at_blank (drop n s) }

-- these places of s, by two parts of it: the first word, and what stands after that
abbrev pub word_places : List ℕ → List ℕ → List ℕ → WordPlaces
word_places s word rest = let end = length s - length rest in record { start = end - length word; end = end }
