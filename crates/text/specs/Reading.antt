-- Words read one after another. Definitions only.
use Rattle.std.specs.Prelude.{List, [], ◌∷◌, ℕ, Some, None, Option}
use Rattle.text.specs.Decimals.{and_then}

-- what was read, and the words after it
abbrev pub with_rest : {A : Type 0} → Option A → List (List ℕ) → Option (A × List (List ℕ))
with_rest (Some a) ws = Some (a, ws)
with_rest None ws = None

-- the first word, as f reads it; without a word there is none
abbrev pub next_word : {A : Type 0} → (List ℕ → Option A) → List (List ℕ) → Option (A × List (List ℕ))
next_word f [] = None
next_word f (w ∷ ws) = with_rest (f w) ws

-- the first two words, read alike
abbrev pub two_words : {A : Type 0} → (List ℕ → Option A) → List (List ℕ) → Option ((A × A) × List (List ℕ))
two_words f ws = and_then (next_word f ws) (λ a. and_then (next_word f a.1) (λ b. Some ((a.0, b.0), b.1)))
