-- The lines of a text. Definitions only.
use Rattle.std.specs.Prelude.{Bool, false, not, ◌&&◌, cond, List, [], ◌∷◌, ℕ, ◌+◌, ◌-◌, eqb, drop, length}
use Rattle.text.specs.Bytes.{LF, CR, onto, until}

-- an LF stands first
abbrev pub at_LF : List ℕ → Bool
at_LF [] = false
at_LF (c ∷ s) = eqb c LF

-- the lines: each ends with an LF, the last may have none; one CR before an LF is no part of its line
unfoldable pub lines : List ℕ → List (List ℕ)
lines [] = []
lines (c ∷ s) = let rest = lines s in cond (eqb c LF) ([] ∷ rest) (cond (eqb c CR && at_LF s) rest (onto c rest))

-- ---- the first of them
-- how long the line's end is that stands first: LF or CR LF; 0 where there is none
abbrev pub ending : List ℕ → ℕ
ending [] = 0
ending (c ∷ s) = cond (eqb c LF) 1 (cond (eqb c CR && at_LF s) 2 0)

abbrev pub at_end : List ℕ → Bool
at_end s = not (eqb (ending s) 0)

-- where the first line ends, and where the next one starts
pub record LinePlaces : Type 0 where
  pub end : ℕ
  pub next : ℕ

unfoldable pub first_line : List ℕ → LinePlaces
first_line s = let n = until at_end s in record { end = n; next = n + ending (drop n s) }

-- these places of s, by two parts of it: the first line, and what stands after that
abbrev pub line_places : List ℕ → List ℕ → List ℕ → LinePlaces
line_places s line rest = record { end = length line; next = length s - length rest }

-- a line without the CR that stands last in it
unfoldable pub without_return : List ℕ → List ℕ
without_return [] = []
without_return (c ∷ []) = cond (eqb c CR) [] (c ∷ [])
without_return (c ∷ d ∷ s) = c ∷ without_return (d ∷ s)
