-- The bytes that mean something. Definitions only.
use Rattle.std.specs.Prelude.{Bool, ◌&&◌, ◌||◌, cond, List, [], ◌∷◌, ℕ, suc, eqb, leb}

-- a line's end is LF, or CR LF
abbrev pub LF : ℕ
LF = 10

abbrev pub CR : ℕ
CR = 13

-- blanks: space and tab
abbrev pub blank : ℕ → Bool
blank c = eqb c 32 || eqb c 9

abbrev pub MINUS : ℕ
MINUS = 45

abbrev pub POINT : ℕ
POINT = 46

-- a digit, '0' to '9'
abbrev pub digit : ℕ → Bool
digit c = leb 48 c && leb c 57

-- a byte goes to the front of the first of the parts that follow it
abbrev pub onto : ℕ → List (List ℕ) → List (List ℕ)
onto c [] = (c ∷ []) ∷ []
onto c (l ∷ ls) = (c ∷ l) ∷ ls

-- how many bytes stand before the first place at which `stop` holds of what follows; all, where it holds at none
unfoldable pub until : (List ℕ → Bool) → List ℕ → ℕ
until stop [] = 0
until stop (c ∷ s) = cond (stop (c ∷ s)) 0 (suc (until stop s))
