-- A coefficient line, and a line of nines (document 02, Wish 1). Definitions only.
use Rattle.std.specs.Prelude.{Bool, true, false, ◌&&◌, ◌||◌, cond, List, [], ◌∷◌, ℕ, eqb, ℤ, pos, negsuc, Option, Some, None}
use Rattle.std.specs.List.{list_all, list_any}
use Rattle.text.specs.Bytes.{blank}
use Rattle.text.specs.Decimals.{and_then, number_of, whole_of}
use Rattle.text.specs.Reading.{two_words}
use Rattle.agency.specs.declared.entries.Entry.{Entry}

-- no word is left
abbrev pub none : List (List ℕ) → Bool
none [] = true
none (w ∷ ws) = false

-- the words of a coefficient line: degree and order, main g and h, rate g and h, and no more
unfoldable pub entry_of : List (List ℕ) → Option Entry
entry_of ws =
    and_then (two_words whole_of ws) (λ place.
    and_then (two_words number_of place.1) (λ main.
    and_then (two_words number_of main.1) (λ rate.
    cond (none rate.1) (Some (record { degree = place.0.0; order = place.0.1; g = main.0.0; h = main.0.1; g_dot = rate.0.0; h_dot = rate.0.1 })) None)))

-- the whole number z is n
abbrev pub equals : ℤ → ℕ → Bool
equals (pos k) n = eqb k n
equals (negsuc k) n = false

abbrev pub NINE : ℕ
NINE = 57

-- nines and blanks alone
abbrev pub only_nines : List ℕ → Bool
only_nines l = list_all (λ c. eqb c NINE || blank c) l

-- a nine
abbrev pub some_nine : List ℕ → Bool
some_nine l = list_any (λ c. eqb c NINE) l

-- a line of nines: one word or more, of the digit 9 alone
abbrev pub nines : List ℕ → Bool
nines l = only_nines l && some_nine l
