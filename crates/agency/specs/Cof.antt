-- The agency's file (document 02, Wish 1): header, ninety lines, then nines. Definitions only.
use Rattle.std.specs.Prelude.{Bool, ◌&&◌, cond, List, [], ◌∷◌, map, ℕ, zero, suc, ◌+◌, eqb, ℤ, Option, Some, None}
use Rattle.refusals.specs.Paper.{Paper, Verdict, accepted, answered, paper, unless, after, told, check}
use Rattle.refusals.specs.declared.Refusal.TheVariants.{Malformed, OutOfOrder}
use Rattle.tables.specs.Degree.{N_COEFF}
use Rattle.lists.specs.Sets.{Left, Lists, ModelSet, lists_of, read_into, set_verdict}
use Rattle.text.specs.Decimals.{whole_of}
use Rattle.text.specs.Reading.{next_word}
use Rattle.text.specs.Lines.{lines}
use Rattle.text.specs.Words.{words}
use Rattle.agency.specs.declared.entries.Entry.{Entry}
use Rattle.agency.specs.declared.file.Place.{Place}
use Rattle.agency.specs.Entries.{entry_of, equals, nines}

-- ---- the header
-- its first word is the epoch, a whole year; what follows on the line is free
abbrev pub year_says : Option (ℤ × List (List ℕ)) → Paper ℤ
year_says (Some y) = answered y.0
year_says None = paper (Malformed 1)

-- the epoch year, and the lines after the header
abbrev pub header_says : List (List ℕ) → Paper (ℤ × List (List ℕ))
header_says [] = paper (OutOfOrder 1)
header_says (l ∷ ls) = after (year_says (next_word whole_of (words l))) (λ y. answered (y, ls))

-- ---- the ninety lines
-- degree and order of the first, and those after a line's
abbrev pub first : Place
first = record { degree = 1; order = 0 }

unfoldable pub following : Place → Place
following p = cond (eqb p.order p.degree) (record { degree = p.degree + 1; order = 0 }) (record { degree = p.degree; order = p.order + 1 })

-- line i, where p is due: 14 for another degree and order and for nines, 13 for a line that is malformed
abbrev pub placed : ℕ → Place → Bool → Option Entry → Paper Entry
placed i p nine (Some e) = unless (equals e.degree p.degree && equals e.order p.order) (paper (OutOfOrder i)) (answered e)
placed i p nine None = unless nine (paper (Malformed i)) (paper (OutOfOrder i))

-- the coefficients of line i, and the lines after it; 14 where the file ends
abbrev pub row_says : ℕ → Place → List (List ℕ) → Paper (Entry × List (List ℕ))
row_says i p [] = paper (OutOfOrder i)
row_says i p (l ∷ ls) = after (placed i p (nines l) (entry_of (words l))) (λ e. answered (e, ls))

-- after them, from line i on: lines of nines alone
unfoldable pub nines_verdict : ℕ → List (List ℕ) → Verdict
nines_verdict i [] = accepted
nines_verdict i (l ∷ ls) = check (nines l) (Malformed i) (nines_verdict (suc i) ls)

-- k coefficient lines from line i on, where p is due, then nines
unfoldable pub rows_say : ℕ → ℕ → Place → List (List ℕ) → Paper (List Entry)
rows_say zero i p ls = told (nines_verdict i ls) (answered [])
rows_say (suc k) i p ls = after (row_says i p ls) (λ e. after (rows_say k (suc i) (following p) e.1) (λ es. answered (e.0 ∷ es)))

-- ---- the file
-- the lists of the coefficient lines: each a column of theirs
abbrev pub columns : List Entry → Lists
columns es = lists_of (map (λ (e : Entry). e.g) es) (map (λ (e : Entry). e.h) es) (map (λ (e : Entry). e.g_dot) es) (map (λ (e : Entry). e.h_dot) es)

-- header, ninety lines, then nines: 13 and 14, in file order
unfoldable pub file_says : List (List ℕ) → Paper ModelSet
file_says ls = after (header_says ls) (λ y. after (rows_say N_COEFF 2 first y.1) (λ es. answered (record { year = y.0; lists = columns es })))

-- the file, then 7
unfoldable pub cof_says : List ℕ → Paper ModelSet
cof_says text = after (file_says (lines text)) (λ s. told (set_verdict s.lists) (answered s))

-- ---- the call
-- 6, then the file
abbrev pub read_of : List ℕ → Lists → Left
read_of text held = read_into (cof_says text) held
