-- What the functions under the call promise, in the words of Entries and Cof, and what the laws about them speak of. Definitions only; the call's contract does not cite them.
use Rattle.std.specs.Prelude.{◌≡◌, List, ℕ, ◌+◌, ℤ, drop, Result, Ok, Err}
use Rattle.refusals.specs.Paper.{Paper, Verdict, answered, refused, paper, after, said}
use Rattle.refusals.specs.declared.Refusal.{Refusal}
use Rattle.text.specs.Lines.{lines}
use Rattle.text.specs.Words.{WordPlaces, first_word}
use Rattle.agency.specs.declared.entries.Entry.{Entry}
use Rattle.lists.specs.declared.Lists.{Lists as LentLists}
use Rattle.lists.specs.Sets.{Lists, ModelSet, lists_of}
use Rattle.agency.specs.declared.file.FileSet.{FileSet}
use Rattle.agency.specs.Cof.{columns}

-- what a line says, and the lines after it in the text s
abbrev pub taken : {A : Type 0} → Result A Refusal → List ℕ → Paper (A × List (List ℕ))
taken r s = after (said r) (λ a. answered (a, lines s))

-- the set of a file that is read
abbrev pub set_of : FileSet → ModelSet
set_of s = record { year = s.epoch_year; lists = lists_of s.g s.h s.g_dot s.h_dot }

abbrev pub set_said : Result FileSet Refusal → Paper ModelSet
set_said r = after (said r) (λ s. answered (set_of s))

-- the lent lists, as the four that they are
abbrev pub lent_set : LentLists → Lists
lent_set l = lists_of l.g.now l.h.now l.g_dot.now l.h_dot.now

-- ---- a word's places
-- the first word from a place on, by its own places in the line
abbrev pub WordFrom : List ℕ → ℕ → WordPlaces → Type 0
WordFrom l from w = (w.start ≡ from + (first_word (drop from l)).start) × (w.end ≡ from + (first_word (drop from l)).end)

-- ---- the lists that are filled: what is said, and, behind an answer, what they hold
abbrev pub RowsFilled : Paper (List Entry) → Verdict → Lists → Type 0
RowsFilled (answered es) (Ok _) l = l ≡ columns es
RowsFilled (answered es) (Err k) l = ⊥
RowsFilled (refused n f z) (Ok _) l = ⊥
RowsFilled (refused n f z) (Err k) l = ◌≡◌ {A = Paper ℤ} (paper k) (refused n f z)

abbrev pub Filled : Paper ModelSet → Paper ℤ → Lists → Type 0
Filled (answered s) q l = (q ≡ answered s.year) × (l ≡ s.lists)
Filled (refused n f z) q l = q ≡ refused n f z
