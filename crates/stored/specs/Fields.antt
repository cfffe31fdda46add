-- The fields as the code has them: their tags, and the contents of all five. Definitions only.
use Rattle.std.specs.Prelude.{◌≡◌, ℕ, pos, length, Result, Ok, Err}
use Rattle.refusals.specs.Paper.{Verdict, accepted}
use Rattle.refusals.specs.declared.Refusal.{Refusal}
use Rattle.lists.specs.Sets.{ModelSet, lists_of}
use Rattle.stored.specs.declared.fields.Contents.{Contents}
use Rattle.stored.specs.declared.layout.Field.{Field}
use Rattle.stored.specs.Layout.{YEAR, floats_in, list_length, number}

-- each field's tag
abbrev pub tag_of : Field → ℕ
tag_of Field.EpochYear = 1
tag_of Field.G = 2
tag_of Field.H = 3
tag_of Field.GDot = 4
tag_of Field.HDot = 5

-- what a result says of the checks before it
abbrev pub outcome : {A : Type 0} → Result A Refusal → Verdict
outcome (Ok _) = accepted
outcome (Err k) = Err k

-- the set that stands in these contents, with k entries in each list
abbrev pub contents_set : ℕ → Contents → ModelSet
contents_set k c = record { year = pos (number c.epoch_year.now); lists = lists_of (floats_in k c.g.now) (floats_in k c.h.now) (floats_in k c.g_dot.now) (floats_in k c.h_dot.now) }

-- they are as long as the layout says
abbrev pub WholeContents : ℕ → Contents → Type 0
WholeContents k c =
    (length c.epoch_year.now ≡ YEAR) × (length c.g.now ≡ list_length k) × (length c.h.now ≡ list_length k) × (length c.g_dot.now ≡ list_length k) × (length c.h_dot.now ≡ list_length k)
