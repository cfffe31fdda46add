-- A set that is read, of a text or of bytes, and what the reader leaves. Definitions only.
use Rattle.std.specs.Prelude.{◌≡◌, List, ℤ, length, Float}
use Rattle.refusals.specs.Paper.{Paper, Verdict, answered, refused, paper, unless}
use Rattle.refusals.specs.declared.Refusal.TheVariants.{Length}
use Rattle.tables.specs.Degree.{N_COEFF}
use Rattle.lists.specs.Lists.{caps_verdict, long}

-- the four lists
pub record Lists : Type 0 where
  pub g : List Float
  pub h : List Float
  pub g_dot : List Float
  pub h_dot : List Float

abbrev pub lists_of : List Float → List Float → List Float → List Float → Lists
lists_of g h g_dot h_dot = record { g = g; h = h; g_dot = g_dot; h_dot = h_dot }

-- each list is ninety long
abbrev pub Ninety : Lists → Type 0
Ninety l = (length l.g ≡ N_COEFF) × (length l.h ≡ N_COEFF) × (length l.g_dot ≡ N_COEFF) × (length l.h_dot ≡ N_COEFF)

-- a set: its epoch year and its four lists
pub record ModelSet : Type 0 where
  pub year : ℤ
  pub lists : Lists

-- 7, of the four lists
abbrev pub set_verdict : Lists → Verdict
set_verdict l = caps_verdict l.g l.h l.g_dot l.h_dot

-- what a reader leaves: what it says, and the four lists
pub record Left : Type 0 where
  pub says : Paper ℤ
  pub lists : Lists

abbrev pub left : Paper ℤ → Lists → Left
left p l = record { says = p; lists = l }

-- a set that is read goes into the lists; a refusal leaves them as they were
abbrev pub afterwards : Paper ModelSet → Lists → Left
afterwards (answered s) held = left (answered s.year) s.lists
afterwards (refused n f z) held = left (refused n f z) held

-- 6, then what is read
abbrev pub read_into : Paper ModelSet → Lists → Left
read_into p held = afterwards (unless (long held.g held.h held.g_dot held.h_dot) (paper Length) p) held
