-- The ways to the call's answer. Assumes nothing.
use mathlib.Core.Path.{◌≡◌}
use mathlib.Core.Bool.{true}
use mathlib.Core.List.{List}
use Prim.Native.Nat.{ℕ}
use Rattle.std.specs.Prelude.{Ok, Err}
use Rattle.refusals.specs.Paper.{answered, paper}
use Rattle.refusals.specs.declared.Refusal.{Refusal}
use Rattle.lists.specs.Lists.{long}
use Rattle.lists.specs.Sets.{Lists, ModelSet, left, set_verdict}
use Rattle.text.specs.Lines.{lines}
use Rattle.agency.specs.Cof.{cof_says, file_says, read_of}

-- ---- the file, with its entries checked
module _ (text : List ℕ) where
  pub unread : (k : Refusal) → paper k ≡ file_says (lines text) → paper k ≡ cof_says text
  unfolding cof_says
  unread k f = rw (← f)

  module _ (s : ModelSet) (f : answered s ≡ file_says (lines text)) where
    pub over_cap : (k : Refusal) → Err k ≡ set_verdict s.lists → paper k ≡ cof_says text
    unfolding cof_says
    over_cap k v = rw (← f, ← v)

    pub within_caps : (u : Unit {0}) → Ok u ≡ set_verdict s.lists → answered s ≡ cof_says text
    unfolding cof_says
    within_caps u v = rw (← f, ← v)

-- ---- the call, where the lent lists are ninety long
module _ (text : List ℕ) (held : Lists) (e : true ≡ long held.g held.h held.g_dot held.h_dot) where
  -- a refusal puts nothing
  pub nothing_put : (k : Refusal) → paper k ≡ cof_says text → left (paper k) held ≡ read_of text held
  nothing_put k f = rw (← e, ← f)

  -- an answer puts all
  pub all_put : (s : ModelSet) → answered s ≡ cof_says text → left (answered s.year) s.lists ≡ read_of text held
  all_put s f = rw (← e, ← f)
