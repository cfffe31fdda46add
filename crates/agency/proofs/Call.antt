-- The ways to an answer of the call by its steps: the header, the lines, the caps, and what is put into the lent lists. No function's proof cites them.
use mathlib.Core.Path.{◌≡◌, refl, sym, ap, subst, ◌∙◌}
use mathlib.Core.Bool.{Bool, true, false, not}
use mathlib.Core.List.{List, ◌++◌}
use Prim.Native.Nat.{ℕ}
use borrow.Author.Tests.{not-true, not-false}
use lib.IntN.{ℤ}
use lib.ListN.{take, drop}
use Rattle.std.specs.Prelude.{Result, Ok, Err}
use Rattle.refusals.specs.Paper.{Paper, Verdict, accepted, answered, refused, paper, after, said, told}
use Rattle.refusals.specs.declared.Refusal.{Refusal}
use Rattle.refusals.specs.declared.Refusal.TheVariants.{Length}
use Rattle.refusals.proofs.Laws.{no_answer, no_refusal}
use Rattle.tables.specs.Degree.{N_COEFF}
use Rattle.lists.specs.Lists.{long}
use Rattle.lists.specs.Sets.{Lists, ModelSet, afterwards, left, lists_of, set_verdict}
use Rattle.text.specs.Lines.{lines}
use Rattle.agency.specs.Cof.{cof_says, columns, file_says, first, header_says, read_of, rows_say}
use Rattle.agency.specs.Code.{Filled, RowsFilled}
use Rattle.agency.specs.declared.entries.Entry.{Entry}

-- ---- the file
module _ (ls : List (List ℕ)) (l : Lists) where
  at_once : (k : Refusal) → header_says ls ≡ paper k → file_says ls ≡ paper k
  unfolding file_says
  at_once k e = rw e

  pub no_file : (k : Refusal) → header_says ls ≡ paper k → Filled (file_says ls) (paper k) l
  no_file k e = subst (λ (p : Paper ModelSet). Filled p (paper k) l) (sym (at_once k e)) refl

  module _ (y : ℤ) (rest : List (List ℕ)) (e : header_says ls ≡ answered (y, rest)) where
    -- what is said once the header is read
    behind : file_says ls ≡ after (rows_say N_COEFF 2 first rest) (λ es. answered (record { year = y; lists = columns es }))
    unfolding file_says
    behind = rw e

    pub bad_lines : (k : Refusal) → RowsFilled (rows_say N_COEFF 2 first rest) (Err k) l → Filled (file_says ls) (paper k) l
    bad_lines k f = subst (λ (p : Paper ModelSet). Filled p (paper k) l) (sym behind) (go (rows_say N_COEFF 2 first rest) f)
      where
        go : (q : Paper (List Entry)) → RowsFilled q (Err k) l → Filled (after q (λ es. answered (record { year = y; lists = columns es }))) (paper k) l
        go (answered es) h = absurd h
        go (refused n f z) h = h

    pub good_lines : RowsFilled (rows_say N_COEFF 2 first rest) accepted l → Filled (file_says ls) (answered y) l
    good_lines f = subst (λ (p : Paper ModelSet). Filled p (answered y) l) (sym behind) (go (rows_say N_COEFF 2 first rest) f)
      where
        go : (q : Paper (List Entry)) → RowsFilled q accepted l → Filled (after q (λ es. answered (record { year = y; lists = columns es }))) (answered y) l
        go (answered es) h = (refl, h)
        go (refused n f z) h = absurd h

-- ---- the file, with its entries checked
module _ (text : List ℕ) (l : Lists) where
  pub unread : (k : Refusal) → Filled (file_says (lines text)) (paper k) l → Filled (cof_says text) (paper k) l
  unfolding cof_says
  unread k f = go (file_says (lines text)) f
    where
      go : (q : Paper ModelSet) → Filled q (paper k) l → Filled (after q (λ s. told (set_verdict s.lists) (answered s))) (paper k) l
      go (answered s) h = absurd (no_answer k s.year h.0)
      go (refused m f z) h = h

  pub within_caps : (y : ℤ) → Filled (file_says (lines text)) (answered y) l → (v : Verdict) → v ≡ set_verdict l → v ≡ accepted → Filled (cof_says text) (answered y) l
  unfolding cof_says
  within_caps y f v w h = go (file_says (lines text)) f
    where
      go : (q : Paper ModelSet) → Filled q (answered y) l → Filled (after q (λ s. told (set_verdict s.lists) (answered s))) (answered y) l
      go (answered s) g = subst (λ (u : Verdict). Filled (told u (answered s)) (answered y) l) (sym (ap set_verdict (sym g.1) ∙ sym w ∙ h)) g
      go (refused m f z) g = absurd (no_refusal g)

-- the first c of l's, then those that were held
abbrev pub put_in : ℕ → Lists → Lists → Lists
put_in c l held =
    lists_of (take c l.g ++ drop c held.g) (take c l.h ++ drop c held.h) (take c l.g_dot ++ drop c held.g_dot) (take c l.h_dot ++ drop c held.h_dot)

-- ---- the call, where b says whether the lent lists are ninety long
module _ (text : List ℕ) (held : Lists) (b : Bool) (e : b ≡ long held.g held.h held.g_dot held.h_dot) where
  pub not_ninety : not b ≡ true → left (paper Length) held ≡ read_of text held
  not_ninety n = rw (sym e, not-true b n)

  module _ (n : not b ≡ false) (l : Lists) where
    -- the file decides
    decided : read_of text held ≡ afterwards (cof_says text) held
    decided = rw (sym e, not-false b n)

    file_refused : (k : Refusal) → Filled (cof_says text) (paper k) l → left (paper k) held ≡ read_of text held
    file_refused k f = sym (decided ∙ go (cof_says text) f)
      where
        go : (q : Paper ModelSet) → Filled q (paper k) l → afterwards q held ≡ left (paper k) held
        go (answered s) h = absurd (no_answer k s.year h.0)
        go (refused m f z) h = ap (λ (p : Paper ℤ). left p held) (sym h)

    module _ (r : Result ℤ Refusal) (f : Filled (cof_says text) (said r) l) (c : ℕ) where
      -- a refusal puts nothing
      pub nothing_put : (k : Refusal) → r ≡ Err k → c ≡ 0 → left (said r) (put_in c l held) ≡ read_of text held
      nothing_put k e z =
          ap (λ (n : ℕ). left (said r) (put_in n l held)) z
          ∙ ap (λ (a : Result ℤ Refusal). left (said a) held) e
          ∙ file_refused k (subst (λ (a : Result ℤ Refusal). Filled (cof_says text) (said a) l) e f)
