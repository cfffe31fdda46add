-- A reader's answer: what it says leaves one answer, and what it means for the set. Assumes nothing.
use mathlib.Core.Path.{◌≡◌, sym, ap, ◌∙◌}
use mathlib.Core.Bool.{true}
use lib.IntN.{ℤ}
use Rattle.std.specs.Prelude.{Result}
use Rattle.refusals.specs.Paper.{Paper, answered, refused, paper, after, said}
use Rattle.refusals.specs.declared.Refusal.{Refusal}
use Rattle.refusals.proofs.Laws.{answered_one, no_answer, no_refusal, paper_one}
use Rattle.refusals.proofs.Laws as refusal_laws
use Rattle.lists.specs.Lists.{long}
use Rattle.lists.specs.Sets.{Left, Lists, ModelSet, afterwards, left, read_into}

pub said_one : (x y : Result ℤ Refusal) → said x ≡ said y → x ≡ y
said_one = refusal_laws.said_one

-- ---- a reader that says q and leaves the lists l, where p is what it reads and the lists it was lent are long enough
module _ (p : Paper ModelSet) (held l : Lists) (q : Paper ℤ) (n : long held.g held.h held.g_dot held.h_dot ≡ true) (e : left q l ≡ read_into p held) where
  read_on : left q l ≡ afterwards p held
  read_on = e ∙ rw n

  -- a refusal is that of what is read
  pub read_refused : {B : Type 0} (k : Refusal) → q ≡ paper k → (f : ModelSet → Paper B) → paper k ≡ after p f
  read_refused {B} k r f = go p (sym r ∙ ap (λ (w : Left). w.says) read_on)
    where
      go : (o : Paper ModelSet) → paper k ≡ (afterwards o held).says → ◌≡◌ {A = Paper B} (paper k) (after o f)
      go (answered m) h = absurd (no_answer k m.year h)
      go (refused i x z) h = ap (λ (o : Paper ℤ). after o (λ (y : ℤ). paper {A = B} k)) h

  -- an answer is the set that is read
  pub read_answered : (y : ℤ) → q ≡ answered y → p ≡ answered (record { year = y; lists = l })
  read_answered y r = go p (sym (ap (λ (o : Paper ℤ). left o l) r) ∙ read_on)
    where
      go : (o : Paper ModelSet) → left (answered y) l ≡ afterwards o held → o ≡ answered (record { year = y; lists = l })
      go (answered m) h =
          let year = answered_one y m.year (ap (λ (w : Left). w.says) h) in
          let lists = ap (λ (w : Left). w.lists) h in
          λ i. answered (record { year = sym year i; lists = sym lists i })
      go (refused i x z) h = absurd (no_refusal (ap (λ (w : Left). w.says) h))
