-- What is said of a set that is read from bytes: what the reader refuses, then what is said of the set. Assumes nothing.
use mathlib.Core.Path.{◌≡◌, sym, ap}
use mathlib.Core.Bool.{true}
use mathlib.Core.List.{List}
use Prim.Native.Nat.{ℕ}
use lib.IntN.{ℤ}
use lib.ListN.{replicate}
use lib.Ieee.{Float, binary32, of_bits}
use Rattle.refusals.specs.Paper.{Paper, answered, refused, paper, after}
use Rattle.refusals.specs.declared.Refusal.{Refusal}
use Rattle.tables.specs.Degree.{N_COEFF}
use Rattle.lists.specs.Lists.{long}
use Rattle.lists.specs.Sets.{Left, Lists, ModelSet, afterwards, left, lists_of}
use Rattle.lists.proofs.Sets.{read_answered, read_refused}
use Rattle.stored.specs.Stored.{read_of, stored_says}
use Rattle.field.specs.Field.{asked, field_says}
use Rattle.ffi.specs.Told.{stored_field}

-- a reader says q and leaves the lists l, where p is what it reads
pub read_then : {B : Type 0} (p : Paper ModelSet) (held l : Lists) (q : Paper ℤ) → left q l ≡ afterwards p held → (f : ModelSet → Paper B) → after q (λ y. f (record { year = y; lists = l })) ≡ after p f
read_then (answered m) held l q e f = ap (λ (w : Left). after w.says (λ y. f (record { year = y; lists = w.lists }))) e
read_then (refused n x z) held l q e f = ap (λ (w : Left). after w.says (λ y. f (record { year = y; lists = w.lists }))) e

-- what lists of n entries hold before a set is read into them
abbrev pub zeros : ℕ → Lists
zeros n = let z = replicate n (of_bits binary32 0) in lists_of z z z z

-- read into lists of 90 entries
module _ (s : List ℕ) (height sp cp sl cl : Float) (year day : ℤ) (q : Paper ℤ) (l : Lists) where
  pub bytes_read : left q l ≡ read_of s (zeros N_COEFF) → after q (λ y. field_says (asked height sp cp sl cl y l.g l.h l.g_dot l.h_dot) year day) ≡ stored_field s height sp cp sl cl year day
  unfolding stored_field
  bytes_read e = read_then (stored_says s) (zeros N_COEFF) l q e (λ m. field_says (asked height sp cp sl cl m.year m.lists.g m.lists.h m.lists.g_dot m.lists.h_dot) year day)

-- read into lent lists, from what the reader said of them. No proof cites it
module _ (s : List ℕ) (height sp cp sl cl : Float) (year day : ℤ) (q : Paper ℤ) (held l : Lists) (e : left q l ≡ read_of s held) (n : long held.g held.h held.g_dot held.h_dot ≡ true) where
  pub bytes_refused : (k : Refusal) → q ≡ paper k → paper k ≡ stored_field s height sp cp sl cl year day
  unfolding stored_field
  bytes_refused k r = read_refused (stored_says s) held l q n e k r _

  pub bytes_answered : (y : ℤ) → q ≡ answered y → field_says (asked height sp cp sl cl y l.g l.h l.g_dot l.h_dot) year day ≡ stored_field s height sp cp sl cl year day
  unfolding stored_field
  bytes_answered y r =
      sym (ap (λ (p : Paper ModelSet). after p (λ m. field_says (asked height sp cp sl cl m.year m.lists.g m.lists.h m.lists.g_dot m.lists.h_dot) year day))
      (read_answered (stored_says s) held l q n e y r))
