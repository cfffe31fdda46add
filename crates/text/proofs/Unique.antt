-- Every public contract leaves one result: each law is over what the kit makes of the function's `ensures`. A result that is lent bytes is one by what they hold.
use mathlib.Core.Path.{◌≡◌, refl, sym, ◌∙◌}
use contract.Lifetimes.{Lfts}
use denote.Triple.Clauses.{Lasts, at_exit}
use borrow.Fn.Kinds.{ParamKind, ResultKind, Dens, res_t, ended_of, Out}
use mathlib.Core.List.{List}
use Prim.Native.Nat.{ℕ}
use Rattle.refusals.specs.OneResult.{OneResult}
use Rattle.text.proofs.first_line as first_line_fn
use Rattle.text.proofs.first_word as first_word_fn
use Rattle.text.proofs.is_blank as is_blank_fn
use Rattle.text.proofs.read_decimal as read_decimal_fn
use Rattle.text.proofs.read_number as read_number_fn
use Rattle.text.proofs.read_whole as read_whole_fn

pub read_decimal : OneResult read_decimal_fn.Kinds.ps read_decimal_fn.Kinds.r read_decimal_fn.Reads.Post
read_decimal κs a x y u v p q = (p.0 ∙ sym q.0, refl)

pub read_number : OneResult read_number_fn.Kinds.ps read_number_fn.Kinds.r read_number_fn.Reads.Post
read_number κs a x y u v p q = (p.0 ∙ sym q.0, refl)

pub read_whole : OneResult read_whole_fn.Kinds.ps read_whole_fn.Kinds.r read_whole_fn.Reads.Post
read_whole κs a x y u v p q = (p.0 ∙ sym q.0, refl)

pub is_blank : OneResult is_blank_fn.Kinds.ps is_blank_fn.Kinds.r is_blank_fn.Reads.Post
is_blank κs a x y u v p q = (p ∙ sym q, refl)

-- as `OneResult`, of what `seen` says of a result
abbrev OneSeen : {n : ℕ} (ps : List (ParamKind n)) (r : ResultKind n) (A : Type 0) (seen : (κs : Lfts n) → (res_t r κs).Denot → A) → Out n ps r → Type 0
OneSeen {n} ps r A seen contract =
    (κs : Lfts n) (a : Dens κs ps) (x y : (res_t r κs).Denot) (u v : Lasts (ended_of n ps r) κs a)
    → contract κs a x (at_exit (ended_of n ps r) κs a u) → contract κs a y (at_exit (ended_of n ps r) κs a v) → (seen κs x ≡ seen κs y) × (u ≡ v)

alike : (a b c d : List ℕ) → a ≡ c → b ≡ d → ◌≡◌ {A = List ℕ × List ℕ} (a, b) (c, d)
alike a b c d e f = λ i. (e i, f i)

pub first_line_lem : OneSeen first_line_fn.Kinds.ps first_line_fn.Kinds.r (List ℕ × List ℕ) (λ κs x. (x.line.now, x.rest.now)) first_line_fn.Reads.Post
first_line_lem κs a x y u v p q = (alike _ _ _ _ (p.0 ∙ sym q.0) (p.1.0 ∙ sym q.1.0), refl)

pub first_word : OneSeen first_word_fn.Kinds.ps first_word_fn.Kinds.r (List ℕ × List ℕ) (λ κs x. (x.word.now, x.rest.now)) first_word_fn.Reads.Post
first_word κs a x y u v p q = (alike _ _ _ _ (p.0 ∙ sym q.0) (p.1.0 ∙ sym q.1.0), refl)
