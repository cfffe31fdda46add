-- The refusals that tell no place. No function's proof cites them: the check finds its way through the cases. Assumes nothing.
use mathlib.Core.Path.{◌≡◌, sym, ap, subst, ◌∙◌}
use mathlib.Core.Bool.{Bool, false, not, ◌||◌, cond}
use mathlib.Core.List.{List, [], ◌∷◌, map}
use Prim.Native.Nat.{ℕ, suc}
use lib.Dec.{T, eqb}
use lib.IntN.{pos, nat_abs}
use lib.ListN.{get_or}
use mir.Val.{has_key}
use types.Run.{OneOf, miss}
use denote.Struct.Field.{Field}
use borrow.Author.Tests.{ne_eqb}
use Rattle.refusals.specs.declared.Refusal.{Refusal}
use Rattle.refusals.specs.declared.Refusal.TheVariants.{Malformed, OutOfOrder, WrongEnd, WrongLength, WrongTag}
use Rattle.refusals.specs.Paper.{line, paper}
use Rattle.refusals.specs.contracts.Refusal.{the_type}
use Rattle.refusals.proofs.Laws.{case, same_case}
use Rattle.ffi.specs.Told.{where_place}

-- 13, 14, 17, 18 and 19: what l tells
pub where_noted : (held i : ℕ) (k l : Refusal) → k ≡ l → i ≡ where_place held (paper {A = ℕ} l) → i ≡ where_place held (paper {A = ℕ} k)
where_noted held i k l e h = h ∙ sym (ap (λ (r : Refusal). where_place held (paper {A = ℕ} r)) e)

-- ---- a refusal of another case than 7, one of another than 8, and one that tells no place
-- the cases from i on, but those of cs
abbrev pub but : List ℕ → ℕ → List (List Field) → List ℕ
but cs i [] = []
but cs i (fields ∷ rest) = cond (has_key cs i) (but cs (suc i) rest) (i ∷ but cs (suc i) rest)

-- every case but those of ls
abbrev pub all_but : List Refusal → List ℕ
all_but ls = but (map case ls) 0 the_type.parts

-- over any list of cases, so that it is computed once
other_number : (cs : List ℕ) (k l : Refusal) → T (not (has_key cs (case l))) → OneOf cs (case k) → eqb (line k).number (line l).number ≡ false
other_number cs k l n c = ne_eqb _ _ (λ e. miss cs (case l) n (subst (OneOf cs) (same_case k l e) c))

-- one of two, by a test that fails
not_taken : {A : Type 0} (b : Bool) (x y : A) → b ≡ false → y ≡ cond b x y
not_taken b x y e = rw e

-- the refusals that tell where a reader stopped
abbrev pub tells_where : List Refusal
tells_where = Malformed 0 ∷ OutOfOrder 0 ∷ WrongTag 0 ∷ WrongLength 0 ∷ WrongEnd 0 ∷ []

none_of : {A : Type 0} (a b c d e : Bool) (x y : A) → a ≡ false → b ≡ false → c ≡ false → d ≡ false → e ≡ false → y ≡ cond (a || b || c || d || e) x y
none_of a b c d e x y f g h i j = rw (f, g, h, i, j)

told_nowhere : (cs : List ℕ) (held : ℕ) (k : Refusal) → T (not (has_key cs (case (Malformed 0)))) → T (not (has_key cs (case (OutOfOrder 0)))) → T (not (has_key cs (case (WrongTag 0))))
    → T (not (has_key cs (case (WrongLength 0)))) → T (not (has_key cs (case (WrongEnd 0)))) → OneOf cs (case k) → held ≡ where_place held (paper {A = ℕ} k)
told_nowhere cs held k m o t l e c =
    let n = (line k).number in
    none_of (eqb n 13) (eqb n 14) (eqb n 17) (eqb n 18) (eqb n 19) (nat_abs (get_or (line k).wholes 0 (pos 0))) held
    (other_number cs k (Malformed 0) m c)
    (other_number cs k (OutOfOrder 0) o c)
    (other_number cs k (WrongTag 0) t c)
    (other_number cs k (WrongLength 0) l c)
    (other_number cs k (WrongEnd 0) e c)

pub where_kept : (held : ℕ) (k : Refusal) → OneOf (all_but tells_where) (case k) → held ≡ where_place held (paper {A = ℕ} k)
where_kept held k c = told_nowhere (all_but tells_where) held k tt tt tt tt tt c
