-- For proofs by hand: the types of a function's locals, the machine values of references, and an `ensures` of several clauses. Assumes nothing.
use Prim.Native.Nat.{ℕ, zero, suc}
use mathlib.Core.List.{List, [], ◌∷◌}
use seplogic.Ra.Ura.{Ura}
use lib.ListN.{length}
use mir.Syntax.{Ty, Local, local, ty_bool}
use mir.Val.{Val, vptr}
use base.Logic.{SProp, sep, via, assoc∗}
use types.Logic.{Logic}
use contract.Monad.{fact}
use types.Kit.{Item, Step, step, prop, ◌$◌}
use denote.Ref.{Bor}
use denote.Slice.{slice_val}
use denote.Triple.Walked.{says}

-- the type of local i, as the function's own table spells it: a declared type's `mir` is the same, and costs the checker far more to compare
abbrev pub ty_at : ℕ → List Local → Ty
ty_at i [] = ty_bool
ty_at zero (local τ h ∷ ls) = τ
ty_at (suc i) (local τ h ∷ ls) = ty_at i ls

-- the machine value of a reference to a slice, and of one to a single place
abbrev pub slice_val_of : {X : Type 0} → Bor (List X) → Val
slice_val_of x = slice_val x.ref_ptr (length x.now)

abbrev pub place_val : {X : Type 0} → Bor X → Val
place_val x = vptr x.ref_ptr.0 x.ref_ptr.1

-- ---- a goal P ∗ (⌜φ⌝ ∗ ⌜ψ⌝), as the clauses of an `ensures` stand: all are shown, and P is left
module _ {M : Type 1} {𝓤 : Ura M} {𝓛 : Logic 𝓤} {K : Type 0} {Γ : List (Item 𝓤)} where
  pub says_both : K → {φ ψ : Type 0} {P : SProp 𝓤} → φ → ψ → Step K 𝓛 Γ (prop P) Γ (prop (sep 𝓤 P (sep 𝓤 (fact 𝓤 φ) (fact 𝓤 ψ))))
  says_both t {φ} {ψ} {P} x y = step (λ s. record { prf = via 𝓤 (sep 𝓤 (sep 𝓤 P (fact 𝓤 φ)) (fact 𝓤 ψ)) (says t y $ says t x $ s).prf (assoc∗ 𝓤 P (fact 𝓤 φ) (fact 𝓤 ψ)) })

  pub says_three : K → {φ ψ χ : Type 0} {P : SProp 𝓤} → φ → ψ → χ → Step K 𝓛 Γ (prop P) Γ (prop (sep 𝓤 P (sep 𝓤 (fact 𝓤 φ) (sep 𝓤 (fact 𝓤 ψ) (fact 𝓤 χ)))))
  says_three t {φ} {ψ} {χ} {P} x y z = step (λ s. record { prf = via 𝓤 (sep 𝓤 (sep 𝓤 P (fact 𝓤 φ)) (sep 𝓤 (fact 𝓤 ψ) (fact 𝓤 χ))) (says_both t y z $ says t x $ s).prf (assoc∗ 𝓤 P (fact 𝓤 φ) (sep 𝓤 (fact 𝓤 ψ) (fact 𝓤 χ))) })
