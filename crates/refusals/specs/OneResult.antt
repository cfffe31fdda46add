-- What it is for a contract to leave one result. Definitions only.
use Rattle.std.specs.Prelude.{◌≡◌, List, ℕ}
use contract.Lifetimes.{Lfts}
use seplogic.Ra.Ura.{Ura}
use base.Logic.{SProp, ent, sep}
use prog.Memory.{Memory}
use prog.Routine.{Routine}
use types.Logic.{Logic}
use contract.Monad.{Fun, fact}
use denote.Triple.Entry.{Args, Res}
use denote.Triple.Clauses.{Clauses, Ended, Lasts, at_exit}
use borrow.Fn.Kinds.{ParamKind, ResultKind, Dens, res_t, ended_of, Out}

-- whatever is passed: any two results that the contract allows are equal, and so is what it lets the lent places hold at exit. (A list that is
-- lent by `&` holds what it held, whatever a contract says.) The contract is what the kit makes of a function's `ensures`, its `Post`; ps and r
-- are the kinds of its parameters and of its result
abbrev pub OneResult : {n : ℕ} (ps : List (ParamKind n)) (r : ResultKind n) → Out n ps r → Type 0
OneResult {n} ps r contract =
    (κs : Lfts n) (a : Dens κs ps) (x y : (res_t r κs).Denot) (u v : Lasts (ended_of n ps r) κs a)
    → contract κs a x (at_exit (ended_of n ps r) κs a u) → contract κs a y (at_exit (ended_of n ps r) κs a v) → (x ≡ y) × (u ≡ v)

-- the same over a function's `clauses`, which are its `ensures` as assertions of the kit's logic:
-- what they say of the one result and of the other entails that the two are equal
abbrev pub OneAnswer : (T : Ended) → ((M : Type 1) (𝓤 : Ura M) → (𝓛 : Logic 𝓤) → (Memory → SProp 𝓤) → (Routine → Fun 𝓤) → Clauses 𝓤 T) → Type 2
OneAnswer T contract =
    (M : Type 1) (𝓤 : Ura M) (𝓛 : Logic 𝓤) (mem : Memory → SProp 𝓤) (run : Routine → Fun 𝓤) (κs : Lfts T.signature.lifetimes) (a : Args T.signature κs) (g : (contract M 𝓤 𝓛 mem run κs a).ghost)
    (x y : Res T.signature κs) (u v : Lasts T κs a)
    → ent 𝓤 (sep 𝓤 ((contract M 𝓤 𝓛 mem run κs a).ensures g x (at_exit T κs a u)) ((contract M 𝓤 𝓛 mem run κs a).ensures g y (at_exit T κs a v))) (fact 𝓤 ((x ≡ y) × (u ≡ v)))
