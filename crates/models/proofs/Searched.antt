-- For a walk by hand that calls `error_model_listed`: its contract, what it asks and what it says. Assumes nothing.
use mathlib.Core.Path.{◌≡◌}
use mathlib.Core.List.{List, [], ◌∷◌}
use lib.IntN.{ℤ}
use seplogic.Ra.Ura.{Ura}
use mir.Syntax.{Place, Opd as Operand, Body, seq, call, named, w32}
use mir.Val.{Val, vint, of_z}
use base.Logic.{SProp, ent, sep, via, fst∗, snd∗, ex_e, id⊢}
use base.Fml.{Lft, Share, ftrue, flft}
use prog.Memory.{Memory}
use prog.Routine.{Routine}
use prog.Wp.{Env, Calls, Loops}
use types.Logic.{Logic, sem}
use contract.Monad.{Fun, fact}
use types.Kit.{Item, Post, Seq, runs, lands, ‵, raw, ◌⊛◌, some, later, ⋆, ◌$◌, ◌∵◌, !, qed, move, use1, split, join, pick, frame, await, done}
use types.Run.{Opds}
use sound.WpLaws.{FmC}
use denote.RattleType.{RattleType, owns}
use denote.Laws.{Is, shows}
use denote.Builtin.{i32}
use denote.Ref.{Bor}
use denote.Slice.{ShrSlice}
use denote.Steps.{peeks, heard}
use denote.Triple.Statement.{Contract, Triple}
use denote.Triple.Call.{calls_at}
use denote.Triple.Spec.{triple_of}
use denote.Triple.Clauses.{ensured, lasts}
use Rattle.std.specs.Prelude.{Result}
use Rattle.refusals.specs.Paper.{said}
use Rattle.refusals.specs.declared.Refusal.{Refusal}
use Rattle.models.specs.declared.errors.WmmErrorModel.{WmmErrorModel}
use Rattle.models.specs.declared.records.ErrorRecord.{ErrorRecord}
use Rattle.models.specs.Records.{listed_errors}
use Rattle.models.proofs.Walk.{slice_val_of}
use Rattle.models.specs.contracts.records.ErrorRecord as T
use Rattle.std.specs.contracts.result.Result as result
use Rattle.refusals.specs.contracts.Refusal as refusal
use Rattle.models.specs.contracts.errors.WmmErrorModel as figures
use Rattle.models.specs.contracts.records.error_model_listed as search
use Rattle.models.proofs.records.error_model_listed.Symbol.{name as #search}

-- what stands in a place that holds an answer
abbrev answer_row : RattleType
answer_row = result.the_row figures.the_row refusal.the_row

-- the machine value of a year
abbrev pub year_val : ℤ → Val
year_val z = vint w32 (of_z w32 z)

module _ {M : Type 1} {𝓤 : Ura M} (𝓛 : Logic 𝓤) (mem : Memory → SProp 𝓤) (run : Routine → Fun 𝓤) where
  abbrev pub Search : Contract 𝓤
  Search = triple_of 𝓛 search.signature (search.spec 𝓛 mem run)

  module _ (κ : Lft) (rs : Bor (List ErrorRecord)) (z : ℤ) where
    -- what it says of its result
    pub said_search : (a : Result WmmErrorModel Refusal) → ent 𝓤 (ensured 𝓛 search.ended (search.clauses 𝓛 mem run) (κ, tt) (rs, (z, tt)) tt a) (fact 𝓤 (said a ≡ listed_errors rs.now z))
    said_search a =
        let says = fact 𝓤 (said a ≡ listed_errors rs.now z) in
        let kept = fact 𝓤 (rs.now ≡ rs.now) in
        ex_e 𝓤 _ (λ ws. via 𝓤 (sep 𝓤 says kept) (snd∗ 𝓤 (sem 𝓛 (lasts search.ended (κ, tt) (rs, (z, tt)) ws)) (sep 𝓤 says kept)) (fst∗ 𝓤 says kept))

    module _ (q : Share) where
      abbrev pub to_search : Search.Ghost
      to_search = (((κ, tt), (q, tt), tt, (rs, (z, tt)), (slice_val_of rs ∷ [], (year_val z ∷ [], tt))), tt)

      -- the token, and what the list and the year own
      pub asks_search : ent 𝓤 (⋆ 𝓛 ((‵ (flft κ q) ⊛ ‵ ftrue) ∷ ‵ (owns (ShrSlice (named 0) κ T.the_row ∷ i32 ∷ []) (rs, (z, tt)) (slice_val_of rs ∷ [], (year_val z ∷ [], tt))) ∷ [])) (Search.pre to_search)
      asks_search = qed 𝓛 ((‵ (flft κ q) ⊛ ‵ ftrue) ∷ ‵ (owns (ShrSlice (named 0) κ T.the_row ∷ i32 ∷ []) (rs, (z, tt)) (slice_val_of rs ∷ [], (year_val z ∷ [], tt))) ∷ []) ∵ join ! $ frame ! $ done !

-- a call of the search: the token comes back, and what is had of the figures, their relation and what is said of them
module _ {M : Type 1} {𝓤 : Ura M} {𝓛 : Logic 𝓤} {K : Type 0} {Γ : List (Item 𝓤)} {E : Env 𝓤 𝓛.H} {C : Calls 𝓤 𝓛.H} {Λ : Loops 𝓤 𝓛.H} {q : Post 𝓤 𝓛.H} {d : Place} {rest : Body} {xs : List Operand} where
  open 𝓛 use {H}

  pub calls_search : K → FmC 𝓤 H 𝓛.laws C → (mem : Memory → SProp 𝓤) (run : Routine → Fun 𝓤) (κ : Lft) (s : Share) (rs : Bor (List ErrorRecord)) (z : ℤ) → Triple 𝓤 (C #search) (Search 𝓛 mem run)
      → Opds K 𝓛 (raw ((Search 𝓛 mem run).pre (to_search 𝓛 mem run κ rs z s)) ∷ Γ) E xs (slice_val_of rs ∷ year_val z ∷ [])
      → ((u : Val) (a : Result WmmErrorModel Refusal) → Is answer_row a (u ∷ []) → said a ≡ listed_errors rs.now z → Seq K 𝓛 (‵ (answer_row.own_val a (u ∷ [])) ∷ (‵ (flft κ s) ⊛ ‵ ftrue) ∷ Γ) (lands C Λ E d u rest q))
      → Seq K 𝓛 (raw ((Search 𝓛 mem run).pre (to_search 𝓛 mem run κ rs z s)) ∷ Γ) (runs C Λ E (seq (call #search xs d) rest) q)
  calls_search t fm mem run κ s rs z met os k =
      calls_at t fm (Search 𝓛 mem run) met (to_search 𝓛 mem run κ rs z s) os (λ u.
      use1 𝓛 (later (some (λ (a : Result WmmErrorModel Refusal). ((‵ (flft κ s) ⊛ ‵ ftrue) ⊛ ‵ (answer_row.own_val a (u ∷ []))) ⊛ raw (ensured 𝓛 search.ended (search.clauses 𝓛 mem run) (κ, tt) (rs, (z, tt)) tt a)))) (id⊢ 𝓤 _) $ await t tt $ pick t (λ a.
      split t $ move t (1 ∷ []) $ use1 𝓛 (raw (fact 𝓤 (said a ≡ listed_errors rs.now z))) (said_search 𝓛 mem run κ rs z a) $ heard t (said a ≡ listed_errors rs.now z) (λ e.
      split t $ move t (1 ∷ []) $ peeks t answer_row (Is answer_row) (shows 𝓛 answer_row) a (u ∷ []) (λ is. k u a is e))))
