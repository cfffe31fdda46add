-- That a call never ends in a given refusal: through each way in which what is said is put together. Assumes nothing.
use mathlib.Core.Path.{◌≡◌, refl, sym}
use mathlib.Core.Bool.{Bool, true, false, true≢false}
use Prim.Native.Nat.{ℕ}
use Rattle.refusals.specs.declared.Refusal.{Refusal}
use Rattle.std.specs.Prelude.{Ok, Err}
use Rattle.refusals.specs.Paper.{line, Paper, answered, refused, paper, unless, after, told, check, both, Verdict}

-- k has another number than n
abbrev pub Other : ℕ → Refusal → Type 0
Other n k = (line k).number ≡ n → ⊥

-- what is said is not refusal n
abbrev pub Never : {A : Type 0} → ℕ → Paper A → Type 0
Never n (answered a) = Prim.Unit
Never n (refused m f z) = m ≡ n → ⊥

abbrev pub Passes : ℕ → Verdict → Type 0
Passes n (Ok _) = Prim.Unit
Passes n (Err k) = Other n k

module _ {A : Type 0} (n : ℕ) where
  pub never_unless : (b : Bool) (k : Refusal) (p : Paper A) → Other n k → Never n p → Never n (unless b (paper k) p)
  never_unless true k p o h = h
  never_unless false k p o h = o

  pub never_told : (u : Verdict) (p : Paper A) → Passes n u → Never n p → Never n (told u p)
  never_told (Ok _) p o h = h
  never_told (Err k) p o h = o

  pub never_after : {B : Type 0} (p : Paper B) (f : B → Paper A) → Never n p → ((b : B) → p ≡ answered b → Never n (f b)) → Never n (after p f)
  never_after (answered b) f h g = g b refl
  never_after (refused m x z) f h g = h

module _ (n : ℕ) where
  pub passes_check : (b : Bool) (k : Refusal) (v : Verdict) → Other n k → Passes n v → Passes n (check b k v)
  passes_check true k v o h = h
  passes_check false k v o h = o

  -- a check that passes cannot refuse, whatever its number
  pub passes_true : (b : Bool) (k : Refusal) (v : Verdict) → b ≡ true → Passes n v → Passes n (check b k v)
  passes_true true k v e h = h
  passes_true false k v e h = absurd (true≢false (sym e))

  pub passes_both : (u v : Verdict) → Passes n u → Passes n v → Passes n (both u v)
  passes_both (Ok _) v o h = h
  passes_both (Err k) v o h = o
