-- The search of a list by year, one record after another: what is known before each turn, and what each turn finds. Assumes nothing.
use mathlib.Core.Path.{◌≡◌, refl, sym, ap, ◌∙◌}
use mathlib.Core.Bool.{true, false}
use mathlib.Core.List.{List, [], ◌∷◌}
use Prim.Native.Nat.{ℕ, zero, suc, ◌+◌, ◌-◌, ◌<◌, ◌≤◌}
use native.Mathlib.Omega.{arith}
use lib.IntN.{ℤ}
use lib.ListN.{length, get_or, drop, length-drop, drop_of_length-le}
use Rattle.std.proofs.Common.{add-one, drop-cons}
use Rattle.refusals.specs.declared.Refusal.TheVariants.{NoErrorRecord}
use Rattle.refusals.specs.Paper.{paper}
use Rattle.models.specs.declared.records.ErrorRecord.{ErrorRecord}
use Rattle.models.specs.Epochs.{same_year}
use Rattle.models.specs.Records.{figures_says, listed_errors}

-- before a turn: i records were looked at, zs are left, and what the list gives is what zs give
pub record Turn (ys : List ErrorRecord) (year : ℤ) : Type 0 where
  pub i : ℕ
  pub zs : List ErrorRecord
  pub rest : drop i ys ≡ zs
  pub still : listed_errors zs year ≡ listed_errors ys year

abbrev pub start : (ys : List ErrorRecord) (year : ℤ) → Turn ys year
start ys year = record { i = 0; zs = ys; rest = refl; still = refl }

-- ---- the list from place i on
pub past : (i : ℕ) (ys : List ErrorRecord) → drop i ys ≡ [] → length ys ≤ i
past i ys e = let q : length ys - i ≡ 0 = sym (length-drop i ys) ∙ ap length e in omega (arith, q)

module _ {r : ErrorRecord} {zs : List ErrorRecord} where
  left : (i : ℕ) (ys : List ErrorRecord) → drop i ys ≡ r ∷ zs → length ys - i ≡ suc (length zs)
  left i ys e = sym (length-drop i ys) ∙ ap length e

  pub within : (i : ℕ) (ys : List ErrorRecord) → drop i ys ≡ r ∷ zs → i < length ys
  within i ys e = omega (arith, left i ys e)

  none : [] ≡ r ∷ zs → ⊥
  none e = let q : 0 ≡ suc (length zs) = ap length e in omega (arith, q)

  pub head_at : (i : ℕ) (ys : List ErrorRecord) (d : ErrorRecord) → drop i ys ≡ r ∷ zs → get_or ys i d ≡ r
  head_at zero ys d e = ap (λ (l : List ErrorRecord). get_or l 0 d) e
  head_at (suc i) [] d e = absurd (none e)
  head_at (suc i) (y ∷ ys) d e = head_at i ys d e

  pub tail_at : (i : ℕ) (ys : List ErrorRecord) → drop i ys ≡ r ∷ zs → drop (suc i) ys ≡ zs
  tail_at zero [] e = absurd (none e)
  tail_at zero (y ∷ ys) e = ap (λ (l : List ErrorRecord). drop 1 l) e
  tail_at (suc i) [] e = absurd (none e)
  tail_at (suc i) (y ∷ ys) e = tail_at i ys e

-- ---- what a turn finds
module _ (r : ErrorRecord) (zs : List ErrorRecord) (year : ℤ) where
  -- a record of the year ends the search
  pub first_match : same_year year r.epoch_year ≡ true → listed_errors (r ∷ zs) year ≡ figures_says r.figures
  unfolding listed_errors
  first_match e = rw e refl

  -- another is passed over
  pub passed_over : same_year year r.epoch_year ≡ false → listed_errors (r ∷ zs) year ≡ listed_errors zs year
  unfolding listed_errors
  passed_over e = rw e refl

abbrev pub next : {ys : List ErrorRecord} {year : ℤ} (i : ℕ) (r : ErrorRecord) (zs : List ErrorRecord) → drop i ys ≡ r ∷ zs → listed_errors (r ∷ zs) year ≡ listed_errors ys year → same_year year r.epoch_year ≡ false → Turn ys year
next {ys} {year} i r zs e s n = record { i = suc i; zs = zs; rest = tail_at i ys e; still = sym (passed_over r zs year n) ∙ s }

-- ---- what a turn finds, by the place that it stands at
module _ (xs : List ErrorRecord) (year : ℤ) (d : ErrorRecord) (i : ℕ) (h : i < length xs) (k : listed_errors (drop i xs) year ≡ listed_errors xs year) where
  here : drop i xs ≡ get_or xs i d ∷ drop (suc i) xs
  here = drop-cons xs i d h

  pub met_at : same_year year (get_or xs i d).epoch_year ≡ true → listed_errors xs year ≡ figures_says (get_or xs i d).figures
  met_at e = sym k ∙ ap (λ (l : List ErrorRecord). listed_errors l year) here ∙ first_match (get_or xs i d) (drop (suc i) xs) year e

  pub passed_at : same_year year (get_or xs i d).epoch_year ≡ false → listed_errors (drop (i + 1) xs) year ≡ listed_errors xs year
  passed_at e = rw add-one (sym (passed_over (get_or xs i d) (drop (suc i) xs) year e) ∙ ap (λ (l : List ErrorRecord). listed_errors l year) (sym here) ∙ k)

-- the end of the list: no record is of the year
pub none_left : (xs : List ErrorRecord) (year : ℤ) (i : ℕ) → length xs ≤ i → listed_errors (drop i xs) year ≡ listed_errors xs year → listed_errors xs year ≡ paper NoErrorRecord
unfolding listed_errors
none_left xs year i h k = sym k ∙ rw (drop_of_length-le xs {i = i} h)
