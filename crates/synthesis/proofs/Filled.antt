-- A list that a loop fills from its start: the angles, and the start values; and the weights.
use mathlib.Core.Path.{◌≡◌, refl, ap, ◌∙◌}
use mathlib.Core.Bool.{cond}
use mathlib.Core.Logic.{⊎_elim}
use borrow.Author.Tests.{le-ltb, lt-ltb}
use lib.Dec.{ltb}
use lib.Seq.{get_or-append_right}
use Rattle.tables.specs.Degree.{N_MAX}
use Rattle.sums.proofs.Step.{less_or}
use mathlib.Core.List.{List, [], ◌∷◌, ◌++◌}
use Prim.Native.Nat.{ℕ, zero, suc, ◌+◌, ◌-◌, ◌<◌, ◌≤◌}
use native.Mathlib.Nat.{le_of_suc-le-suc, not-suc-le-zero}
use native.Mathlib.Numerals.{add-one}
use native.Mathlib.Omega.{arith}
use lib.ListN.{length, get_or, set, drop, replicate, get_or-append, get_or-replicate}
use lib.Ieee.{Float, nan, binary32, add, sub, mul}
use Rattle.sums.specs.Recurrence.{angle}
use Rattle.synthesis.specs.Code.{W_LEN, cos_at, first, sin_at, start_at}
use Rattle.sums.specs.Arithmetic.{rounded}

pub first_more : (f : ℕ → Float) (m : ℕ) (d : List Float) → m < length d → set (first f m ++ drop m d) m (f m) ≡ first f (suc m) ++ drop (suc m) d
unfolding first
first_more f m [] h = absurd (not-suc-le-zero h)
first_more f zero (x ∷ d) h = refl
first_more f (suc m) (x ∷ d) h = ap (λ (t : List Float). f 0 ∷ t) (first_more (λ k. f (suc k)) m d (le_of_suc-le-suc h))

pub first_at : (f : ℕ → Float) (m k : ℕ) (e : List Float) → k < m → get_or (first f m ++ e) k nan ≡ f k
unfolding first
first_at f zero k e h = absurd (not-suc-le-zero h)
first_at f (suc m) zero e h = refl
first_at f (suc m) (suc k) e h = first_at (λ j. f (suc j)) m k e (le_of_suc-le-suc h)

-- the entry at k
pub first_get : (f : ℕ → Float) (m k : ℕ) → k < m → get_or (first f m) k nan ≡ f k
unfolding first
first_get f zero k h = absurd (not-suc-le-zero h)
first_get f (suc m) zero h = refl
first_get f (suc m) (suc k) h = first_get (λ j. f (suc j)) m k (le_of_suc-le-suc h)

pub first_next : (f : ℕ → Float) (m : ℕ) (l d : List Float) (v : Float) → m < length d → l ≡ first f m ++ drop m d → v ≡ f m → set l m v ≡ first f (m + 1) ++ drop (m + 1) d
first_next f m l d v h e ev = rw (e, ev, add-one) (first_more f m d h)

module _ (sl cl : Float) (l₁ l₂ d₁ d₂ : List Float) where
  pub next_sin : (m : ℕ) → 0 < m → m < length d₁ → l₁ ≡ first (sin_at sl cl) m ++ drop m d₁ → l₂ ≡ first (cos_at sl cl) m ++ drop m d₂
      → set l₁ m (add binary32 (mul binary32 (get_or l₁ (m - 1) nan) cl) (mul binary32 (get_or l₂ (m - 1) nan) sl)) ≡ first (sin_at sl cl) (m + 1) ++ drop (m + 1) d₁
  unfolding angle rounded
  next_sin zero z h e₁ e₂ = absurd (not-suc-le-zero z)
  next_sin (suc k) z h e₁ e₂ =
      let v : suc k - 1 ≡ k = omega arith in
      let w : k < suc k = omega arith in
      rw (e₁, e₂, v, add-one, first_at (sin_at sl cl) (suc k) k (drop (suc k) d₁) w, first_at (cos_at sl cl) (suc k) k (drop (suc k) d₂) w) (first_more (sin_at sl cl) (suc k) d₁ h)

  pub next_cos : (m : ℕ) → 0 < m → m < length d₂ → l₁ ≡ first (sin_at sl cl) m ++ drop m d₁ → l₂ ≡ first (cos_at sl cl) m ++ drop m d₂
      → set l₂ m (sub binary32 (mul binary32 (get_or l₂ (m - 1) nan) cl) (mul binary32 (get_or l₁ (m - 1) nan) sl)) ≡ first (cos_at sl cl) (m + 1) ++ drop (m + 1) d₂
  unfolding angle rounded
  next_cos zero z h e₁ e₂ = absurd (not-suc-le-zero z)
  next_cos (suc k) z h e₁ e₂ =
      let v : suc k - 1 ≡ k = omega arith in
      let w : k < suc k = omega arith in
      rw (e₁, e₂, v, add-one, first_at (sin_at sl cl) (suc k) k (drop (suc k) d₁) w, first_at (cos_at sl cl) (suc k) k (drop (suc k) d₂) w) (first_more (cos_at sl cl) (suc k) d₂ h)

-- the start values of the lanes
module _ (c s : Float) (l₁ l₂ d₁ d₂ : List Float) where
  abbrev p_at : ℕ → Float
  p_at k = (start_at c s k).fst

  abbrev dp_at : ℕ → Float
  dp_at k = (start_at c s k).snd

  pub next_p : (m : ℕ) → 0 < m → m < length d₁ → l₁ ≡ first p_at m ++ drop m d₁ → l₂ ≡ first dp_at m ++ drop m d₂
      → set l₁ m (mul binary32 s (get_or l₁ (m - 1) nan)) ≡ first p_at (m + 1) ++ drop (m + 1) d₁
  unfolding start_at rounded
  next_p zero z h e₁ e₂ = absurd (not-suc-le-zero z)
  next_p (suc k) z h e₁ e₂ =
      let v : suc k - 1 ≡ k = omega arith in
      let w : k < suc k = omega arith in
      rw (e₁, v, add-one, first_at p_at (suc k) k (drop (suc k) d₁) w) (first_more p_at (suc k) d₁ h)

  pub next_dp : (m : ℕ) → 0 < m → m < length d₂ → l₁ ≡ first p_at m ++ drop m d₁ → l₂ ≡ first dp_at m ++ drop m d₂
      → set l₂ m (add binary32 (mul binary32 s (get_or l₂ (m - 1) nan)) (mul binary32 c (get_or l₁ (m - 1) nan))) ≡ first dp_at (m + 1) ++ drop (m + 1) d₂
  unfolding start_at rounded
  next_dp zero z h e₁ e₂ = absurd (not-suc-le-zero z)
  next_dp (suc k) z h e₁ e₂ =
      let v : suc k - 1 ≡ k = omega arith in
      let w : k < suc k = omega arith in
      rw (e₁, e₂, v, add-one, first_at p_at (suc k) k (drop (suc k) d₁) w, first_at dp_at (suc k) k (drop (suc k) d₂) w) (first_more dp_at (suc k) d₂ h)

-- one number in the first half of the weights, another in the second
pub below_at : (below then : Float) (j : ℕ) → j < W_LEN → get_or (replicate N_MAX below ++ replicate N_MAX then) j nan ≡ cond (ltb j N_MAX) below then
below_at below then j h =
    let l : List Float = replicate N_MAX below in
    let r : List Float = replicate N_MAX then in
    ⊎_elim
    (λ (a : j < N_MAX). get_or-append l r nan j a ∙ get_or-replicate N_MAX j below nan a ∙ rw (lt-ltb j N_MAX a) refl)
    (λ (a : N_MAX ≤ j). get_or-append_right l r j nan a ∙ get_or-replicate N_MAX (j - N_MAX) then nan (omega arith) ∙ rw (le-ltb j N_MAX a) refl)
    (less_or j N_MAX)
