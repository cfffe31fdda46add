-- Three rows, and the terms: what a store changes, and what a rotation does.
use mathlib.Core.Path.{◌≡◌, refl, sym, ap, ◌∙◌}
use mathlib.Core.List.{List, [], ◌∷◌}
use mathlib.Core.Logic.{⊎_elim}
use Prim.Native.Nat.{ℕ, ◌+◌, ◌<◌}
use native.Mathlib.Omega.{arith}
use lib.ListN.{get_or, set, length, length-set}
use lib.Seq.{get_or-set_same, get_or-set_other}
use lib.Ieee.{Float, nan}
use Rattle.synthesis.specs.declared.rows.Places.{Places}
use Rattle.synthesis.specs.declared.Xyz.{Xyz}
use Rattle.tables.specs.Degree.{N_LEGENDRE}
use Rattle.sums.proofs.Step.{same_or}
use Rattle.synthesis.specs.declared.terms.Terms.{Terms}
use Rattle.synthesis.specs.declared.rows.PDp.{PDp}
use Rattle.synthesis.specs.declared.rows.Rows.{Rows}
use Rattle.synthesis.specs.Code.{Apart, Sized, Wide, cell, cell_xyz, put, put_pair, put_pairs, put_term, rotated}

-- ---- a store into one row
module _ (w : ℕ) (p : List (List Float)) (k m : ℕ) (v : Float) (hk : k < 3) (hm : m < w) (z : Sized w p) where
  here : get_or (put p k m v) k [] ≡ set (get_or p k []) m v
  here = get_or-set_same p k (set (get_or p k []) m v) [] (omega (arith, z.rows))

  pub put_same : cell (put p k m v) k m ≡ v
  put_same = ap (λ (l : List Float). get_or l m nan) here ∙ get_or-set_same (get_or p k []) m v nan (omega (arith, z.cells k hk))

  pub put_row : (l : ℕ) → (l ≡ m → ⊥) → cell (put p k m v) k l ≡ cell p k l
  put_row l n = ap (λ (t : List Float). get_or t l nan) here ∙ get_or-set_other (get_or p k []) m l v nan n

  pub put_other : (j l : ℕ) → (j ≡ k → ⊥) → cell (put p k m v) j l ≡ cell p j l
  put_other j l n = ap (λ (t : List Float). get_or t l nan) (get_or-set_other p k j (set (get_or p k []) m v) [] n)

  size_at : (j : ℕ) → j < 3 → length (get_or (put p k m v) j []) ≡ w
  size_at j hj =
      ⊎_elim
      (λ e. ap (λ (u : ℕ). length (get_or (put p k m v) u [])) e ∙ ap length here ∙ length-set (get_or p k []) m v ∙ z.cells k hk)
      (λ n. ap length (get_or-set_other p k j (set (get_or p k []) m v) [] n) ∙ z.cells j hj)
      (same_or j k)

  pub put_sized : Sized w (put p k m v)
  put_sized = record { rows = length-set p k (set (get_or p k []) m v) ∙ z.rows; cells = size_at }

-- four stores, by two
pub put4_is : (k m : ℕ) (a b c d : PDp) (r r' r'' : Rows) → r' ≡ put_pair (put_pair r k m a) k (m + 1) b → r'' ≡ put_pair (put_pair r' k (m + 2) c) k (m + 2 + 1) d → r'' ≡ put_pairs r k m (a ∷ b ∷ c ∷ d ∷ [])
put4_is k m a b c d r r' r'' e e' = let u : m + 2 + 1 ≡ m + 3 = omega arith in e' ∙ rw (e, u)

-- the terms of a place, stored
module _ (t : Terms) (m : ℕ) (v : Xyz) (hm : m < N_LEGENDRE) (z : Wide t) where
  pub term_wide : Wide (put_term t m v)
  unfolding put_term
  term_wide = record { x = length-set t.x m v.x ∙ z.x; y = length-set t.y m v.y ∙ z.y; z = length-set t.z m v.z ∙ z.z }

  pub term_same : cell_xyz (put_term t m v) m ≡ v
  unfolding put_term
  term_same = rw (get_or-set_same t.x m v.x nan (omega (arith, z.x)), get_or-set_same t.y m v.y nan (omega (arith, z.y)), get_or-set_same t.z m v.z nan (omega (arith, z.z))) refl

  pub term_other : (l : ℕ) → (l ≡ m → ⊥) → cell_xyz (put_term t m v) l ≡ cell_xyz t l
  unfolding put_term
  term_other l n = rw (get_or-set_other t.x m l v.x nan n, get_or-set_other t.y m l v.y nan n, get_or-set_other t.z m l v.z nan n) refl

-- the degree is done: its row becomes the row before
pub apart_rotate : (q : Places) → Apart q → Apart (rotated q)
apart_rotate q w = record {
  prev2 = w.prev1;
  prev1 = w.cur;
  cur = w.prev2;
  prev1_cur = λ e. w.prev2_cur (sym e);
  prev2_cur = w.prev1_prev2;
  prev1_prev2 = λ e. w.prev1_cur (sym e);
}
