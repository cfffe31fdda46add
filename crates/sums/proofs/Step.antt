-- The row step reads only what its branch needs: so P at a degree and order follows from those values of the two degrees before.
use mathlib.Core.Path.{◌≡◌, refl}
use mathlib.Core.Bool.{Bool, true, false}
use mathlib.Core.Logic.{⊎_elim, ◌⊎◌, inl, inr}
use Prim.Native.Nat.{ℕ, zero, suc, ◌-◌, ◌<◌, ◌≤◌}
use native.Mathlib.Nat.{not-suc-le-zero}
use native.Mathlib.Omega.{arith}
use borrow.Author.Tests.{eqb-true, eqb-false, eq-eqb, ne_eqb, lt-ltb, le-ltb, ltb-true, ltb-false}
use lib.Dec.{eqb, ltb}
use Rattle.sums.specs.Arithmetic.{Arithmetic, Pair}
use Rattle.sums.specs.Recurrence.{Input, legendre, step}

pub same_or : (a b : ℕ) → (a ≡ b) ⊎ (a ≡ b → ⊥)
same_or a b = go (eqb a b) refl
  where
    go : (t : Bool) → eqb a b ≡ t → (a ≡ b) ⊎ (a ≡ b → ⊥)
    go true e = inl (eqb-true a b e)
    go false e = inr (eqb-false a b e)

pub less_or : (a b : ℕ) → (a < b) ⊎ (b ≤ a)
less_or a b = go (ltb a b) refl
  where
    go : (t : Bool) → ltb a b ≡ t → (a < b) ⊎ (b ≤ a)
    go true e = inl (ltb-true a b e)
    go false e = inr (ltb-false a b e)

-- the step reads only what its order needs
module _ {A : Type 0} (o : Arithmetic A) (c s k : A) (n m : ℕ) (z : 0 < n) (l : m ≤ n) (q' q r Q' Q R : Pair A) (a : n ≡ m → q' ≡ Q') (b : m < n → q ≡ Q) (d : m < n - 1 → r ≡ R) where
  step_same : step o c s k n m q' q r ≡ step o c s k n m Q' Q R
  unfolding step
  step_same =
      ⊎_elim
      (λ (e : n ≡ m). simp (eq-eqb n m e) (rw (a e)))
      (λ ne. let h : m < n = omega arith in
      ⊎_elim
      (λ (e : n ≡ 1). let m0 : m ≡ 0 = omega arith in simp (ne_eqb n m ne, eq-eqb n 1 e, eq-eqb m 0 m0))
      (λ n1. ⊎_elim
      (λ (g : n - 2 < m). simp (ne_eqb n m ne, ne_eqb n 1 n1, lt-ltb (n - 2) m g) (rw (b h)))
      (λ (g : m ≤ n - 2). let j : m < n - 1 = omega arith in simp (ne_eqb n m ne, ne_eqb n 1 n1, le-ltb (n - 2) m g) (rw (b h, d j)))
      (less_or (n - 2) m))
      (same_or n 1))
      (same_or n m)

-- P at the next degree and order m, from what the step reads there
pub legendre_next : {A : Type 0} (o : Arithmetic A) (i : Input A) (n m : ℕ) → m ≤ suc n → (q' q r : Pair A)
    → (suc n ≡ m → q' ≡ legendre o i n n) → (m ≤ n → q ≡ legendre o i n m) → (m < n → r ≡ legendre o i (n - 1) m)
    → step o (o.num i.cos_theta) (o.num i.sin_theta) (o.num (i.K (suc n) m)) (suc n) m q' q r ≡ legendre o i (suc n) m
unfolding legendre
legendre_next o i zero m l q' q r a b d =
    step_same o _ _ _ 1 m (omega arith) l q' q r _ _ _ (λ e. let f : m - 1 ≡ 0 = omega arith in rw f (a e)) (λ h. b (omega arith)) (λ h. absurd (not-suc-le-zero h))
legendre_next o i (suc n) m l q' q r a b d =
    let u : suc n - 1 ≡ n = omega arith in
    step_same o _ _ _ (suc (suc n)) m (omega arith) l q' q r _ _ _ (λ e. let f : m - 1 ≡ suc n = omega arith in rw f (a e)) (λ h. b (omega arith)) (λ h. rw u at (d (omega arith)))
