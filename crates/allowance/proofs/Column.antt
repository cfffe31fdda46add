-- P and its derivative, from one degree to the next on the way to an order.
use mathlib.Core.Path.{◌≡◌, ap, ◌∙◌}
use Prim.Native.Nat.{ℕ, suc, min, ◌+◌, ◌-◌, ◌<◌, ◌≤◌}
use native.Mathlib.Nat.{not-suc-le-zero}
use native.Mathlib.Numerals.{add-one}
use native.Mathlib.Omega.{arith}
use lib.Ieee.{Float, binary32, of_bits}
use Rattle.exact.specs.Tests.{abs}
use Rattle.tables.specs.Rule.{k_of}
use Rattle.sums.specs.Recurrence.{Input, legendre, step}
use Rattle.sums.specs.Paths.{placed}
use Rattle.synthesis.specs.Sum.{Lent, inputs}
use Rattle.sums.proofs.Step.{legendre_next}
use Rattle.synthesis.specs.declared.rows.PDp.{PDp}
use Rattle.bounds.specs.Bounds.{bounds}
use Rattle.synthesis.specs.Code.{pdp, qp}
use Rattle.allowance.proofs.Lits.{abs_zero, abs_one}

-- on the way to order m: degree n at its own order while that is at most m, then at order m; prev2 is one degree before
pub record Way (i : Input Float) (n m : ℕ) (prev1 prev2 : PDp) : Type 0 where
  pub diagonal : n ≤ m → qp prev1 ≡ legendre bounds i n n
  pub column : m ≤ n → qp prev1 ≡ legendre bounds i n m
  pub before : m < n → qp prev2 ≡ legendre bounds i (n - 1) m

-- degree 0
pub start : (i : Input Float) (m : ℕ) → Way i 0 m (record { p = of_bits binary32 0x3f800000; dp = of_bits binary32 0 }) (record { p = of_bits binary32 0; dp = of_bits binary32 0 })
unfolding legendre bounds
start i m = record { diagonal = λ h. rw (abs_zero, abs_one); column = λ h. let e : m ≡ 0 = omega arith in rw (e, abs_zero, abs_one); before = λ h. absurd (not-suc-le-zero h) }

-- one degree more, at order o
pub next : (a : Lent) (n m o : ℕ) (c s k : Float) (prev1 prev2 r : PDp) → o ≡ min m (n + 1)
    → c ≡ abs a.cos_theta → s ≡ abs a.sin_theta → k ≡ abs (k_of (n + 1) o)
    → r ≡ pdp (step bounds c s k (n + 1) o (qp prev1) (qp prev1) (qp prev2)) → Way (inputs bounds a) n m prev1 prev2
    → Way (inputs bounds a) (n + 1) m r prev1
unfolding inputs placed bounds
next a n m o c s k prev1 prev2 r ho ec es ek er w =
    let u : n + 1 - 1 ≡ n = omega arith in
    let l : o ≤ suc n = omega arith in
    let e : qp r ≡ legendre bounds (inputs bounds a) (suc n) o =
    ap qp er ∙ rw (ec, es, ek, add-one)
    (legendre_next bounds (inputs bounds a) n o l (qp prev1) (qp prev1) (qp prev2)
    (λ f. w.diagonal (omega arith))
    (λ f. let g : o ≡ m = omega arith in rw g (w.column (omega arith)))
    (λ f. let g : o ≡ m = omega arith in rw g (w.before (omega arith)))) in
    record {
      diagonal = λ h. let f : o ≡ suc n = omega arith in rw add-one (rw f at e);
      column = λ h. let f : o ≡ m = omega arith in rw add-one (rw f at e);
      before = λ h. rw u (w.column (omega arith));
    }
