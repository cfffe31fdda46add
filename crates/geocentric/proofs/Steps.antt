-- A product and a quotient of floats above zero, each a rounded fraction: their bounds. Assumes nothing.
use mathlib.Core.Path.{◌≡◌, refl, sym, subst}
use Prim.Native.Nat.{ℕ, ◌*◌, ◌≤◌, ◌<◌}
use native.Mathlib.Nat.{lt_irrefl, mul-pos}
use mathlib.Core.Bool.{Bool, true, false, cond}
use lib.Dec.{T, eqb, ltb→lt, eqb→eq}
use lib.Ieee.{Float, nan, inf, fin, binary32, up, down, unlike, round, mul, div}
use lib.Ieee.Positive.{num, den, positive, positive-finite, den_pos, mul_at, own_value}
use lib.Ieee.Scale.{finite}
use Rattle.geocentric.proofs.Fractions.{num_pos, Between, held, of_round}

pub product : (a b c : ℕ) (x y : Float) → T (positive x) → T (positive y) → T (held a c) → T (held b c) → 0 < c → a * (den x * den y) ≤ num x * num y * c → num x * num y * c ≤ b * (den x * den y)
    → Between a b c (mul binary32 x y)
product a b c x y p q ta tb C l h =
    subst (λ (z : Float). Between a b c z) (sym (mul_at binary32 x y (num x) (den x) (num y) (den y) p q (den_pos x) (den_pos y) (own_value x p) (own_value y q)))
    (of_round a b c (num x * num y) (den x * den y) ta tb C (mul-pos (den_pos x) (den_pos y)) l h)

-- a float's sign, set if it is minus
abbrev pub sign : Float → Bool
sign nan = false
sign (inf s) = s
sign (fin s m e) = s

-- a quotient by a float above zero
pub div_at : (x y : Float) → T (finite x) → T (positive y) → div binary32 x y ≡ round binary32 (unlike (sign x) false) (num x * den y) (num y * den x)
unfolding div
div_at nan y p q = absurd p
div_at (inf s) y p q = absurd p
div_at (fin s m e) nan p q = absurd q
div_at (fin s m e) (inf t) p q = absurd q
div_at (fin s m e) (fin true n d) p q = absurd q
div_at (fin s m e) (fin false n d) p q = go (eqb n 0) (λ (z : T (eqb n 0)). lt_irrefl 0 (subst (λ (k : ℕ). 0 < k) (eqb→eq n 0 z) (ltb→lt 0 n q)))
  where
    go : (b : Bool) → (T b → ⊥) → cond b (cond (eqb m 0) nan (inf (unlike s false))) (round binary32 (unlike s false) (m * up e * down d) (n * up d * down e)) ≡ round binary32 (unlike s false) (m * up e * down d) (n * up d * down e)
    go true k = absurd (k tt)
    go false k = refl

no_sign : (x : Float) → T (positive x) → unlike (sign x) false ≡ false
no_sign nan p = absurd p
no_sign (inf s) p = absurd p
no_sign (fin true m e) p = absurd p
no_sign (fin false m e) p = refl

pub quotient : (a b c : ℕ) (x y : Float) → T (positive x) → T (positive y) → T (held a c) → T (held b c) → 0 < c → a * (num y * den x) ≤ num x * den y * c → num x * den y * c ≤ b * (num y * den x)
    → Between a b c (div binary32 x y)
quotient a b c x y p q ta tb C l h =
    rw (div_at x y (positive-finite x p) q, no_sign x p) (of_round a b c (num x * den y) (num y * den x) ta tb C (mul-pos (num_pos y q) (den_pos x)) l h)
