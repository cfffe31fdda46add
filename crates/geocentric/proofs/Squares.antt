-- Squares and inverses of floats as exact numbers: none has a minus, since a float's own number has one part only. Assumes nothing.
use mathlib.Core.Path.{◌≡◌, refl, ap, ap₂, ◌∙◌}
use Prim.Native.Nat.{ℕ, ◌+◌, ◌*◌}
use native.Mathlib.Nat.{zero-mul, mul-zero}
use native.Mathlib.Omega.{arith}
use mathlib.Core.Bool.{true, false}
use lib.Dec.{T}
use lib.Ieee.{Float, nan, inf, fin, up}
use lib.Ieee.Positive.{num, den, positive}
use Rattle.exact.specs.Exact.{Exact, own, mul_e, add_e, inv_e}
use Rattle.exact.proofs.Sizes.{own_size, own_over}
use Rattle.geocentric.proofs.Fractions.{mk, mk_eq, own_above}

pub one_part : (f : Float) → (own f).plus * (own f).minus ≡ 0
unfolding own
one_part nan = refl
one_part (inf s) = refl
one_part (fin false m e) = mul-zero (m * up e)
one_part (fin true m e) = zero-mul (m * up e)

-- (p - m) * (p - m), where one of the two is 0 and the other is n
pub square_plus : (p m n : ℕ) → p * m ≡ 0 → p + m ≡ n → p * p + m * m ≡ n * n
square_plus p m n z e = mid (ap (λ (x : ℕ). x * x) e)
  where
    mid : (p + m) * (p + m) ≡ n * n → p * p + m * m ≡ n * n
    mid x = omega arith

pub square_one : (x : Exact) (n d : ℕ) → x.plus * x.minus ≡ 0 → x.plus + x.minus ≡ n → x.over ≡ d → mul_e x x ≡ mk (n * n) 0 (d * d)
unfolding mul_e
square_one x n d z e o = mk_eq (square_plus x.plus x.minus n z e) (none x.plus x.minus z) (ap (λ (y : ℕ). y * y) o)
  where
    none : (p m : ℕ) → p * m ≡ 0 → p * m + m * p ≡ 0
    none p m z = omega arith

pub square_own : (f : Float) → mul_e (own f) (own f) ≡ mk (num f * num f) 0 (den f * den f)
square_own f = square_one (own f) (num f) (den f) (one_part f) (own_size f) (own_over f)

-- with i / j for a factor that has no minus
pub square_of_lem : (f : Float) (i j : ℕ) → mul_e (mul_e (own f) (mk i 0 j)) (mul_e (own f) (mk i 0 j)) ≡ mk (num f * i * (num f * i)) 0 (den f * j * (den f * j))
unfolding mul_e
square_of_lem f i j = square_one (mul_e (own f) (mk i 0 j)) (num f * i) (den f * j) (a (own f).plus (own f).minus (one_part f)) (b (own f).plus (own f).minus (own_size f)) (ap (λ (y : ℕ). y * j) (own_over f))
  where
    a : (p m : ℕ) → p * m ≡ 0 → (p * i + m * 0) * (p * 0 + m * i) ≡ 0
    a p m z = go (ap (λ (y : ℕ). y * (i * i)) z)
      where
        go : p * m * (i * i) ≡ 0 * (i * i) → (p * i + m * 0) * (p * 0 + m * i) ≡ 0
        go y = omega arith

    b : (p m : ℕ) → p + m ≡ num f → p * i + m * 0 + (p * 0 + m * i) ≡ num f * i
    b p m e = go (ap (λ (y : ℕ). y * i) e)
      where
        go : (p + m) * i ≡ num f * i → p * i + m * 0 + (p * 0 + m * i) ≡ num f * i
        go y = omega arith

pub add_plain : (a c b d : ℕ) → add_e (mk a 0 c) (mk b 0 d) ≡ mk (a * d + b * c) 0 (c * d)
unfolding add_e
add_plain a c b d = mk_eq refl (omega arith) refl

pub sum_own : (p z : Float) → add_e (mul_e (own p) (own p)) (mul_e (own z) (own z)) ≡ mk (num p * num p * (den z * den z) + num z * num z * (den p * den p)) 0 (den p * den p * (den z * den z))
sum_own p z = ap₂ add_e (square_own p) (square_own z) ∙ add_plain (num p * num p) (den p * den p) (num z * num z) (den z * den z)

pub inv_own : (r : Float) → T (positive r) → inv_e (own r) ≡ mk (num r * den r) 0 (num r * num r)
unfolding inv_e
inv_own r p = ap inv_e (own_above r p) ∙ mk_eq refl (zero-mul (den r)) (s (num r))
  where
    s : (a : ℕ) → a * a + 0 * 0 ≡ a * a
    s a = omega arith
