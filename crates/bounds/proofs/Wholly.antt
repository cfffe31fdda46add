-- The sums of `absolutes` have no minus: they are the majorants of demand 3.
use mathlib.Core.Path.{◌≡◌, refl, ap, ◌∙◌}
use Prim.Native.Nat.{ℕ, ◌+◌, ◌*◌}
use native.Mathlib.Omega.{arith}
use mathlib.Core.Bool.{true, false}
use lib.Ieee.{Float, nan, inf, fin, up, down}
use Rattle.exact.specs.Tests.{abs}
use Rattle.exact.specs.Exact.{Exact, Size, add_e, inv_e, mul_e, own, size}
use Rattle.sums.specs.Arithmetic.{plus_s, sizes, times_s}
use Rattle.sums.proofs.Images.{Hom}
use Rattle.bounds.specs.Bounds.{absolutes}

-- a size as an exact number
abbrev pub wholly : Size → Exact
wholly s = record { plus = s.num; minus = 0; over = s.over }

-- ---- every operation of sizes is the same operation of such numbers
no_minus : (a b : ℕ) → 0 ≡ 0 * a + 0 * b
no_minus a b = omega arith

product_plus : (a b : ℕ) → a * b ≡ a * b + 0 * 0
product_plus a b = omega arith

product_minus : (a b : ℕ) → 0 ≡ a * 0 + 0 * b
product_minus a b = omega arith

wholly_plus : (s t : Size) → wholly (plus_s s t) ≡ add_e (wholly s) (wholly t)
unfolding plus_s add_e
wholly_plus s t = λ j. record { plus = s.num * t.over + t.num * s.over; minus = no_minus t.over s.over j; over = s.over * t.over }

wholly_times : (s t : Size) → wholly (times_s s t) ≡ mul_e (wholly s) (wholly t)
unfolding times_s mul_e
wholly_times s t = λ j. record { plus = product_plus s.num t.num j; minus = product_minus s.num t.num j; over = s.over * t.over }

add_nothing : (a : ℕ) → a + 0 ≡ a
add_nothing a = omega arith

to_nothing : (a : ℕ) → 0 + a ≡ a
to_nothing a = omega arith

wholly_own : (f : Float) → wholly (size (own f)) ≡ own (abs f)
unfolding own
wholly_own nan = refl
wholly_own (inf s) = refl
wholly_own (fin false m e) = λ j. record { plus = add_nothing (m * up e) j; minus = 0; over = down e }
wholly_own (fin true m e) = λ j. record { plus = to_nothing (m * up e) j; minus = 0; over = down e }

-- one over a number without minus, and of one without plus
plain : (a c : ℕ) → a * c + 0 * c ≡ a * c
plain a c = omega arith

turned : (a c : ℕ) → 0 * c + a * c ≡ a * c
turned a c = omega arith

nothing : (c : ℕ) → 0 ≡ 0 * c
nothing c = omega arith

swapped : (a : ℕ) → 0 * 0 + a * a ≡ a * a + 0 * 0
swapped a = omega arith

wholly_inv : (f : Float) → wholly (size (inv_e (own f))) ≡ inv_e (own (abs f))
unfolding own inv_e
wholly_inv nan = refl
wholly_inv (inf s) = refl
wholly_inv (fin false m e) = λ j. record { plus = plain (m * up e) (down e) j; minus = nothing (down e) j; over = m * up e * (m * up e) + 0 * 0 }
wholly_inv (fin true m e) = λ j. record { plus = turned (m * up e) (down e) j; minus = nothing (down e) j; over = swapped (m * up e) j }

pub wholly_hom : Hom sizes absolutes wholly
unfolding sizes absolutes
wholly_hom =
    record {
      plus = wholly_plus;
      less = wholly_plus;
      times = wholly_times;
      opp = λ x. refl;
      over = λ x f. wholly_times x (size (inv_e (own f))) ∙ ap (mul_e (wholly x)) (wholly_inv f);
      num = wholly_own;
    }
