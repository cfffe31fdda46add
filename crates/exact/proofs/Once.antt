-- The square of a float, and the sum of two that are not below zero, as one fraction that is rounded once. Assumes nothing.
use mathlib.Core.Path.{◌≡◌, sym, ap, ap₂, ◌∙◌}
use Prim.Native.Nat.{ℕ, ◌+◌, ◌*◌, ◌<◌}
use native.Mathlib.Nat.{mul-pos}
use native.Mathlib.Omega.{arith}
use mathlib.Core.Bool.{Bool, true, false, true≢false}
use lib.IntN.{ℤ}
use lib.Ieee.{Float, nan, inf, fin, binary32, up, down, round, sum, add, mul}
use lib.Ieee.Fits.{down_pos}
use lib.Ieee.Exact.{HasValue}
use lib.Ieee.Scale.{round_same}

same_square : (m : ℕ) (e : ℤ) (a c : ℕ) → 0 < c → m * up e * c ≡ a * down e → round binary32 false (m * up e * (m * up e)) (down e * down e) ≡ round binary32 false (a * a) (c * c)
same_square m e a c p v = round_same binary32 false (m * up e * (m * up e)) (down e * down e) (a * a) (c * c) (mul-pos (down_pos e) (down_pos e)) (mul-pos p p) (shape (m * up e) c ∙ ap (λ (x : ℕ). x * x) v ∙ sym (shape a (down e)))
  where
    shape : (x c : ℕ) → x * x * (c * c) ≡ x * c * (x * c)
    shape x c = omega arith

pub square_is : (x : Float) (s : Bool) (a c : ℕ) → 0 < c → HasValue x s a c → mul binary32 x x ≡ round binary32 false (a * a) (c * c)
unfolding mul
square_is nan s a c p v = absurd v
square_is (inf t) s a c p v = absurd v
square_is (fin true m e) s a c p v = same_square m e a c p v.1
square_is (fin false m e) s a c p v = same_square m e a c p v.1

pub add_is : (x y : Float) (g h U : ℕ) → 0 < U → HasValue x false g U → HasValue y false h U → add binary32 x y ≡ round binary32 false (g + h) U
unfolding add sum
add_is nan y g h U p v w = absurd v
add_is (inf s) y g h U p v w = absurd v
add_is (fin s m e) nan g h U p v w = absurd w
add_is (fin s m e) (inf t) g h U p v w = absurd w
add_is (fin true m e) (fin t n d) g h U p v w = absurd (true≢false v.0)
add_is (fin false m e) (fin true n d) g h U p v w = absurd (true≢false w.0)
add_is (fin false m e) (fin false n d) g h U p v w =
    round_same binary32 false (m * up e * down d + n * up d * down e) (down e * down d) (g + h) U (mul-pos (down_pos e) (down_pos d)) p
    (shape (m * up e) (down d) (n * up d) (down e) U ∙ ap₂ ◌+◌ (ap (λ (x : ℕ). x * down d) v.1) (ap (λ (x : ℕ). x * down e) w.1) ∙ shape' g h (down e) (down d))
  where
    shape : (a d b e U : ℕ) → (a * d + b * e) * U ≡ a * U * d + b * U * e
    shape a d b e U = omega arith

    shape' : (g h e d : ℕ) → g * e * d + h * d * e ≡ (g + h) * (e * d)
    shape' g h e d = omega arith
