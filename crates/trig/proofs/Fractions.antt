-- Another fraction of the same value is as near, and one beside it half as near. Assumes nothing.
use mathlib.Core.Path.{◌≡◌, ap}
use Prim.Native.Nat.{ℕ, ◌+◌, ◌*◌, ◌≤◌, ◌<◌}
use native.Mathlib.Nat.{mul-le-mul_right, le_of_mul-le-mul_right}
use native.Mathlib.Omega.{arith}
use Rattle.trig.specs.Circle.{Ratio, NotAbove, NotBelow, About}

-- a / b = a' / b'
module _ (t a b a' b' : ℕ) (p : 0 < b) (e : a' * b ≡ a * b') where
  move_above : (x : Ratio) → NotAbove t a b x → NotAbove t a' b' x
  move_above x h = le_of_mul-le-mul_right (shape x.bottom (t * x.top + x.bottom) (ap (λ (y : ℕ). y * (t * x.bottom)) e) (mul-le-mul_right b' h)) p
    where
      shape : (B X : ℕ) → a' * b * (t * B) ≡ a * b' * (t * B) → t * a * B * b' ≤ X * b * b' → t * a' * B * b ≤ X * b' * b
      shape B X g i = omega arith

  move_below : (x : Ratio) → NotBelow t a b x → NotBelow t a' b' x
  move_below x h = le_of_mul-le-mul_right (shape x.top x.bottom (ap (λ (y : ℕ). y * (t * x.bottom)) e) (mul-le-mul_right b' h)) p
    where
      shape : (T B : ℕ) → a' * b * (t * B) ≡ a * b' * (t * B) → t * b * T * b' ≤ (t * a + b) * B * b' → t * b' * T * b ≤ (t * a' + b') * B * b
      shape T B g i = omega arith

  pub move_about : {low high : Ratio} → About t a b low high → About t a' b' low high
  move_about {low} {high} h = record { above = move_above low h.above; below = move_below high h.below }

-- a' / b' is within 1 / (2 * t) of a / b
pub record Beside (t a b a' b' : ℕ) : Type 0 where
  pub up : 2 * t * (a' * b) ≤ 2 * t * (a * b') + b * b'
  pub down : 2 * t * (a * b') ≤ 2 * t * (a' * b) + b * b'

module _ (t a b a' b' : ℕ) (p : 0 < b) (s : Beside t a b a' b') where
  beside_above : (x : Ratio) → NotAbove (2 * t) a b x → NotAbove t a' b' x
  beside_above x h = le_of_mul-le-mul_right (shape x.top x.bottom (mul-le-mul_right b' h) (mul-le-mul_right x.bottom s.up)) p
    where
      shape : (T B : ℕ) → 2 * t * a * B * b' ≤ (2 * t * T + B) * b * b' → 2 * t * (a' * b) * B ≤ (2 * t * (a * b') + b * b') * B → t * a' * B * b ≤ (t * T + B) * b' * b
      shape T B g i = named (t * a' * B * b) (t * a * B * b') (t * T * b * b') (B * b * b') (omega arith) (omega arith) (omega arith)
        where
          named : (x y z w : ℕ) {r : ℕ} → 2 * y ≤ 2 * z + w → 2 * x ≤ 2 * y + w → r ≡ z + w → x ≤ r
          named x y z w f g e = omega arith

  beside_below : (x : Ratio) → NotBelow (2 * t) a b x → NotBelow t a' b' x
  beside_below x h = le_of_mul-le-mul_right (shape x.top x.bottom (mul-le-mul_right b' h) (mul-le-mul_right x.bottom s.down)) p
    where
      shape : (T B : ℕ) → 2 * t * b * T * b' ≤ (2 * t * a + b) * B * b' → 2 * t * (a * b') * B ≤ (2 * t * (a' * b) + b * b') * B → t * b' * T * b ≤ (t * a' + b') * B * b
      shape T B g i = named (t * b' * T * b) (t * a * B * b') (t * a' * B * b) (B * b * b') (omega arith) (omega arith) (omega arith)
        where
          named : (x y z w : ℕ) {r : ℕ} → 2 * x ≤ 2 * y + w → 2 * y ≤ 2 * z + w → r ≡ z + w → x ≤ r
          named x y z w f g e = omega arith

  pub beside_about : {low high : Ratio} → About (2 * t) a b low high → About t a' b' low high
  beside_about {low} {high} h = record { above = beside_above low h.above; below = beside_below high h.below }
