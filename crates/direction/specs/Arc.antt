-- What the angle of a point (X, Y) is, in degrees, by the page of the exact values (trig/specs/Circle.antt). Definitions only.
use Rattle.std.specs.Prelude.{ℕ, ◌+◌, ◌-◌, ◌*◌, ◌^◌, ◌≤◌, ◌<◌, ◌≡◌, Bool, true, false, T, Float}
use Rattle.std.specs.Float.{nan, inf, fin, binary32}
use Rattle.std.specs.Float.Ieee.{of_bits, lt, eq, up, down}
use Rattle.std.specs.Float.Ieee.Scale.{finite}
use Rattle.exact.specs.Exact.{units_of}
use Rattle.trig.specs.Circle.{IsArc}

-- 2 ^ -15 degree is the promised distance of an angle: one part of so many
abbrev pub coarse : ℕ
coarse = 2 ^ 15

-- g / b degrees is the angle of (X, Y) within 1 / t degree, from 0 to 90, X and Y not below zero and not both zero: by the angle from the nearest of 0, 45 and 90
-- degrees, since the angle of (X, Y) less 45 degrees has the tangent (Y - X) / (Y + X). It is exactly 90 where X is zero, and 45 where the two are equal.
pub record Quadrant (t X Y g b : ℕ) : Type 0 where
  pub most : g ≤ 90 * b
  pub from0 : 12 * Y ≤ 5 * X → IsArc t Y X g b
  pub to45 : 5 * X < 12 * Y → Y ≤ X → (g ≤ 45 * b) × IsArc t (X - Y) (X + Y) (45 * b - g) b
  pub from45 : X < Y → 5 * Y < 12 * X → (45 * b ≤ g) × IsArc t (Y - X) (Y + X) (g - 45 * b) b
  pub to90 : 12 * X ≤ 5 * Y → IsArc t X Y (90 * b - g) b
  pub half : X ≡ Y → g ≡ 45 * b
  pub right : X ≡ 0 → g ≡ 90 * b

-- a / b degrees is the angle from 0 to 180: of (X, Y), or, left being true, of (-X, Y)
abbrev pub HalfTurn : ℕ → Bool → ℕ → ℕ → ℕ → ℕ → Type 0
HalfTurn t false X Y a b = Quadrant t X Y a b
HalfTurn t true X Y a b = (a ≤ 180 * b) × Quadrant t X Y (180 * b - a) b

-- d is the angle of (x, y), of which y is not zero: it has the sign of y. The sizes of x and y are taken in units of 2 ^ -149, of which each f32 is a whole number.
abbrev pub Pointed : Float → Float → Float → Type 0
Pointed x y nan = ⊥
Pointed x y (inf s) = ⊥
Pointed x y (fin s m e) = (s ≡ lt y (of_bits binary32 0)) × HalfTurn coarse (lt x (of_bits binary32 0)) (units_of x) (units_of y) (m * up e) (down e)

-- what an angle is where x and y are finite and y is not zero
abbrev pub Points : Float → Float → Float → Type 0
Points x y d = T (finite x) → T (finite y) → eq y (of_bits binary32 0) ≡ false → Pointed x y d
