-- The square of the next number. Assumes nothing.
use mathlib.Core.Path.{◌≡◌}
use Prim.Native.Nat.{ℕ, ◌+◌, ◌*◌}
use native.Mathlib.Nat.{add-mul, mul-add}
use native.Mathlib.Omega.{arith}

pub square_next : (a : ℕ) → (a + 1) * (a + 1) ≡ a * a + 2 * a + 1
square_next a = omega (arith, add-mul a 1 (a + 1), mul-add a a 1)
