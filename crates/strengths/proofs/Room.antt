-- The largest size of a component leaves room for what Field can reach: 2 ^ 55 nT in X and Z and 15 * 2 ^ 55 nT in Y, and as much again for nearness.
-- That Field reaches no more is field/proofs/Ceiling.antt. Assumes nothing.
use mathlib.Core.Path.{◌≡◌, refl}
use Prim.Native.Nat.{suc, ◌+◌, ◌*◌, ◌^◌, ◌≤◌}
use native.Mathlib.Omega.{arith}
use mathlib.Core.Bool.{Bool, true, false, ◌&&◌}
use lib.Dec.{T, leb, lit<}
use lib.Ieee.{Float, nan, inf, fin, up, down, of_bits}
use lib.Ieee.Bits.{is_true}
use lib.Ieee.Fits.{and_i, down_pos}
use lib.Ieee.Order.{le_of_values}
use lib.Ieee.Positive.{num}
use lib.Ieee.Scale.{finite}
use Rattle.exact.specs.Exact.{own}
use Rattle.exact.specs.Tests.{capped}
use Rattle.strengths.specs.Strengths.{max_component}

-- what X and Z, and Y, come to at most is below the largest size of a component
pub below_largest : (leb (2 * suc (2 ^ 55)) (num max_component) ≡ true) × (leb (2 * suc (15 * 2 ^ 55 + 1)) (num max_component) ≡ true)
unfolding of_bits
below_largest = (refl, refl)

pub capped_by : (f : Float) → T (finite f) → (own f).plus + (own f).minus ≤ num max_component * (own f).over → T (capped max_component f)
unfolding capped of_bits own
capped_by nan t h = absurd t
capped_by (inf s) t h = absurd t
capped_by (fin false m e) t h = le_of_values (fin false m e) max_component (m * up e) (down e) (num max_component) 1 (down_pos e) (lit< tt) (refl, refl) (refl, refl) (omega arith)
capped_by (fin true m e) t h = le_of_values (fin false m e) max_component (m * up e) (down e) (num max_component) 1 (down_pos e) (lit< tt) (refl, refl) (refl, refl) (omega arith)

pub all_three : (x y z : Float) → T (capped max_component x) → T (capped max_component y) → T (capped max_component z) → capped max_component x && capped max_component y && capped max_component z ≡ true
all_three x y z p q r =
    let c : Float → Bool = capped max_component in
    is_true (c x && c y && c z) (and_i (c x && c y) (c z) (and_i (c x) (c y) p q) r)
