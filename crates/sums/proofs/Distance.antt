-- Demand 3 for the sums of any coefficients at the date, at every degree up to 13: each component lies within the promised distance of the exact one.
use mathlib.Core.Path.{◌≡◌, sym, subst}
use Prim.Native.Nat.{ℕ, ◌+◌, ◌*◌, ◌≤◌}
use native.Mathlib.Nat.{add-zero, zero-add}
use mathlib.Core.Bool.{true, false, not}
use lib.IntN.{negsuc}
use lib.Dec.{T, lit<, lit≤, nltb→le}
use lib.Ieee.{Float, nan, inf, fin, up, down, lt, of_bits}
use lib.Ieee.Scale.{finite}
use Rattle.exact.specs.Exact.{Exact, Size, own, size}
use Rattle.exact.specs.Within.{Within}
use Rattle.exact.proofs.Reach.{within}
use Rattle.exact.proofs.Sizes.{inverse}
use Rattle.sums.specs.Arithmetic.{rounded, sizes, unrounded}
use Rattle.sums.specs.Recurrence.{Input}
use Rattle.sums.specs.Paths.{path_x, path_y, path_z, small_sine}
use Rattle.sums.proofs.Keeps.{Divides, rounded_keeps}
use Rattle.sums.proofs.Terms.{Ok, TOP, ang_s, leg_s, pow_s}
use Rattle.sums.proofs.Near.{acc_a, path_x_near, path_y_near, path_z_near}
use Rattle.sums.proofs.Related.{Alike, path_x_related, path_y_related, path_z_related}
use Rattle.sums.proofs.Images.{hom_related, size_hom}

-- ---- where Y' is divided by the sine, 1 / sine is at most 1024 in size
abs_above : (x : Float) → T (finite x) → T (not (small_sine x)) → 8589935 * 1 * (own x).over ≤ ((own x).plus + (own x).minus) * down (negsuc 32)
unfolding own lt small_sine of_bits
abs_above nan t h = absurd t
abs_above (inf s) t h = absurd t
abs_above (fin false m e) t h = subst (λ (z : ℕ). 8589935 * 1 * down e ≤ z * down (negsuc 32)) (sym (add-zero (m * up e))) (nltb→le (m * up e * down (negsuc 32)) (8589935 * 1 * down e) h)
abs_above (fin true m e) t h = subst (λ (z : ℕ). 8589935 * 1 * down e ≤ z * down (negsuc 32)) (sym (zero-add (m * up e))) (nltb→le (m * up e * down (negsuc 32)) (8589935 * 1 * down e) h)

pub divides : (s : Float) → T (finite s) → T (not (small_sine s)) → Divides 1024 s
divides s f t =
    let b = inverse 1024 8589935 (negsuc 32) s (lit< tt) (lit≤ tt) f (abs_above s f t) in
    record { is_finite = f; over = b.0; size = b.1 }

-- ---- the distance
-- the majorant of a promise is the exact number's size
pub majored : {f : Float} {x : Exact} {M : Size} → size x ≡ M → Within f x (size x) → Within f x M
majored {f} {x} e w = subst (λ (M : Size). Within f x M) e w

-- i is read with rounding, x without, M by sizes
module _ (i : Input Float) (x : Input Exact) (M : Input Size) (w : Ok rounded unrounded i x) (s : M.sin_theta ≡ x.sin_theta) (a : Alike unrounded sizes (λ y z. size y ≡ z) x M)
    (N : ℕ) (l : N ≤ TOP) where
  pub path_x_within : Within (path_x rounded i N) (path_x unrounded x N) (path_x sizes M N)
  unfolding acc_a leg_s ang_s pow_s
  path_x_within = majored (path_x_related unrounded sizes (λ y z. size y ≡ z) (hom_related size_hom) x M s a N) (within (path_x_near rounded_keeps i x w N l) (lit≤ tt) (lit≤ tt))

  pub path_y_within : (T (not (small_sine i.sin_theta)) → Divides 1024 i.sin_theta) → Within (path_y rounded i N) (path_y unrounded x N) (path_y sizes M N)
  unfolding acc_a leg_s ang_s pow_s
  path_y_within d = majored (path_y_related unrounded sizes (λ y z. size y ≡ z) (hom_related size_hom) x M s a N) (within (path_y_near rounded_keeps i x w N l d) (lit≤ tt) (lit≤ tt))

  pub path_z_within : Within (path_z rounded i N) (path_z unrounded x N) (path_z sizes M N)
  unfolding acc_a leg_s ang_s pow_s
  path_z_within = majored (path_z_related unrounded sizes (λ y z. size y ≡ z) (hom_related size_hom) x M s a N) (within (path_z_near rounded_keeps i x w N l) (lit≤ tt) (lit≤ tt))
