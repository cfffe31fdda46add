-- Demand 3 for Sum: what passed the checks is of the sizes that the laws ask for, and each component lies within the promised distance.
use mathlib.Core.Path.{◌≡◌, refl}
use mathlib.Core.List.{List, [], ◌∷◌}
use Prim.Native.Nat.{ℕ, zero, suc, ◌-◌}
use mathlib.Core.Bool.{false, not}
use lib.ListN.{get_or}
use lib.IntN.{pos, negsuc}
use lib.Dec.{T, lit≤}
use lib.Ieee.{Float, of_bits}
use lib.Ieee.Fits.{and_l, and_r}
use Rattle.exact.specs.Tests.{all_capped, capped}
use Rattle.exact.specs.Exact.{Exact, size}
use Rattle.exact.proofs.Sizes.{leaf, size_leaf}
use Rattle.exact.proofs.Ranks.{Leaf, Nr}
use Rattle.exact.proofs.Circle.{circle_leaf, circled}
use Rattle.tables.specs.Degree.{place}
use Rattle.tables.proofs.Degrees.{degree_high}
use Rattle.sums.specs.Arithmetic.{Arithmetic, rounded, sizes, unrounded}
use Rattle.sums.specs.Paths.{at, dated, nought, placed, small_sine}
use Rattle.sums.proofs.Keeps.{Divides, Keeps, rounded_keeps}
use Rattle.sums.proofs.Terms.{Ok, dated_near}
use Rattle.sums.proofs.Near.{east_a, path_x_near, path_y_near, path_z_near, sum_a}
use Rattle.sums.proofs.Related.{Alike, Related, path_x_related, path_y_related, path_z_related}
use Rattle.sums.proofs.Images.{dated_related, hom_related, placed_alike, size_hom}
use Rattle.sums.proofs.Stored.{k_near, schmidt_near}
use Rattle.sums.proofs.Distance.{divides, path_x_within, path_y_within, path_z_within}
use Rattle.lists.specs.Lists.{main_cap, rate_cap}
use Rattle.synthesis.specs.Sum.{Lent, SumAccepted, SumClose, degree, inputs, offset_ok, ratio_ok, sum_x, sum_y, sum_z, value_of}

-- ---- sizes from the checks
capped_at : (cap : Float) (l : List Float) (j : ℕ) → T (capped cap nought) → T (all_capped cap l) → T (capped cap (get_or l j nought))
unfolding all_capped
capped_at cap [] zero z t = z
capped_at cap [] (suc j) z t = z
capped_at cap (x ∷ l) zero z t = and_l (capped cap x) (all_capped cap l) t
capped_at cap (x ∷ l) (suc j) z t = capped_at cap l j z (and_r (capped cap x) (all_capped cap l) t)

main_leaf : (x : Float) → T (capped main_cap x) → Leaf 65536 x
unfolding capped of_bits
main_leaf x t = size_leaf 65536 1 (pos 16) x (lit≤ tt) t

rate_leaf : (x : Float) → T (capped rate_cap x) → Leaf 4096 x
unfolding capped of_bits
rate_leaf x t = size_leaf 4096 1 (pos 12) x (lit≤ tt) t

main_nought : T (capped main_cap nought)
unfolding capped of_bits lib.Ieee.le lib.Ieee.lt lib.Ieee.eq
main_nought = tt

rate_nought : T (capped rate_cap nought)
unfolding capped of_bits lib.Ieee.le lib.Ieee.lt lib.Ieee.eq
rate_nought = tt

pub ratio_leaf : (x : Float) → T (ratio_ok x) → Leaf 2 x
unfolding ratio_ok of_bits
ratio_leaf x t = leaf 2 false false 7 65 (negsuc 2) (negsuc 5) x (lit≤ tt) (lit≤ tt) t

pub offset_leaf : (x : Float) → T (offset_ok x) → Leaf 5 x
unfolding offset_ok of_bits
offset_leaf x t = leaf 5 false false 0 5 (pos 0) (pos 0) x (lit≤ tt) (lit≤ tt) t

pub main_at : (l : List Float) → T (all_capped main_cap l) → (n m : ℕ) → Leaf 65536 (at l n m)
main_at l t n m = main_leaf (at l n m) (capped_at main_cap l (place n m - 1) main_nought t)

rate_at : (l : List Float) → T (all_capped rate_cap l) → (n m : ℕ) → Leaf 4096 (at l n m)
rate_at l t n m = rate_leaf (at l n m) (capped_at rate_cap l (place n m - 1) rate_nought t)

-- the sizes of what the coefficients at the date are made of
pub record Leaves (a : Lent) : Type 0 where
  pub offset : Leaf 5 a.offset
  pub g : (n m : ℕ) → Leaf 65536 (at a.g n m)
  pub h : (n m : ℕ) → Leaf 65536 (at a.h n m)
  pub g_dot : (n m : ℕ) → Leaf 4096 (at a.g_dot n m)
  pub h_dot : (n m : ℕ) → Leaf 4096 (at a.h_dot n m)

module _ (a : Lent) (w : SumAccepted a) where
  pub leaves : Leaves a
  leaves = record { offset = offset_leaf a.offset w.offset; g = main_at a.g w.g; h = main_at a.h w.h; g_dot = rate_at a.g_dot w.g_dot; h_dot = rate_at a.h_dot w.h_dot }

  -- what passed the checks is of the sizes that the laws ask for
  pub ok : {o : Arithmetic Float} {o' : Arithmetic Exact} → Keeps o o' → Ok o o' (inputs o a) (inputs o' a)
  unfolding inputs placed
  ok kept =
      let p = circle_leaf a.sin_theta a.cos_theta w.colatitude in
      let q = circle_leaf a.sin_lambda a.cos_lambda w.longitude in
      let l = leaves in
      record {
        sine = refl;
        cos_theta = kept.num p.1;
        sin_theta = kept.num p.0;
        sin_lambda = kept.num q.0;
        cos_lambda = kept.num q.1;
        ratio = kept.num (ratio_leaf a.ratio w.ratio);
        g = λ n m. dated_near kept (l.g n m) (l.g_dot n m) l.offset;
        h = λ n m. dated_near kept (l.h n m) (l.h_dot n m) l.offset;
        S = λ n m. schmidt_near kept n m;
        K = λ n m. k_near kept n m;
      }

  -- 1 / sine is at most 1024 in size on the general path
  pub sine_divides : T (not (small_sine a.sin_theta)) → Divides 1024 a.sin_theta
  sine_divides t = divides a.sin_theta (circled a.sin_theta a.cos_theta w.colatitude).finite_s t

  -- the three sums lie near the exact ones, for any two arithmetics of which one keeps near the other
  module _ {o : Arithmetic Float} {o' : Arithmetic Exact} (kept : Keeps o o') where
    pub sum_x_near : Nr sum_a (sum_x o a) (sum_x o' a)
    sum_x_near = path_x_near kept (inputs o a) (inputs o' a) (ok kept) (degree a) (degree_high _)

    pub sum_y_near : Nr east_a (sum_y o a) (sum_y o' a)
    unfolding inputs placed
    sum_y_near = path_y_near kept (inputs o a) (inputs o' a) (ok kept) (degree a) (degree_high _) sine_divides

    pub sum_z_near : Nr sum_a (sum_z o a) (sum_z o' a)
    sum_z_near = path_z_near kept (inputs o a) (inputs o' a) (ok kept) (degree a) (degree_high _)

-- ---- a relation between two arithmetics that every operation keeps holds between the sums of what is lent
module _ {A B : Type 0} {o : Arithmetic A} {o' : Arithmetic B} {R : A → B → Type 0} (k : Related o o' R) (a : Lent) where
  pub alike : Alike o o' R (inputs o a) (inputs o' a)
  unfolding inputs placed
  alike =
      placed_alike k a.cos_theta a.sin_theta a.sin_lambda a.cos_lambda a.ratio (dated o a.g a.g_dot a.offset) (dated o a.h a.h_dot a.offset)
      (dated o' a.g a.g_dot a.offset) (dated o' a.h a.h_dot a.offset) (dated_related k a.g a.g_dot a.offset) (dated_related k a.h a.h_dot a.offset)

  same_sine : (inputs o' a).sin_theta ≡ (inputs o a).sin_theta
  unfolding inputs placed
  same_sine = refl

  pub sum_x_related : R (sum_x o a) (sum_x o' a)
  sum_x_related = path_x_related o o' R k (inputs o a) (inputs o' a) same_sine alike (degree a)

  pub sum_y_related : R (sum_y o a) (sum_y o' a)
  sum_y_related = path_y_related o o' R k (inputs o a) (inputs o' a) same_sine alike (degree a)

  pub sum_z_related : R (sum_z o a) (sum_z o' a)
  sum_z_related = path_z_related o o' R k (inputs o a) (inputs o' a) same_sine alike (degree a)

-- ---- demand 3
module _ (a : Lent) (w : SumAccepted a) where
  abbrev size_related : Related unrounded sizes (λ x y. size x ≡ y)
  size_related = hom_related size_hom

  pub close : SumClose a (value_of a)
  unfolding value_of
  close =
      record {
        x = path_x_within (inputs rounded a) (inputs unrounded a) (inputs sizes a) (ok a w rounded_keeps) (same_sine size_related a) (alike size_related a) (degree a) (degree_high _);
        y = path_y_within (inputs rounded a) (inputs unrounded a) (inputs sizes a) (ok a w rounded_keeps) (same_sine size_related a) (alike size_related a) (degree a) (degree_high _) (unfold inputs placed in sine_divides a w);
        z = path_z_within (inputs rounded a) (inputs unrounded a) (inputs sizes a) (ok a w rounded_keeps) (same_sine size_related a) (alike size_related a) (degree a) (degree_high _);
      }
