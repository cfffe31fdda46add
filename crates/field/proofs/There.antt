-- X, Y and Z of Field at coefficients that are near others lie near what those give, within the distance of demand 3: one law for coefficients between two sets, for their rates, and for all that are as near. Assumes nothing.
use mathlib.Core.Path.{◌≡◌, refl}
use mathlib.Core.Bool.{not}
use Prim.Native.Nat.{ℕ, ◌≤◌}
use lib.Dec.{T, lit≤}
use lib.ListN.{length}
use lib.Ieee.{Float}
use Rattle.exact.specs.Exact.{Exact, Size, size}
use Rattle.exact.specs.Tests.{circle}
use Rattle.exact.specs.Within.{Within}
use Rattle.exact.proofs.Circle.{circle_leaf, circled}
use Rattle.exact.proofs.Ranks.{Leaf, Nr, fine_ok, mul_a}
use Rattle.exact.proofs.Reach.{within}
use Rattle.tables.specs.Degree.{N_MAX, degree_of}
use Rattle.tables.proofs.Degrees.{degree_high}
use Rattle.models.specs.declared.epochs.EpochOffset.{EpochOffset}
use Rattle.geocentric.specs.Geo.{cos_of, height_ok, latitude_ok, ratio_of, sin_of}
use Rattle.geocentric.proofs.Laws.{latitude_leaf, never_10, never_9}
use Rattle.sums.specs.Arithmetic.{Arithmetic, rounded, sizes, unrounded}
use Rattle.sums.specs.Recurrence.{Input}
use Rattle.sums.specs.Paths.{path_x, path_z, placed, small_sine}
use Rattle.sums.proofs.Keeps.{Divides, Keeps, rounded_keeps}
use Rattle.sums.proofs.Terms.{Ok, ang_s, coeff_a, leg_s, pow_s}
use Rattle.sums.proofs.Near.{acc_a, east_a, path_x_near, path_y_near, path_z_near, sum_a}
use Rattle.sums.proofs.Related.{Alike, Related, path_x_related, path_y_related, path_z_related}
use Rattle.sums.proofs.Images.{hom_related, placed_alike, size_hom}
use Rattle.sums.proofs.Stored.{k_near, schmidt_near}
use Rattle.sums.proofs.Distance.{divides, majored}
use Rattle.synthesis.specs.Sum.{inputs, ratio_ok}
use Rattle.synthesis.proofs.Demand.{ratio_leaf}
use Rattle.field.specs.Field.{Asked, field_x, field_y, field_z, handed}
use Rattle.field.specs.There.{there, there_x, there_y, there_z}
use Rattle.field.proofs.TurnNear.{turn_x_near, turn_z_near, turn_a, turned_a}
use Rattle.field.proofs.TurnRelated.{turn_x_related, turn_z_related}

-- ---- a relation between two arithmetics that every operation keeps holds between X, Y and Z, where it holds between the coefficients
module _ {A B : Type 0} {o : Arithmetic A} {o' : Arithmetic B} {R : A → B → Type 0} (k : Related o o' R) (q : Asked) (N : ℕ) (g h : ℕ → ℕ → A) (g' h' : ℕ → ℕ → B)
    (G : (n m : ℕ) → R (g n m) (g' n m)) (H : (n m : ℕ) → R (h n m) (h' n m)) where
  alike : Alike o o' R (there o q N g h) (there o' q N g' h')
  unfolding there
  alike = placed_alike k _ _ _ _ _ g h g' h' G H

  sine : (there o' q N g' h').sin_theta ≡ (there o q N g h).sin_theta
  unfolding there placed
  sine = refl

  pub there_x_related : R (there_x o q N g h) (there_x o' q N g' h')
  unfolding there_x
  there_x_related = turn_x_related o o' R k _ _ q.cos_phi q.sin_phi (path_x_related o o' R k _ _ sine alike N) (path_z_related o o' R k _ _ sine alike N)

  pub there_y_related : R (there_y o q N g h) (there_y o' q N g' h')
  unfolding there_y
  there_y_related = path_y_related o o' R k _ _ sine alike N

  pub there_z_related : R (there_z o q N g h) (there_z o' q N g' h')
  unfolding there_z
  there_z_related = turn_z_related o o' R k _ _ q.cos_phi q.sin_phi (path_x_related o o' R k _ _ sine alike N) (path_z_related o o' R k _ _ sine alike N)

-- ---- of an accepted place
module _ (q : Asked) (H : T (height_ok q.height)) (L : T (latitude_ok q.sin_phi q.cos_phi)) where
  pub colatitude : T (circle (sin_of q.height q.sin_phi q.cos_phi) (cos_of q.height q.sin_phi q.cos_phi))
  colatitude = never_9 q.height q.sin_phi q.cos_phi H L

  pub ratio_in : T (ratio_ok (ratio_of q.height q.sin_phi q.cos_phi))
  unfolding ratio_ok
  ratio_in = never_10 q.height q.sin_phi q.cos_phi H L

  -- where Y' is divided by the sine, 1 / sine is at most 1024 in size
  pub sine_divides : T (not (small_sine (sin_of q.height q.sin_phi q.cos_phi))) → Divides 1024 (sin_of q.height q.sin_phi q.cos_phi)
  sine_divides t = divides _ (circled _ _ colatitude).finite_s t

-- ---- X, Y and Z from near coefficients are near, in any two arithmetics whose operations keep near
module _ (q : Asked) (H : T (height_ok q.height)) (L : T (latitude_ok q.sin_phi q.cos_phi)) (C : T (circle q.sin_lambda q.cos_lambda)) (N : ℕ) (high : N ≤ N_MAX)
    {o : Arithmetic Float} {o' : Arithmetic Exact} (kept : Keeps o o') (g h : ℕ → ℕ → Float) (x y : ℕ → ℕ → Exact) (G : (n m : ℕ) → Nr coeff_a (g n m) (x n m)) (K : (n m : ℕ) → Nr coeff_a (h n m) (y n m)) where
  abbrev i : Input Float
  i = there o q N g h

  abbrev i' : Input Exact
  i' = there o' q N x y

  abbrev p : Leaf 2 (sin_of q.height q.sin_phi q.cos_phi) × Leaf 2 (cos_of q.height q.sin_phi q.cos_phi)
  p = circle_leaf _ _ (colatitude q H L)

  abbrev lat : Leaf 2 q.sin_phi × Leaf 2 q.cos_phi
  lat = latitude_leaf q.sin_phi q.cos_phi L

  ok : Ok o o' i i'
  unfolding placed there
  ok =
      let l = circle_leaf q.sin_lambda q.cos_lambda C in
      record {
        sine = refl;
        cos_theta = kept.num p.1;
        sin_theta = kept.num p.0;
        sin_lambda = kept.num l.0;
        cos_lambda = kept.num l.1;
        ratio = kept.num (ratio_leaf _ (ratio_in q H L));
        g = G;
        h = K;
        S = λ n m. schmidt_near kept n m;
        K = λ n m. k_near kept n m;
      }

  x_near : Nr sum_a (path_x o i N) (path_x o' i' N)
  x_near = path_x_near kept i i' ok N high

  z_near : Nr sum_a (path_z o i N) (path_z o' i' N)
  z_near = path_z_near kept i i' ok N high

  pub there_x_near : Nr turned_a (there_x o q N g h) (there_x o' q N x y)
  unfolding there_x acc_a leg_s ang_s pow_s
  there_x_near = turn_x_near kept _ _ q.cos_phi q.sin_phi p.1 p.0 lat.1 lat.0 sum_a _ _ _ _ x_near z_near (fine_ok (mul_a sum_a turn_a) tt) (fine_ok turned_a tt)

  pub there_y_near : Nr east_a (there_y o q N g h) (there_y o' q N x y)
  unfolding there_y there placed
  there_y_near = path_y_near kept i i' ok N high (sine_divides q H L)

  pub there_z_near : Nr turned_a (there_z o q N g h) (there_z o' q N x y)
  unfolding there_z acc_a leg_s ang_s pow_s
  there_z_near = turn_z_near kept _ _ q.cos_phi q.sin_phi p.1 p.0 lat.1 lat.0 sum_a _ _ _ _ x_near z_near (fine_ok (mul_a sum_a turn_a) tt) (fine_ok turned_a tt)

-- ---- demand 3: what Field makes of the coefficients that it reads, with g and h the exact ones that they are near, and g' and h' the sizes of these
module _ (q : Asked) (e : EpochOffset) (H : T (height_ok q.height)) (L : T (latitude_ok q.sin_phi q.cos_phi)) (C : T (circle q.sin_lambda q.cos_lambda)) (g h : ℕ → ℕ → Exact) (g' h' : ℕ → ℕ → Size)
    (G : (n m : ℕ) → Nr coeff_a ((inputs rounded (handed q e)).g n m) (g n m)) (K : (n m : ℕ) → Nr coeff_a ((inputs rounded (handed q e)).h n m) (h n m)) (G' : (n m : ℕ) → size (g n m) ≡ g' n m) (K' : (n m : ℕ) → size (h n m) ≡ h' n m) where
  abbrev N : ℕ
  N = degree_of (length q.g)

  pub there_close_x : Within (field_x rounded q e) (there_x unrounded q N g h) (there_x sizes q N g' h')
  unfolding field_x there_x there inputs placed handed rounded acc_a leg_s ang_s pow_s
  there_close_x = majored (there_x_related (hom_related size_hom) q N g h g' h' G' K') (within (there_x_near q H L C N (degree_high _) rounded_keeps _ _ g h G K) (lit≤ tt) (lit≤ tt))

  pub there_close_y : Within (field_y rounded q e) (there_y unrounded q N g h) (there_y sizes q N g' h')
  unfolding field_y there_y there inputs placed handed rounded acc_a leg_s ang_s pow_s
  there_close_y = majored (there_y_related (hom_related size_hom) q N g h g' h' G' K') (within (there_y_near q H L C N (degree_high _) rounded_keeps _ _ g h G K) (lit≤ tt) (lit≤ tt))

  pub there_close_z : Within (field_z rounded q e) (there_z unrounded q N g h) (there_z sizes q N g' h')
  unfolding field_z there_z there inputs placed handed rounded acc_a leg_s ang_s pow_s
  there_close_z = majored (there_z_related (hom_related size_hom) q N g h g' h' G' K') (within (there_z_near q H L C N (degree_high _) rounded_keeps _ _ g h G K) (lit≤ tt) (lit≤ tt))
