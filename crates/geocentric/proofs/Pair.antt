-- The pair (p / r, z / r), with r the rounded root of the rounded p * p + z * z: it passes the circle test, for any floats p and z of size at most 2 ^ 26 whose
-- rounded sum of squares is 1 or more. The errors of r's square meet the same p and z again, so only roundings count, 8 of them. Assumes nothing.
use mathlib.Core.Path.{◌≡◌, refl, ap, ap₂, ◌∙◌, subst}
use Prim.Native.Nat.{ℕ, ◌+◌, ◌*◌, ◌≤◌, ◌<◌}
use native.Mathlib.Nat.{le_trans, mul-pos, mul-le-mul_left, mul-le-mul_right, le_of_mul-le-mul_right}
use native.Mathlib.Omega.{arith}
use lib.Dec.{T, lit≤, lit<}
use lib.Ieee.{Float, binary32, mul, div, fits}
use lib.Ieee.Fits.{add-fits}
use lib.Ieee.Positive.{num, den, positive, den_pos, cross→le, positive-finite}
use lib.Ieee.Scale.{finite}
use Rattle.exact.specs.Tests.{circle}
use Rattle.exact.specs.Exact.{Exact, own, mul_e, add_e, inv_e}
use Rattle.exact.proofs.Frac.{by_le}
use Rattle.exact.proofs.Near.{near_own, near_div}
use Rattle.exact.proofs.Reach.{within}
use Rattle.exact.proofs.Ranks.{Abs, Nr, leaf_a, add_a, mul_a, fine_ok, nr_mul, nr_add, fine}
use Rattle.exact.proofs.Sizes.{AtMost}
use Rattle.exact.proofs.Circle.{circle_bottom, circle_top, circle_of}
use Rattle.roots.proofs.Laws.{is_root}
use Rattle.geocentric.specs.Geo.{squares, length_of}
use Rattle.geocentric.proofs.Fractions.{mk, mk_eq, num_pos, Between, of_within, off}
use Rattle.geocentric.proofs.Root.{rooted, Rooted, root_le}
use Rattle.geocentric.proofs.Squares.{square_of_lem, add_plain, sum_own, inv_own}
use Rattle.geocentric.proofs.Relative.{Ratio, tight, ratio_of_lem}

-- ---- rank, size and slack of the four steps
abbrev sized : Abs
sized = leaf_a 67108864

abbrev two : Abs
two = add_a (mul_a sized sized) (mul_a sized sized)

abbrev part : Abs
part = record { rank = 1; size = 67108864 * 2; slack = 1 }

abbrev four : Abs
four = add_a (mul_a part part) (mul_a part part)

-- ---- whole numbers
-- a float of 1 or more is near no exact number below 1/4
kick : (n d P O : ℕ) → 0 < d → d ≤ n → n * O * 1048576 ≤ P * d * 1048576 + 8 * P * d + d * O → O ≤ 4 * P
kick n d P O D l h = last (le_of_mul-le-mul_right (mid (mul-le-mul_right O l)) D)
  where
    mid : d * O ≤ n * O → 1048575 * O * d ≤ 1048584 * P * d
    mid k = omega arith

    last : 1048575 * O ≤ 1048584 * P → O ≤ 4 * P
    last k = omega arith

halved : (xn xd rn rd : ℕ) → 0 < xd → xd ≤ xn → 8388608 * (xn * (rd * rd)) ≤ 8388609 * (xd * (rn * rn)) → rd * rd ≤ 2 * rn * (2 * rn)
halved xn xd rn rd D l h = last (le_of_mul-le-mul_right (mid (rd * rd) (rn * rn) (mul-le-mul_right (rd * rd) l) h) D)
  where
    mid : (a b : ℕ) → xd * a ≤ xn * a → 8388608 * (xn * a) ≤ 8388609 * (xd * b) → 8388608 * a * xd ≤ 8388609 * b * xd
    mid a b k h = omega arith

    last : 8388608 * (rd * rd) ≤ 8388609 * (rn * rn) → rd * rd ≤ 2 * rn * (2 * rn)
    last k = omega arith

-- D / N and a / b, both by way of x / y
chain : (M M' K L x y a b N D : ℕ) → 0 < y → M * (x * D) ≤ M' * (N * y) → K * (y * b) ≤ L * (x * a) → M * K * (D * b) ≤ M' * L * (N * a)
chain M M' K L x y a b N D Y h k = le_of_mul-le-mul_right (le_trans (by_le (mul-le-mul_left (M * D) k) (r1 M K D b y) (r2 M D L x a)) (by_le (mul-le-mul_right (L * a) h) (r3 M D L x a) (r4 M' N y L a))) Y
  where
    r1 : (M K D b y : ℕ) → M * K * (D * b) * y ≡ M * D * (K * (y * b))
    r1 M K D b y = omega arith

    r2 : (M D L x a : ℕ) → M * D * (L * (x * a)) ≡ M * D * L * x * a
    r2 M D L x a = omega arith

    r3 : (M D L x a : ℕ) → M * D * L * x * a ≡ M * (x * D) * (L * a)
    r3 M D L x a = omega arith

    r4 : (M' N y L a : ℕ) → M' * (N * y) * (L * a) ≡ M' * L * (N * a) * y
    r4 M' N y L a = omega arith

-- the exact sum of the two quotients' squares is N * (rd * rd) / (D * (rn * rn)), both taken J times
quotients : (np dp nz dz rn rd : ℕ)
    → mk (np * (rn * rd) * (np * (rn * rd)) * (dz * (rn * rn) * (dz * (rn * rn))) + nz * (rn * rd) * (nz * (rn * rd)) * (dp * (rn * rn) * (dp * (rn * rn)))) 0 (dp * (rn * rn) * (dp * (rn * rn)) * (dz * (rn * rn) * (dz * (rn * rn))))
    ≡ mk ((np * np * (dz * dz) + nz * nz * (dp * dp)) * (rd * rd) * (rn * rn * (rn * rn) * (rn * rn))) 0 (dp * dp * (dz * dz) * (rn * rn) * (rn * rn * (rn * rn) * (rn * rn)))
quotients np dp nz dz rn rd = mk_eq top refl (b dp dz (rn * rn))
  where
    one : (n rn rd : ℕ) → n * (rn * rd) * (n * (rn * rd)) ≡ n * n * (rn * rn * (rd * rd))
    one n rn rd = omega arith

    b : (dp dz j : ℕ) → dp * j * (dp * j) * (dz * j * (dz * j)) ≡ dp * dp * (dz * dz) * j * (j * j * j)
    b dp dz j = omega arith

    term : (n d j k : ℕ) → n * n * (j * k) * (d * j * (d * j)) ≡ n * n * (d * d) * k * (j * j * j)
    term n d j k = omega arith

    join : (x y k j : ℕ) → x * k * j + y * k * j ≡ (x + y) * k * j
    join x y k j = omega arith

    part_of : (n d : ℕ) → n * (rn * rd) * (n * (rn * rd)) * (d * (rn * rn) * (d * (rn * rn))) ≡ n * n * (d * d) * (rd * rd) * (rn * rn * (rn * rn) * (rn * rn))
    part_of n d = ap (λ (i : ℕ). i * (d * (rn * rn) * (d * (rn * rn)))) (one n rn rd) ∙ term n d (rn * rn) (rd * rd)

    top : np * (rn * rd) * (np * (rn * rd)) * (dz * (rn * rn) * (dz * (rn * rn))) + nz * (rn * rd) * (nz * (rn * rd)) * (dp * (rn * rn) * (dp * (rn * rn)))
        ≡ (np * np * (dz * dz) + nz * nz * (dp * dp)) * (rd * rd) * (rn * rn * (rn * rn) * (rn * rn))
    top = ap₂ (λ (x y : ℕ). x + y) (part_of np dz) (part_of nz dp) ∙ join (np * np * (dz * dz)) (nz * nz * (dp * dp)) (rd * rd) (rn * rn * (rn * rn) * (rn * rn))

-- x / y against E / F, which is near 1
last : (A B C G x y E F J : ℕ) → 0 < J → 0 < E → A * (x * (E * J)) ≤ B * (F * J * y) → C * F ≤ G * E → A * C * x ≤ B * G * y
last A B C G x y E F J JP EP h k =
    le_of_mul-le-mul_right (le_of_mul-le-mul_right (le_trans (by_le (mul-le-mul_left C h) (r1 A C x E J) (r2 B C F J y)) (by_le (mul-le-mul_left (B * y * J) k) (r3 B y J C F) (r4 B y J G E))) JP) EP
  where
    r1 : (A C x E J : ℕ) → A * C * x * E * J ≡ C * (A * (x * (E * J)))
    r1 A C x E J = omega arith

    r2 : (B C F J y : ℕ) → C * (B * (F * J * y)) ≡ B * y * J * C * F
    r2 B C F J y = omega arith

    r3 : (B y J C F : ℕ) → B * y * J * C * F ≡ B * y * J * (C * F)
    r3 B y J C F = omega arith

    r4 : (B y J G E : ℕ) → B * y * J * (G * E) ≡ B * G * y * E * J
    r4 B y J G E = omega arith

module _ (p z : Float) (fp : T (finite p)) (fz : T (finite z)) (bp : AtMost 67108864 p) (bz : AtMost 67108864 z) (px : T (positive (squares p z))) (gx : den (squares p z) ≤ num (squares p z)) where
  abbrev X : Float
  X = squares p z

  abbrev N : ℕ
  N = num p * num p * (den z * den z) + num z * num z * (den p * den p)

  abbrev D : ℕ
  D = den p * den p * (den z * den z)

  abbrev r : Float
  r = length_of p z

  abbrev J : ℕ
  J = num r * num r * (num r * num r) * (num r * num r)

  D_pos : 0 < D
  D_pos = mul-pos (mul-pos (den_pos p) (den_pos p)) (mul-pos (den_pos z) (den_pos z))

  near_x : Nr two X (mk N 0 D)
  near_x =
      let a : Nr sized p (own p) = near_own fp bp in
      let b : Nr sized z (own z) = near_own fz bz in
      subst (λ (e : Exact). Nr two X e) (sum_own p z) (nr_add (nr_mul a a (fine_ok (mul_a sized sized) tt)) (nr_mul b b (fine_ok (mul_a sized sized) tt)) (fine_ok two tt))

  start : D ≤ 4 * N
  start = kick (num X) (den X) N D (den_pos X) gx (off X N D px (within near_x (lit≤ tt) (lit≤ tt))).up

  ratio_x : Ratio 16777216 16777219 X N D
  unfolding tight
  ratio_x = ratio_of_lem 16777216 16777219 N D near_x px start (omega arith) tt

  x_fits : T (fits binary32 X)
  x_fits = add-fits binary32 (mul binary32 p p) (mul binary32 z z)

  above_r : T (positive r)
  above_r = (is_root X x_fits px).above_zero

  root_r : Rooted X r
  root_r = rooted X x_fits px

  -- 1 / r is at most 2
  r_half : den r ≤ 2 * num r
  r_half = root_le (den r) (2 * num r) (halved (num X) (den X) (num r) (den r) (den_pos X) gx root_r.0)

  inv_size : (inv_e (own r)).plus + (inv_e (own r)).minus ≤ 2 * (inv_e (own r)).over
  inv_size = rw (inv_own r above_r) (go (num r) (den r) (mul-le-mul_left (num r) r_half))
    where
      go : (n d : ℕ) → n * d ≤ n * (2 * n) → n * d + 0 ≤ 2 * (n * n)
      go n d h = omega arith

  inv_over : 0 < (inv_e (own r)).over
  inv_over = rw (inv_own r above_r) (mul-pos (num_pos r above_r) (num_pos r above_r))

  abbrev pub sine : Float
  sine = div binary32 p r

  abbrev pub cosine : Float
  cosine = div binary32 z r

  near_sine : Nr part sine (mul_e (own p) (inv_e (own r)))
  near_sine = near_div 2 r (near_own fp bp) (positive-finite r above_r) inv_over inv_size (fine tt tt tt)

  near_cosine : Nr part cosine (mul_e (own z) (inv_e (own r)))
  near_cosine = near_div 2 r (near_own fz bz) (positive-finite r above_r) inv_over inv_size (fine tt tt tt)

  abbrev W : Float
  W = squares sine cosine

  abbrev NR : ℕ
  NR = N * (den r * den r)

  abbrev DR : ℕ
  DR = D * (num r * num r)

  exact_w : add_e (mul_e (mul_e (own p) (inv_e (own r))) (mul_e (own p) (inv_e (own r)))) (mul_e (mul_e (own z) (inv_e (own r))) (mul_e (own z) (inv_e (own r)))) ≡ mk (NR * J) 0 (DR * J)
  exact_w =
      ap (λ (i : Exact). add_e (mul_e (mul_e (own p) i) (mul_e (own p) i)) (mul_e (mul_e (own z) i) (mul_e (own z) i))) (inv_own r above_r)
      ∙ ap₂ add_e (square_of_lem p (num r * den r) (num r * num r)) (square_of_lem z (num r * den r) (num r * num r))
      ∙ add_plain (num p * (num r * den r) * (num p * (num r * den r))) (den p * (num r * num r) * (den p * (num r * num r))) (num z * (num r * den r) * (num z * (num r * den r))) (den z * (num r * num r) * (den z * (num r * num r)))
      ∙ quotients (num p) (den p) (num z) (den z) (num r) (den r)

  near_w : Nr four W (mk (NR * J) 0 (DR * J))
  near_w =
      subst (λ (e : Exact). Nr four W e) exact_w
      (nr_add (nr_mul near_sine near_sine (fine_ok (mul_a part part) tt)) (nr_mul near_cosine near_cosine (fine_ok (mul_a part part) tt)) (fine_ok four tt))

  RR_pos : 0 < num r * num r
  RR_pos = mul-pos (num_pos r above_r) (num_pos r above_r)

  J_pos : 0 < J
  J_pos = mul-pos (mul-pos RR_pos RR_pos) RR_pos

  DR_pos : 0 < DR
  DR_pos = mul-pos D_pos RR_pos

  low_r : 16777216 * 8388607 * DR ≤ 16777219 * 8388608 * NR
  low_r = chain 16777216 16777219 8388607 8388608 (num X) (den X) (den r * den r) (num r * num r) N D (den_pos X) ratio_x.above root_r.1

  NR_pos : 0 < NR
  NR_pos = go NR DR DR_pos low_r
    where
      go : (n d : ℕ) → 0 < d → 16777216 * 8388607 * d ≤ 16777219 * 8388608 * n → 0 < n
      go n d p h = omega arith

  high_r : 16777216 * 8388608 * NR ≤ 16777219 * 8388609 * DR
  high_r = chain 16777216 16777219 8388608 8388609 (den X) (num X) (num r * num r) (den r * den r) D N (num_pos X px) ratio_x.below root_r.0

  loose : Between 1 16 4 W
  loose =
      of_within 1 16 4 W (mk (NR * J) 0 (DR * J)) (lit< tt) (mul-pos DR_pos J_pos) (within near_w (lit≤ tt) (lit≤ tt)) (a NR DR J low_r) (b NR DR J high_r)
    where
      a : (n d j : ℕ) → 16777216 * 8388607 * d ≤ 16777219 * 8388608 * n → 1 * 1048576 * (d * j) + 4 * (8 * (n * j + 0) + d * j) + 4 * 1048576 * 0 ≤ 4 * 1048576 * (n * j)
      a n d j h = let l : d ≤ 2 * n = omega arith in omega (arith, mul-le-mul_right j l)

      b : (n d j : ℕ) → 16777216 * 8388608 * n ≤ 16777219 * 8388609 * d → 4 * 1048576 * (n * j) + 4 * (8 * (n * j + 0) + d * j) ≤ 16 * 1048576 * (d * j) + 4 * 1048576 * 0
      b n d j h = let l : n ≤ 2 * d = omega arith in omega (arith, mul-le-mul_right j l)

  ratio_w : Ratio 16777216 16777221 W (NR * J) (DR * J)
  unfolding tight
  ratio_w = ratio_of_lem 16777216 16777221 (NR * J) (DR * J) near_w loose.above (s NR DR J low_r) (t (num W) (den W) loose.low) tt
    where
      s : (n d j : ℕ) → 16777216 * 8388607 * d ≤ 16777219 * 8388608 * n → d * j ≤ 4 * (n * j)
      s n d j h = let l : d ≤ 2 * n = omega arith in omega (arith, mul-le-mul_right j l)

      t : (n d : ℕ) → 1 * d ≤ n * 4 → d ≤ 4 * n
      t n d h = omega arith

  low_w : 1048575 * den W ≤ num W * 1048576
  low_w = go (num W) (den W) (last 16777216 16777221 (16777216 * 8388607) (16777219 * 8388608) (den W) (num W) NR DR J J_pos NR_pos ratio_w.below low_r)
    where
      go : (n d : ℕ) → 16777216 * (16777216 * 8388607) * d ≤ 16777221 * (16777219 * 8388608) * n → 1048575 * d ≤ n * 1048576
      go n d h = omega arith

  high_w : num W * 1048576 ≤ 1048577 * den W
  high_w = go (num W) (den W) (last 16777216 16777221 (16777216 * 8388608) (16777219 * 8388609) (num W) (den W) DR NR J J_pos DR_pos ratio_w.above high_r)
    where
      go : (n d : ℕ) → 16777216 * (16777216 * 8388608) * n ≤ 16777221 * (16777219 * 8388609) * d → n * 1048576 ≤ 1048577 * d
      go n d h = omega arith

  pub pair_on_circle : T (circle sine cosine)
  pair_on_circle = circle_of sine cosine (record {
    finite_s = (within near_sine (lit≤ tt) (lit≤ tt)).is_finite;
    finite_c = (within near_cosine (lit≤ tt) (lit≤ tt)).is_finite;
    above = cross→le circle_bottom W tt loose.above low_w;
    below = cross→le W circle_top loose.above tt high_w;
  })
