-- No rate is infinite, and none is a NaN. In units of 2 ^ -149: a component is at most 3/2 of the H or F that it is divided by, that divisor is at least 2 ^ 74 units, and the rates of X, Y and Z
-- stay far below what it would take. Assumes nothing.
use mathlib.Core.Path.{◌≡◌, sym}
use mathlib.Core.Bool.{false}
use Prim.Native.Nat.{ℕ, ◌+◌, ◌*◌, ◌^◌, ◌≤◌, ◌<◌}
use mathlib.Core.Logic.{⊎_elim}
use native.Mathlib.Nat.{le_trans, le_of_eq, le_of_lt, mul-one, lt_of_le_of_lt, lt_of_lt_of_le, mul_assoc, mul-pos, mul-le-mul, mul-le-mul_left, mul-le-mul_right, mul-lt-mul_of_pos_right, le_of_mul-le-mul_right}
use native.Mathlib.Omega.{arith}
use lib.Dec.{T, lit≤, lit<}
use lib.Pow.{pow_pos}
use lib.Ieee.{Float, binary32, fits, of_bits, add, sub, mul, div}
use lib.Ieee.Scale.{finite}
use Rattle.exact.specs.Exact.{units_of}
use Rattle.exact.proofs.Units.{ONE, In, Product, Quotient, Sum, by_first, by_second, in_add, in_div, in_finite, in_mul, in_sub, small_product}
use Rattle.roots.proofs.Laws.{own_units}
use Rattle.sums.proofs.Step.{less_or}
use Rattle.synthesis.specs.declared.Xyz.{Xyz}
use Rattle.strengths.specs.declared.GeomagneticField.{GeomagneticField}
use Rattle.strengths.specs.Strengths.{f_of, h_of}
use Rattle.rates.specs.Rates.{declination_rate, degrees_in_radian, f_rate, h_rate_of, inclination_rate, to_degrees}
use Rattle.rates.proofs.Divisors.{Rooted, Squared, in_root, root_large, square_in}

-- ---- a numerator of two products, whose other factors are at most k and j, and at most 3/2 of n: with the roundings at most 25/16 of both
numerator : (k j L A B P Q N n : ℕ) → 25 * (k + j) ≤ 16 * L → 0 < k → 2 ^ 74 ≤ n → 2 * A ≤ 3 * n → 2 * B ≤ 3 * n → 33554432 * P ≤ 33554434 * (k * A) + 16777216 → 33554432 * Q ≤ 33554434 * (j * B) + 16777216
    → 33554432 * N ≤ 33554434 * (P + Q) + 16777216 → N ≤ L * n
numerator k j L A B P Q N n f K l a b p q s =
    let u : k * (2 * A) ≤ k * (3 * n) = mul-le-mul_left k a in
    let v : j * (2 * B) ≤ j * (3 * n) = mul-le-mul_left j b in
    let i : 64 ≤ 2 ^ 74 = lit≤ tt in
    let w : 1 * 64 ≤ k * n = mul-le-mul K (le_trans i l) in
    let g : 16 * N ≤ 25 * (k * n + j * n) = go (k * A) (j * B) (k * n) (j * n) (omega arith) (omega arith) (omega arith) p q s in
    sixteenth N (L * n) (le_trans (le_trans g (le_of_eq (shape k j n))) (le_trans (mul-le-mul_right n f) (le_of_eq (mul_assoc 16 L n))))
  where
    go : (x y z t : ℕ) → 2 * x ≤ 3 * z → 2 * y ≤ 3 * t → 64 ≤ z → 33554432 * P ≤ 33554434 * x + 16777216 → 33554432 * Q ≤ 33554434 * y + 16777216 → 33554432 * N ≤ 33554434 * (P + Q) + 16777216 → 16 * N ≤ 25 * (z + t)
    go x y z t a b c d e f = omega arith

    shape : (k j n : ℕ) → 25 * (k * n + j * n) ≡ 25 * (k + j) * n
    shape k j n = omega arith

    sixteenth : (x y : ℕ) → 16 * x ≤ 16 * y → x ≤ y
    sixteenth x y h = omega arith

-- ---- divided by n units
quotient_most : (t N n K U : ℕ) → 0 < n → 0 < U → N ≤ K * n → 33554432 * t * n ≤ 33554434 * (N * U) + 16777216 * n → 33554432 * t ≤ 33554434 * (K * U) + 16777216
quotient_most t N n K U P O l h = le_of_mul-le-mul_right (mid (mul-le-mul_right U l)) P
  where
    mid : N * U ≤ K * n * U → 33554432 * t * n ≤ (33554434 * (K * U) + 16777216) * n
    mid g = omega arith

-- ---- divided by the square of n units, and turned into degrees
-- n is at most 7·2 ^ 72 times its square, m units: a small n since m is not 0, a larger one since m is at least 2/3 of the square
root_under : (n m B : ℕ) → 0 < B → 0 < m → 33554430 * (n * n) ≤ 50331648 * (m * (2 * (B * B))) → 4 * n ≤ 7 * B * m
root_under n m B P z s = ⊎_elim large (λ h. le_trans h (le_trans (le_of_eq (sym (mul-one (7 * B)))) (mul-le-mul_left (7 * B) z))) (less_or (7 * B) (4 * n))
  where
    large : 7 * B < 4 * n → 4 * n ≤ 7 * B * m
    large h =
        let p : 7 * B * n ≤ 4 * n * n = mul-le-mul_right n (le_of_lt h) in
        let q : 234881010 * n * B ≤ 402653184 * m * B * B = omega (arith, p, s) in
        let r : 234881010 * n ≤ 402653184 * m * B = le_of_mul-le-mul_right q P in
        omega (arith, r)

-- 2 ^ 121 times the square
under_square : (N n m K : ℕ) → K ≤ 73 * 2 ^ 40 → N ≤ K * n → 0 < m → 33554430 * (n * n) ≤ 50331648 * (m * ONE) → N ≤ 2 ^ 121 * m
under_square N n m K c l z s = go (2 ^ 121) (2 ^ 74) (73 * 2 ^ 40) (lit≤ tt) c (root_under n m (2 ^ 74) (pow_pos 74) z s)
  where
    go : (W B L : ℕ) → L * (7 * B) ≤ 4 * W → K ≤ L → 4 * n ≤ 7 * B * m → N ≤ W * m
    go W B L a b d =
        let p : K * (4 * n) ≤ L * (7 * B * m) = mul-le-mul b d in
        let q : L * (7 * B) * m ≤ 4 * W * m = mul-le-mul_right m a in
        omega (arith, l, p, q)

-- a radian has at most 58 degrees
radian_is : In (units_of degrees_in_radian) degrees_in_radian
unfolding of_bits fits
radian_is = record { sign = false; has = own_units degrees_in_radian tt tt }

radian_most : units_of degrees_in_radian ≤ 58 * ONE
unfolding of_bits
radian_most = lit≤ tt

degrees_finite : {N n : ℕ} (q r : Float) → In N q → Squared n r → (K : ℕ) → K ≤ 73 * 2 ^ 40 → N ≤ K * n → T (finite (to_degrees (div binary32 q (mul binary32 r r))))
degrees_finite {N} {n} q r i s K c l =
    let b = under_square N n s.m K c l s.some s.least in
    let d = in_div q (mul binary32 r r) i (square_in s) s.some (lt_of_le_of_lt b (mul-lt-mul_of_pos_right (lit< tt) s.some)) in
    let t = quotient_most d.n N s.m (2 ^ 121) ONE s.some (pow_pos 149) b d.about.high in
    let e : d.n ≤ 17 * 2 ^ 117 * ONE = go d.n (2 ^ 117) ONE (pow_pos 149) (pow_pos 117) t in
    let p = in_mul (div binary32 q (mul binary32 r r)) degrees_in_radian d.is radian_is (small_product d.n (units_of degrees_in_radian) (17 * 2 ^ 117) 58 ONE e radian_most (pow_pos 149) (lit< tt)) in
    in_finite _ p.is
  where
    go : (t W U : ℕ) → 0 < U → 0 < W → 33554432 * t ≤ 33554434 * (16 * W * U) + 16777216 → t ≤ 17 * W * U
    go t W U p q h = let u : 1 * 1 ≤ W * U = mul-le-mul q p in omega arith

-- ---- far from overflow
few : (P k A c U : ℕ) → 0 < U → 0 < k * c → A ≤ c * U → 33554432 * P ≤ 33554434 * (k * A) + 16777216 → P ≤ 2 * (k * c) * U
few P k A c U O C l h = le_trans (twice (k * A) (k * c * U) (le_trans (mul-le-mul_left k l) (le_of_eq (sym (mul_assoc k c U)))) (mul-pos C O) h) (le_of_eq (shape (k * c) U))
  where
    twice : (Z W : ℕ) → Z ≤ W → 0 < W → 33554432 * P ≤ 33554434 * Z + 16777216 → P ≤ 2 * W
    twice Z W z w g = omega arith

    shape : (x U : ℕ) → 2 * (x * U) ≡ 2 * x * U
    shape x U = omega arith

room : (P Q i j U : ℕ) → 0 < U → P ≤ i * U → Q ≤ j * U → i + j < 2 ^ 127 → P + Q < 2 ^ 127 * U
room P Q i j U O p q l = lt_of_le_of_lt (go p q) (mul-lt-mul_of_pos_right l O)
  where
    go : P ≤ i * U → Q ≤ j * U → P + Q ≤ (i + j) * U
    go a b = omega arith

-- ---- H and F of a field whose X, Y and Z are so many units, where neither is zero
pub record Strong (v : GeomagneticField) (X Y Z : ℕ) : Type 0 where
  pub H : Rooted X Y (h_of v)
  pub h_small : H.n ≤ 2 ^ 62 * ONE
  pub hh : Squared H.n (h_of v)
  pub F : Rooted H.n Z (f_of v)
  pub ff : Squared F.n (f_of v)

-- ---- the four rates that follow: X, Y and Z at most 2 ^ 60, as the test of refusal 12 has it, and their rates as proofs/Ceiling.antt has them
module _ (v : GeomagneticField) (r : Xyz) {X Y Z X' Y' Z' : ℕ} (ix : In X v.x) (iy : In Y v.y) (iz : In Z v.z) (lx : X ≤ 2 ^ 60 * ONE) (ly : Y ≤ 2 ^ 60 * ONE) (lz : Z ≤ 2 ^ 60 * ONE)
    (jx : In X' r.x) (jy : In Y' r.y) (jz : In Z' r.z) (mx : X' ≤ 2 ^ 41 * ONE) (my : Y' ≤ 24 * 2 ^ 40 * ONE) (mz : Z' ≤ 2 ^ 41 * ONE) (s : Strong v X Y Z) where
  O : 0 < ONE
  O = pow_pos 149

  abbrev H : Rooted X Y (h_of v)
  H = s.H

  abbrev h_small : H.n ≤ 2 ^ 62 * ONE
  h_small = s.h_small

  abbrev F : Rooted H.n Z (f_of v)
  F = s.F

  -- ---- declination
  yx : Product Y' X (mul binary32 r.y v.x)
  yx = in_mul r.y v.x jy ix (small_product Y' X (24 * 2 ^ 40) (2 ^ 60) ONE my lx O (lit< tt))

  xy : Product Y X' (mul binary32 v.y r.x)
  xy = in_mul v.y r.x iy jx (small_product Y X' (2 ^ 60) (2 ^ 41) ONE ly mx O (lit< tt))

  across : Sum yx.n xy.n (sub binary32 (mul binary32 r.y v.x) (mul binary32 v.y r.x))
  across =
      in_sub (mul binary32 r.y v.x) (mul binary32 v.y r.x) yx.is xy.is
      (room yx.n xy.n (2 * (24 * 2 ^ 40 * 2 ^ 60)) (2 * (2 ^ 41 * 2 ^ 60)) ONE O (few yx.n (24 * 2 ^ 40) X (2 ^ 60) ONE O (lit< tt) lx (by_first (24 * 2 ^ 40) yx my)) (few xy.n (2 ^ 41) Y (2 ^ 60) ONE O (lit< tt) ly (by_second (2 ^ 41) xy mx)) (lit< tt))

  declination_finite : T (finite (declination_rate (h_of v) v r))
  unfolding declination_rate
  declination_finite =
      degrees_finite _ (h_of v) across.is s.hh (41 * 2 ^ 40) (lit≤ tt)
      (numerator (24 * 2 ^ 40) (2 ^ 41) (41 * 2 ^ 40) X Y yx.n xy.n across.n H.n (lit≤ tt) (lit< tt) (root_large H) H.first H.second (by_first (24 * 2 ^ 40) yx my) (by_second (2 ^ 41) xy mx) across.high)

  -- ---- H
  xx : Product X X' (mul binary32 v.x r.x)
  xx = in_mul v.x r.x ix jx (small_product X X' (2 ^ 60) (2 ^ 41) ONE lx mx O (lit< tt))

  yy : Product Y Y' (mul binary32 v.y r.y)
  yy = in_mul v.y r.y iy jy (small_product Y Y' (2 ^ 60) (24 * 2 ^ 40) ONE ly my O (lit< tt))

  along : Sum xx.n yy.n (add binary32 (mul binary32 v.x r.x) (mul binary32 v.y r.y))
  along =
      in_add (mul binary32 v.x r.x) (mul binary32 v.y r.y) xx.is yy.is
      (room xx.n yy.n (2 * (2 ^ 41 * 2 ^ 60)) (2 * (24 * 2 ^ 40 * 2 ^ 60)) ONE O (few xx.n (2 ^ 41) X (2 ^ 60) ONE O (lit< tt) lx (by_second (2 ^ 41) xx mx)) (few yy.n (24 * 2 ^ 40) Y (2 ^ 60) ONE O (lit< tt) ly (by_second (24 * 2 ^ 40) yy my)) (lit< tt))

  along_most : along.n ≤ 41 * 2 ^ 40 * H.n
  along_most = numerator (2 ^ 41) (24 * 2 ^ 40) (41 * 2 ^ 40) X Y xx.n yy.n along.n H.n (lit≤ tt) (lit< tt) (root_large H) H.first H.second (by_second (2 ^ 41) xx mx) (by_second (24 * 2 ^ 40) yy my) along.high

  above : {A B : ℕ} {f : Float} (x : Rooted A B f) → 0 < x.n
  above x = lt_of_lt_of_le (lit< tt) (root_large x)

  h_rate : Quotient along.n H.n (h_rate_of (h_of v) v r)
  unfolding h_rate_of
  h_rate = in_div _ (h_of v) along.is (in_root H) (above H) (lt_of_le_of_lt along_most (mul-lt-mul_of_pos_right (lit< tt) (above H)))

  h_rate_finite : T (finite (h_rate_of (h_of v) v r))
  h_rate_finite = in_finite (h_rate_of (h_of v) v r) h_rate.is

  h_rate_most : h_rate.n ≤ 42 * 2 ^ 40 * ONE
  h_rate_most = go h_rate.n ONE O (quotient_most h_rate.n along.n H.n (41 * 2 ^ 40) ONE (above H) O along_most h_rate.about.high)
    where
      go : (t U : ℕ) → 0 < U → 33554432 * t ≤ 33554434 * (41 * 2 ^ 40 * U) + 16777216 → t ≤ 42 * 2 ^ 40 * U
      go t U p h = omega arith

  -- ---- inclination
  zh : Product Z' H.n (mul binary32 r.z (h_of v))
  zh = in_mul r.z (h_of v) jz (in_root H) (small_product Z' H.n (2 ^ 41) (2 ^ 62) ONE mz h_small O (lit< tt))

  hz : Product Z h_rate.n (mul binary32 v.z (h_rate_of (h_of v) v r))
  hz = in_mul v.z (h_rate_of (h_of v) v r) iz h_rate.is (small_product Z h_rate.n (2 ^ 60) (42 * 2 ^ 40) ONE lz h_rate_most O (lit< tt))

  down : Sum zh.n hz.n (sub binary32 (mul binary32 r.z (h_of v)) (mul binary32 v.z (h_rate_of (h_of v) v r)))
  down =
      in_sub (mul binary32 r.z (h_of v)) (mul binary32 v.z (h_rate_of (h_of v) v r)) zh.is hz.is
      (room zh.n hz.n (2 * (2 ^ 41 * 2 ^ 62)) (2 * (42 * 2 ^ 40 * 2 ^ 60)) ONE O (few zh.n (2 ^ 41) H.n (2 ^ 62) ONE O (lit< tt) h_small (by_first (2 ^ 41) zh mz)) (few hz.n (42 * 2 ^ 40) Z (2 ^ 60) ONE O (lit< tt) lz (by_second (42 * 2 ^ 40) hz h_rate_most)) (lit< tt))

  inclination_finite : T (finite (inclination_rate (h_of v) (f_of v) v r))
  unfolding inclination_rate
  inclination_finite =
      degrees_finite _ (f_of v) down.is s.ff (69 * 2 ^ 40) (lit≤ tt)
      (numerator (2 ^ 41) (42 * 2 ^ 40) (69 * 2 ^ 40) H.n Z zh.n hz.n down.n F.n (lit≤ tt) (lit< tt) (root_large F) F.first F.second (by_first (2 ^ 41) zh mz) (by_second (42 * 2 ^ 40) hz h_rate_most) down.high)

  -- ---- F
  zz : Product Z Z' (mul binary32 v.z r.z)
  zz = in_mul v.z r.z iz jz (small_product Z Z' (2 ^ 60) (2 ^ 41) ONE lz mz O (lit< tt))

  all_three : Sum along.n zz.n (add binary32 (add binary32 (mul binary32 v.x r.x) (mul binary32 v.y r.y)) (mul binary32 v.z r.z))
  all_three =
      in_add _ (mul binary32 v.z r.z) along.is zz.is
      (room along.n zz.n (41 * 2 ^ 40 * 2 ^ 62) (2 * (2 ^ 41 * 2 ^ 60)) ONE O (le_trans along_most (le_trans (mul-le-mul_left (41 * 2 ^ 40) h_small) (le_of_eq (sym (mul_assoc (41 * 2 ^ 40) (2 ^ 62) ONE))))) (few zz.n (2 ^ 41) Z (2 ^ 60) ONE O (lit< tt) lz (by_second (2 ^ 41) zz mz)) (lit< tt))

  all_most : all_three.n ≤ 2 ^ 47 * F.n
  all_most =
      let i : 8 ≤ 2 ^ 74 = lit≤ tt in
      third all_three.n along.n zz.n F.n (le_trans i (root_large F)) (first along.n H.n F.n along_most F.first) (second zz.n Z F.n (le_trans i (root_large F)) (by_second (2 ^ 41) zz mz) F.second) all_three.high
    where
      first : (m h f : ℕ) → m ≤ 41 * 2 ^ 40 * h → 2 * h ≤ 3 * f → m ≤ 2 ^ 46 * f
      first m h f a b = omega arith

      second : (p z f : ℕ) → 8 ≤ f → 33554432 * p ≤ 33554434 * (2 ^ 41 * z) + 16777216 → 2 * z ≤ 3 * f → p ≤ 2 ^ 43 * f
      second p z f a b c = omega arith

      third : (n m p f : ℕ) → 8 ≤ f → m ≤ 2 ^ 46 * f → p ≤ 2 ^ 43 * f → 33554432 * n ≤ 33554434 * (m + p) + 16777216 → n ≤ 2 ^ 47 * f
      third n m p f a b c d = omega arith

  f_rate_finite : T (finite (f_rate (f_of v) v r))
  unfolding f_rate
  f_rate_finite = in_finite _ (in_div _ (f_of v) all_three.is (in_root F) (above F) (lt_of_le_of_lt all_most (mul-lt-mul_of_pos_right (lit< tt) (above F)))).is

  pub four_finite : T (finite (declination_rate (h_of v) v r)) × T (finite (inclination_rate (h_of v) (f_of v) v r)) × T (finite (h_rate_of (h_of v) v r)) × T (finite (f_rate (f_of v) v r))
  four_finite = (declination_finite, inclination_finite, h_rate_finite, f_rate_finite)
