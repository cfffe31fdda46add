-- From accepted inputs to the two factors: the radius of curvature, 6371 to 6417 km, with the height, and the same shrunk along the axis. Assumes nothing.
use mathlib.Core.Path.{◌≡◌, refl, sym, ap, ap₂, ◌∙◌, subst}
use Prim.Native.Nat.{ℕ, ◌+◌, ◌*◌, ◌≤◌, ◌<◌}
use native.Mathlib.Nat.{le_trans, mul-pos, mul-le-mul_right, le_of_mul-le-mul_right}
use native.Mathlib.Omega.{arith}
use mathlib.Core.Bool.{false}
use lib.IntN.{pos, negsuc}
use lib.Dec.{T, lit≤, lit<}
use lib.Ieee.{Float, fin, binary32, add, sub, mul, div, fits, of_bits}
use lib.Ieee.Fits.{sub-fits}
use lib.Ieee.Positive.{num, den, positive, positive-finite, den_pos}
use Rattle.exact.specs.Tests.{circle}
use Rattle.exact.specs.Exact.{Exact, own, mul_e, add_e, sub_e, neg_e}
use Rattle.exact.proofs.Near.{near_own}
use Rattle.exact.proofs.Reach.{within}
use Rattle.exact.proofs.Ranks.{Abs, Nr, Leaf, leaf_a, add_a, mul_a, fine_ok, nr_mul, nr_add, nr_sub}
use Rattle.exact.proofs.Sizes.{own_size, own_over}
use Rattle.exact.proofs.Circle.{circle_leaf}
use Rattle.roots.specs.Root.{sqrt_of}
use Rattle.geocentric.specs.Geo.{one, wgs84_a, wgs84_e2, flatness, curve, cosine_factor, sine_factor, height_ok}
use Rattle.geocentric.proofs.Fractions.{mk, mk_eq, own_above, Between, of_within, held, at_most}
use Rattle.geocentric.proofs.Squares.{one_part, square_plus}
use Rattle.geocentric.proofs.Root.{root}
use Rattle.geocentric.proofs.Steps.{product, quotient}
use Rattle.geocentric.proofs.Lent.{lent, Signed, height, height_size}

-- ---- the constants as floats
one_is : one ≡ fin false 1 (pos 0)
unfolding of_bits
one_is = refl

e2_is : wgs84_e2 ≡ fin false 1797009 (negsuc 27)
unfolding of_bits
e2_is = refl

a_is : wgs84_a ≡ fin false 6378137 (pos 0)
unfolding of_bits
a_is = refl

rest_is : sub binary32 one wgs84_e2 ≡ fin false 16664903 (negsuc 23)
unfolding of_bits sub
rest_is = refl

-- ---- 1 - E2 * s * s, exactly: with 2 ^ 28 below, E2 is 1797009
flat_exact : (s : Float) → sub_e (own (fin false 1 (pos 0))) (mul_e (mul_e (own (fin false 1797009 (negsuc 27))) (own s)) (own s))
    ≡ mk (268435456 * (den s * den s)) (1797009 * (num s * num s)) (268435456 * (den s * den s))
unfolding own mul_e add_e sub_e neg_e
flat_exact s =
    mk_eq (a (own s).plus (own s).minus (one_part s) ∙ scaled) (b (own s).plus (own s).minus (own s).over (num s) (square_plus (own s).plus (own s).minus (num s) (one_part s) (own_size s)))
    (c (own s).over ∙ scaled)
  where
    scaled : 268435456 * ((own s).over * (own s).over) ≡ 268435456 * (den s * den s)
    scaled = ap (λ (d : ℕ). 268435456 * (d * d)) (own_over s)

    a : (p m : ℕ) → p * m ≡ 0 → 1 * (268435456 * (own s).over * (own s).over) + ((1797009 * p + 0 * m) * m + (1797009 * m + 0 * p) * p) * 1 ≡ 268435456 * ((own s).over * (own s).over)
    a p m z = go (own s).over
      where
        go : (d : ℕ) → 1 * (268435456 * d * d) + ((1797009 * p + 0 * m) * m + (1797009 * m + 0 * p) * p) * 1 ≡ 268435456 * (d * d)
        go d = omega arith

    b : (p m d n : ℕ) → p * p + m * m ≡ n * n → 0 * (268435456 * d * d) + ((1797009 * p + 0 * m) * p + (1797009 * m + 0 * p) * m) * 1 ≡ 1797009 * (n * n)
    b p m d n e = omega arith

    c : (d : ℕ) → 1 * (268435456 * d * d) ≡ 268435456 * (d * d)
    c d = omega arith

abbrev flat_a : Abs
flat_a = add_a (leaf_a 1) (mul_a (mul_a (leaf_a 1) (leaf_a 2)) (leaf_a 2))

-- the square of one member
part_of : (a b x y : ℕ) → 0 < y → 65536 * (a * y + x * b) ≤ 65537 * (b * y) → 65536 * a ≤ 65537 * b
part_of a b x y Y h = le_of_mul-le-mul_right (mid h) Y
  where
    mid : 65536 * (a * y + x * b) ≤ 65537 * (b * y) → 65536 * a * y ≤ 65537 * b * y
    mid h = omega arith

leaf_1 : Leaf 1 (fin false 1 (pos 0))
unfolding own
leaf_1 = near_own tt (lit≤ tt)

leaf_e2 : Leaf 1 (fin false 1797009 (negsuc 27))
unfolding own
leaf_e2 = near_own tt (lit≤ tt)

flat_between : (s c : Float) → T (circle s c) → Between 990 1001 1000 (flatness s)
unfolding flatness
flat_between s c o =
    let ls = (circle_leaf s c o).0 in
    let t = sub binary32 (fin false 1 (pos 0)) (mul binary32 (mul binary32 (fin false 1797009 (negsuc 27)) s) s) in
    let x = mk (268435456 * (den s * den s)) (1797009 * (num s * num s)) (268435456 * (den s * den s)) in
    let n : Nr flat_a t x =
    subst (λ (e : Exact). Nr flat_a t e) (flat_exact s)
    (nr_sub leaf_1 (nr_mul (nr_mul leaf_e2 ls (fine_ok (mul_a (leaf_a 1) (leaf_a 2)) tt)) ls (fine_ok (mul_a (mul_a (leaf_a 1) (leaf_a 2)) (leaf_a 2)) tt)) (fine_ok flat_a tt)) in
    let k = part_of (num s * num s) (den s * den s) (num c * num c) (den c * den c) (mul-pos (den_pos c) (den_pos c)) (lent s c o).most in
    subst (λ (z : Float). Between 990 1001 1000 z) (ap₂ (λ (u v : Float). sub binary32 u (mul binary32 (mul binary32 v s) s)) (sym one_is) (sym e2_is))
    (of_within 990 1001 1000 t x (lit< tt) (mul-pos (lit< tt) (mul-pos (den_pos s) (den_pos s))) (within n (lit≤ tt) (lit≤ tt)) (a (num s * num s) (den s * den s) k) (b (num s * num s) (den s * den s) k))
  where
    a : (n d : ℕ) → 65536 * n ≤ 65537 * d
        → 990 * 1048576 * (268435456 * d) + 1000 * (8 * (268435456 * d + 1797009 * n) + 268435456 * d) + 1000 * 1048576 * (1797009 * n) ≤ 1000 * 1048576 * (268435456 * d)
    a n d h = omega arith

    b : (n d : ℕ) → 65536 * n ≤ 65537 * d
        → 1000 * 1048576 * (268435456 * d) + 1000 * (8 * (268435456 * d + 1797009 * n) + 268435456 * d) ≤ 1001 * 1048576 * (268435456 * d) + 1000 * 1048576 * (1797009 * n)
    b n d h = omega arith

-- ---- the radius of curvature
flat_fits : (s : Float) → T (fits binary32 (flatness s))
unfolding flatness
flat_fits s = sub-fits binary32 one (mul binary32 (mul binary32 wgs84_e2 s) s)

curve_between : (s c : Float) → T (circle s c) → Between 6371000 6417000 1 (curve s)
unfolding curve held
curve_between s c o =
    let g = sqrt_of (flatness s) in
    let w : Between 994 1001 1000 g = root 990 1001 1000 994 1001 1000 (flatness s) (flat_fits s) (flat_between s c o) (lit< tt) (lit< tt) (lit≤ tt) (lit≤ tt) in
    subst (λ (z : Float). Between 6371000 6417000 1 (div binary32 z g)) (sym a_is)
    (quotient 6371000 6417000 1 (fin false 6378137 (pos 0)) g tt w.above tt tt (lit< tt) (a (num g) (den g) w.high) (b (num g) (den g) w.low))
  where
    a : (n d : ℕ) → n * 1000 ≤ 1001 * d → 6371000 * (n * 1) ≤ 6378137 * 1 * d * 1
    a n d h = omega arith

    b : (n d : ℕ) → 994 * d ≤ n * 1000 → 6378137 * 1 * d * 1 ≤ 6417000 * (n * 1)
    b n d h = omega arith

-- ---- with the height
sum_exact : (f h : Float) → T (positive f) → add_e (own f) (own h) ≡ mk (num f * (own h).over + (own h).plus * den f) ((own h).minus * den f) (den f * (own h).over)
unfolding add_e
sum_exact f h p = ap (λ (e : Exact). add_e e (own h)) (own_above f p) ∙ mk_eq refl (go (own h).over (own h).minus (den f)) refl
  where
    go : (o m d : ℕ) → 0 * o + m * d ≡ m * d
    go o m d = omega arith

raised : (a b a' b' : ℕ) (f h : Float) → Between a b 1 f → Signed 1000 850000 h → b ≤ 6417000 → a' + 1100 ≤ a → b + 850100 ≤ b' → 0 < a' → Between a' b' 1 (add binary32 f h)
raised a b a' b' f h w v t k l A =
    let n : Leaf 6417000 f = near_own (positive-finite f w.above) (at_most a b 1 f w (lit< tt) 6417000 (omega arith)) in
    let m : Leaf 851000 h = near_own v.is_finite (height_size h v) in
    let x = mk (num f * (own h).over + (own h).plus * den f) ((own h).minus * den f) (den f * (own h).over) in
    let S = add_a (leaf_a 6417000) (leaf_a 851000) in
    let q : Nr S (add binary32 f h) x = subst (λ (e : Exact). Nr S (add binary32 f h) e) (sum_exact f h w.above) (nr_add n m (fine_ok S tt)) in
    of_within a' b' 1 (add binary32 f h) x A (mul-pos (den_pos f) (rw (own_over h) (den_pos h))) (within q (lit≤ tt) (lit≤ tt))
    (lo (num f) (den f) (own h).plus (own h).minus (own h).over w.low w.high v.back v.forth)
    (hi (num f) (den f) (own h).plus (own h).minus (own h).over w.high v.back v.forth)
  where
    lo : (n d p m o : ℕ) → a * d ≤ n * 1 → n * 1 ≤ b * d → m ≤ 1000 * o → p ≤ 850000 * o
        → a' * 1048576 * (d * o) + 1 * (8 * (n * o + p * d + m * d) + d * o) + 1 * 1048576 * (m * d) ≤ 1 * 1048576 * (n * o + p * d)
    lo n d p m o h1 h2 h3 h4 = go (n * o) (p * d) (m * d) (d * o) (mul-le-mul_right (d * o) k) (omega (arith, mul-le-mul_right o h1)) (le_trans (omega (arith, mul-le-mul_right o h2)) (mul-le-mul_right (d * o) t)) (omega (arith, mul-le-mul_right d h3)) (omega (arith, mul-le-mul_right d h4))
      where
        go : (N P M O : ℕ) → (a' + 1100) * O ≤ a * O → a * O ≤ N → N ≤ 6417000 * O → M ≤ 1000 * O → P ≤ 850000 * O
            → a' * 1048576 * O + 1 * (8 * (N + P + M) + O) + 1 * 1048576 * M ≤ 1 * 1048576 * (N + P)
        go N P M O z x y m p = omega arith

    hi : (n d p m o : ℕ) → n * 1 ≤ b * d → m ≤ 1000 * o → p ≤ 850000 * o
        → 1 * 1048576 * (n * o + p * d) + 1 * (8 * (n * o + p * d + m * d) + d * o) ≤ b' * 1048576 * (d * o) + 1 * 1048576 * (m * d)
    hi n d p m o h2 h3 h4 = go (n * o) (p * d) (m * d) (d * o) (mul-le-mul_right (d * o) l) (omega (arith, mul-le-mul_right o h2)) (le_trans (omega (arith, mul-le-mul_right o h2)) (mul-le-mul_right (d * o) t)) (omega (arith, mul-le-mul_right d h3)) (omega (arith, mul-le-mul_right d h4))
      where
        go : (N P M O : ℕ) → (b + 850100) * O ≤ b' * O → N ≤ b * O → N ≤ 6417000 * O → M ≤ 1000 * O → P ≤ 850000 * O
            → 1 * 1048576 * (N + P) + 1 * (8 * (N + P + M) + O) ≤ b' * 1048576 * O + 1 * 1048576 * M
        go N P M O z x y m p = omega arith

pub cosine_factor_between : (h s c : Float) → T (height_ok h) → T (circle s c) → Between 6326000 7268000 1 (cosine_factor h s)
unfolding cosine_factor
cosine_factor_between h s c t o = raised 6371000 6417000 6326000 7268000 (curve s) h (curve_between s c o) (height h t) (lit≤ tt) (lit≤ tt) (lit≤ tt) (lit< tt)

shrunk : (s c : Float) → T (circle s c) → Between 6328000 6375000 1 (mul binary32 (curve s) (sub binary32 one wgs84_e2))
unfolding held
shrunk s c o =
    let w = curve_between s c o in
    let f = curve s in
    subst (λ (z : Float). Between 6328000 6375000 1 (mul binary32 f z)) (sym rest_is)
    (product 6328000 6375000 1 f (fin false 16664903 (negsuc 23)) w.above tt tt tt (lit< tt) (a (num f) (den f) w.low) (b (num f) (den f) w.high))
  where
    a : (n d : ℕ) → 6371000 * d ≤ n * 1 → 6328000 * (d * 16777216) ≤ n * (16664903 * 1) * 1
    a n d h = omega arith

    b : (n d : ℕ) → n * 1 ≤ 6417000 * d → n * (16664903 * 1) * 1 ≤ 6375000 * (d * 16777216)
    b n d h = omega arith

pub sine_factor_between : (h s c : Float) → T (height_ok h) → T (circle s c) → Between 6326000 7268000 1 (sine_factor h s)
unfolding sine_factor
sine_factor_between h s c t o = raised 6328000 6375000 6326000 7268000 (mul binary32 (curve s) (sub binary32 one wgs84_e2)) h (shrunk s c o) (height h t) (lit≤ tt) (lit≤ tt) (lit≤ tt) (lit< tt)
