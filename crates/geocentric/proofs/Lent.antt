-- What the two tests say of the inputs that are lent: the exact squares of a pair on the circle add up to 1 within 2 ^ -16; a height's size. Assumes nothing.
use mathlib.Core.Path.{subst}
use Prim.Native.Nat.{ℕ, ◌+◌, ◌*◌, ◌≤◌, ◌<◌, zero-le}
use native.Mathlib.Nat.{mul-le-mul_right, le_of_mul-le-mul_right}
use native.Mathlib.Omega.{arith}
use mathlib.Core.Bool.{true, false}
use lib.Dec.{T, lit≤}
use lib.Ieee.{Float, nan, inf, fin, up, down, le, lt, eq, neg, of_bits}
use lib.Ieee.Fits.{and_l, and_r}
use lib.Ieee.Positive.{num, den, positive, den_pos, le→cross, between}
use lib.Ieee.Scale.{finite}
use Rattle.exact.specs.Tests.{circle}
use Rattle.exact.specs.Exact.{Exact, own}
use Rattle.exact.proofs.Reach.{within}
use Rattle.exact.proofs.Ranks.{Abs, Nr, leaf_a, add_a, mul_a, fine_ok, nr_mul, nr_add}
use Rattle.exact.proofs.Sizes.{AtMost, or_le, or_ge}
use Rattle.exact.proofs.Circle.{circle_bottom, circle_top, circled, circle_leaf}
use Rattle.geocentric.specs.Geo.{squares, lowest, highest, height_ok}
use Rattle.geocentric.proofs.Fractions.{mk, off}
use Rattle.geocentric.proofs.Squares.{sum_own}

-- ---- a pair
pub record Lent (s c : Float) : Type 0 where
  pub least : 65535 * (den s * den s * (den c * den c)) ≤ 65536 * (num s * num s * (den c * den c) + num c * num c * (den s * den s))
  pub most : 65536 * (num s * num s * (den c * den c) + num c * num c * (den s * den s)) ≤ 65537 * (den s * den s * (den c * den c))

abbrev pair : Abs
pair = add_a (mul_a (leaf_a 2) (leaf_a 2)) (mul_a (leaf_a 2) (leaf_a 2))

-- n / d is the rounded sum, N / D the exact one
lent_low : (n d N D : ℕ) → 0 < d → 1048575 * d ≤ n * 1048576 → n * D * 1048576 ≤ N * d * 1048576 + 8 * N * d + d * D → 65535 * D ≤ 65536 * N
lent_low n d N D P l h = last (le_of_mul-le-mul_right (mid (mul-le-mul_right D l)) P)
  where
    mid : 1048575 * d * D ≤ n * 1048576 * D → 1048574 * D * d ≤ 1048584 * N * d
    mid k = omega arith

    last : 1048574 * D ≤ 1048584 * N → 65535 * D ≤ 65536 * N
    last k = omega arith

lent_high : (n d N D : ℕ) → 0 < d → n * 1048576 ≤ 1048577 * d → N * d * 1048576 ≤ n * D * 1048576 + 8 * N * d + d * D → 65536 * N ≤ 65537 * D
lent_high n d N D P l h = last (le_of_mul-le-mul_right (mid (mul-le-mul_right D l)) P)
  where
    mid : n * 1048576 * D ≤ 1048577 * d * D → 1048568 * N * d ≤ 1048578 * D * d
    mid k = omega arith

    last : 1048568 * N ≤ 1048578 * D → 65536 * N ≤ 65537 * D
    last k = omega arith

pub lent : (s c : Float) → T (circle s c) → Lent s c
lent s c t =
    let W = squares s c in
    let o = circled s c t in
    let l = circle_leaf s c t in
    let p : T (positive W) = between circle_bottom W circle_top tt tt o.above o.below in
    let N = num s * num s * (den c * den c) + num c * num c * (den s * den s) in
    let D = den s * den s * (den c * den c) in
    let square = fine_ok (mul_a (leaf_a 2) (leaf_a 2)) tt in
    let nw : Nr pair W (mk N 0 D) = subst (λ (e : Exact). Nr pair W e) (sum_own s c) (nr_add (nr_mul l.0 l.0 square) (nr_mul l.1 l.1 square) (fine_ok pair tt)) in
    let w = off W N D p (within nw (lit≤ tt) (lit≤ tt)) in
    record {
      least = lent_low (num W) (den W) N D (den_pos W) (le→cross circle_bottom W tt p o.above) w.up;
      most = lent_high (num W) (den W) N D (den_pos W) (le→cross W circle_top p tt o.below) w.down;
    }

-- ---- a height
-- from -a to b
pub record Signed (a b : ℕ) (f : Float) : Type 0 where
  pub is_finite : T (finite f)
  pub back : (own f).minus ≤ a * (own f).over
  pub forth : (own f).plus ≤ b * (own f).over

height_in : (h : Float) → T (le lowest h) → T (le h highest) → Signed 1000 850000 h
unfolding le lt eq own neg of_bits
height_in nan p q = absurd p
height_in (inf false) p q = absurd q
height_in (inf true) p q = absurd p
height_in (fin false k c) p q = record { is_finite = tt; back = zero-le; forth = omega (arith, or_le (k * up c * den highest) (num highest * down c) true q) }
height_in (fin true k c) p q = record { is_finite = tt; back = omega (arith, or_ge (num lowest * down c) (k * up c * den lowest) true p); forth = zero-le }

pub height : (h : Float) → T (height_ok h) → Signed 1000 850000 h
height h t = height_in h (and_l (le lowest h) (le h highest) t) (and_r (le lowest h) (le h highest) t)

pub height_size : (h : Float) → Signed 1000 850000 h → AtMost 851000 h
height_size h w = go (own h).plus (own h).minus (own h).over w.back w.forth
  where
    go : (p m o : ℕ) → m ≤ 1000 * o → p ≤ 850000 * o → p + m ≤ 851000 * o
    go p m o a b = omega arith
