-- The code's arctangent, in units of 2 ^ -24 degree, is within 2 ^ -16 degree of the exact one. Assumes nothing.
use mathlib.Core.Path.{◌≡◌, sym}
use Prim.Native.Nat.{ℕ, ◌+◌, ◌*◌, ◌/◌, ◌≤◌, ◌<◌}
use native.Mathlib.Nat.{le_trans, le_of_eq, mul-le-mul, mul-le-mul_right, div-mul-le_self, lt-div-mul-add, le_of_mul-le-mul_right, zero-mul, zero-div}
use native.Mathlib.Omega.{arith}
use lib.Dec.{lit<}
use Rattle.trig.specs.Circle.{inverse, nested, IsArc}
use Rattle.trig.proofs.Sums.{Square, units_most, sum_most}
use Rattle.direction.specs.Arc.{coarse}
use Rattle.direction.specs.Direction.{arc_part, arc_of, ratio_of}
use Rattle.direction.proofs.ArcChain.{scale, arc_under, arc_over}

-- ---- the quotient and its square
module _ (n d : ℕ) (p : 0 < d) (l : 12 * n ≤ 5 * d) where
  ratio_high : ratio_of n d * d ≤ n * 1073741824
  unfolding ratio_of
  ratio_high = div-mul-le_self (n * 1073741824) d

  ratio_low : n * 1073741824 ≤ (ratio_of n d + 1) * d
  unfolding ratio_of
  ratio_low = shape (n * 1073741824 / d) d (n * 1073741824) (lt-div-mul-add {a = n * 1073741824} {b = d} p)
    where
      shape : (t b a : ℕ) → a < t * b + b → a ≤ (t + 1) * b
      shape t b a h = omega arith

  pub ratio_most : ratio_of n d ≤ 447392426
  ratio_most = go (ratio_of n d) (le_of_mul-le-mul_right (shape (ratio_of n d) ratio_high) p)
    where
      shape : (r : ℕ) → r * d ≤ n * 1073741824 → 12 * r * d ≤ 5368709120 * d
      shape r h = omega arith

      go : (r : ℕ) → 12 * r ≤ 5368709120 → r ≤ 447392426
      go r h = omega arith

  pub ratio_small : Square scale (ratio_of n d * ratio_of n d / 1073741824) (n * n) (d * d)
  ratio_small = go (ratio_of n d) ratio_most ratio_high ratio_low
    where
      squares : (a b c e : ℕ) → a * b ≤ c * e → a * a * (b * b) ≤ c * c * (e * e)
      squares a b c e h = le_trans (le_of_eq (four a b)) (le_trans (mul-le-mul h h) (le_of_eq (sym (four c e))))
        where
          four : (a b : ℕ) → a * a * (b * b) ≡ a * b * (a * b)
          four a b = omega arith

      most : (r : ℕ) → r * r ≤ 447392426 * 447392426 → r * r / 1073741824 ≤ 186413511
      most r h = omega arith

      less : 12 * 12 * (n * n) ≤ 5 * 5 * (d * d) → 144 * (n * n) ≤ 25 * (d * d)
      less h = omega arith

      high : (z R D N : ℕ) → z * 1073741824 ≤ R → R * D ≤ N * (1073741824 * 1073741824) → z * D ≤ N * 1073741824
      high z R D N a b = le_of_mul-le-mul_right (shape z R D N (mul-le-mul_right D a) b) (lit< {m = 0} {n = 1073741824} tt)
        where
          shape : (z R D N : ℕ) → z * 1073741824 * D ≤ R * D → R * D ≤ N * (1073741824 * 1073741824) → z * D * 1073741824 ≤ N * 1073741824 * 1073741824
          shape z R D N a b = omega arith

      low : (z R D N : ℕ) → R ≤ (z + 2) * 1073741824 → N * (1073741824 * 1073741824) ≤ R * D → N * 1073741824 ≤ (z + 2) * D
      low z R D N a b = le_of_mul-le-mul_right (shape z R D N (mul-le-mul_right D a) b) (lit< {m = 0} {n = 1073741824} tt)
        where
          shape : (z R D N : ℕ) → R * D ≤ (z + 2) * 1073741824 * D → N * (1073741824 * 1073741824) ≤ R * D → N * 1073741824 * 1073741824 ≤ (z + 2) * D * 1073741824
          shape z R D N a b = omega arith

      floor : (x : ℕ) → x / 1073741824 * 1073741824 ≤ x
      floor x = omega arith

      next : (r : ℕ) → r ≤ 447392426 → (r + 1) * (r + 1) ≤ (r * r / 1073741824 + 2) * 1073741824
      next r h = go (r * r) r h (shape r)
        where
          shape : (r : ℕ) → (r + 1) * (r + 1) ≡ r * r + 2 * r + 1
          shape r = omega arith

          go : (x r : ℕ) {y : ℕ} → r ≤ 447392426 → y ≡ x + 2 * r + 1 → y ≤ (x / 1073741824 + 2) * 1073741824
          go x r h e = omega arith

      swap : (a b c : ℕ) → a ≤ b * c → a ≤ c * b
      swap a b c h = omega arith

      go : (r : ℕ) → r ≤ 447392426 → r * d ≤ n * 1073741824 → n * 1073741824 ≤ (r + 1) * d → Square scale (r * r / 1073741824) (n * n) (d * d)
      go r m a b = record {
        most = most r (mul-le-mul m m);
        less = less (squares 12 n 5 d l);
        high = high (r * r / 1073741824) (r * r) (d * d) (n * n) (floor (r * r)) (squares r d n 1073741824 a);
        low = low (r * r / 1073741824) ((r + 1) * (r + 1)) (d * d) (n * n) (next r m) (squares n 1073741824 (r + 1) d b);
      }

-- ---- with names for all: r / d for the quotient, h for the sum's part, a for their product, j for the answer; x / y the exact sum
product_high : (r h a n d p q : ℕ) → a * 1073741824 ≤ r * h → r * d ≤ n * 1073741824 → h * q ≤ p * 1073741824 + 3 * q → n ≤ d → a * (d * q) ≤ n * p * 1073741824 + 3 * (d * q)
product_high r h a n d p q x y w l =
    le_of_mul-le-mul_right (shape (mul-le-mul_right (d * q) x) (mul-le-mul y w) (mul-le-mul_right q l)) (lit< {m = 0} {n = 1073741824} tt)
  where
    shape : a * 1073741824 * (d * q) ≤ r * h * (d * q) → r * d * (h * q) ≤ n * 1073741824 * (p * 1073741824 + 3 * q) → n * q ≤ d * q → a * (d * q) * 1073741824 ≤ (n * p * 1073741824 + 3 * (d * q)) * 1073741824
    shape a b c = omega arith

answer_high : (a j N D : ℕ) → j * 1073741824 ≤ a * 961263669 + 536870912 → a * D ≤ N * 1073741824 + 3 * D → N ≤ D → 2 * coarse * j * (314159265359 * D) ≤ (2 * coarse * (180 * 100000000000 * N) + 314159265359 * D) * 16777216
answer_high a j N D x y l = scaled (j * D) N D (degrees (j * D) N D (whole (j * D) (a * D) N D (line (mul-le-mul_right D x)) y) l) (left j D) (right N D)
  where
    line : j * 1073741824 * D ≤ (a * 961263669 + 536870912) * D → j * D * 1073741824 ≤ a * D * 961263669 + 536870912 * D
    line h = omega arith

    whole : (J A N D : ℕ) → J * 1073741824 ≤ A * 961263669 + 536870912 * D → A ≤ N * 1073741824 + 3 * D → J ≤ 961263669 * N + 4 * D
    whole J A N D h i = omega arith

    degrees : (J N D : ℕ) → J ≤ 961263669 * N + 4 * D → N ≤ D → 314159265359 * J ≤ 301989888000000000000 * N + 314159265359 * (5 * D)
    degrees J N D h l = omega arith

    scaled : (J N D : ℕ) {x y : ℕ} → 314159265359 * J ≤ 301989888000000000000 * N + 314159265359 * (5 * D) → x ≡ 2 * coarse * (314159265359 * J) → y ≡ 2 * coarse * (301989888000000000000 * N) + 16777216 * (314159265359 * D) → x ≤ y
    scaled J N D h e f = omega arith

    left : (j D : ℕ) → 2 * coarse * j * (314159265359 * D) ≡ 2 * coarse * (314159265359 * (j * D))
    left j D = omega arith

    right : (N D : ℕ) → (2 * coarse * (180 * 100000000000 * N) + 314159265359 * D) * 16777216 ≡ 2 * coarse * (301989888000000000000 * N) + 16777216 * (314159265359 * D)
    right N D = omega arith

product_low : (r h a n d p q : ℕ) → r * h ≤ (a + 1) * 1073741824 → n * 1073741824 ≤ (r + 1) * d → p * 1073741824 ≤ (h + 53) * q → r ≤ 447392426 → h ≤ 1073741824 → n * p * 1073741824 ≤ (a + 56) * (d * q)
product_low r h a n d p q x y w l m =
    le_of_mul-le-mul_right (by (r + 1) (h + 53) (mul-le-mul y w) (mul-le-mul_right (d * q) (more r h a x l m))) (lit< {m = 0} {n = 1073741824} tt)
  where
    more : (r h a : ℕ) → r * h ≤ (a + 1) * 1073741824 → r ≤ 447392426 → h ≤ 1073741824 → (r + 1) * (h + 53) ≤ (a + 56) * 1073741824
    more r h a x l m = omega arith

    by : (R H : ℕ) → n * 1073741824 * (p * 1073741824) ≤ R * d * (H * q) → R * H * (d * q) ≤ (a + 56) * 1073741824 * (d * q) → n * p * 1073741824 * 1073741824 ≤ (a + 56) * (d * q) * 1073741824
    by R H b c = omega arith

answer_low : (a j N D : ℕ) → a * 961263669 ≤ j * 1073741824 + 536870912 → N * 1073741824 ≤ (a + 56) * D → 2 * coarse * 16777216 * (180 * 100000000000 * N) ≤ (2 * coarse * j + 16777216) * (314159265358 * D)
answer_low a j N D x y = scaled (j * D) N D (degrees (j * D) N D (whole (j * D) (a * D) N D (line (mul-le-mul_right D x)) (split y))) (left N) (right j D)
  where
    line : a * 961263669 * D ≤ (j * 1073741824 + 536870912) * D → a * D * 961263669 ≤ j * D * 1073741824 + 536870912 * D
    line h = omega arith

    split : N * 1073741824 ≤ (a + 56) * D → N * 1073741824 ≤ a * D + 56 * D
    split h = omega arith

    whole : (J A N D : ℕ) → A * 961263669 ≤ J * 1073741824 + 536870912 * D → N * 1073741824 ≤ A + 56 * D → 961263669 * N ≤ J + 51 * D
    whole J A N D h i = omega arith

    degrees : (J N D : ℕ) → 961263669 * N ≤ J + 51 * D → 301989888000000000000 * N ≤ 314159265358 * (J + 51 * D)
    degrees J N D h = omega arith

    scaled : (J N D : ℕ) {x y : ℕ} → 301989888000000000000 * N ≤ 314159265358 * (J + 51 * D) → x ≡ 2 * coarse * (301989888000000000000 * N) → y ≡ 2 * coarse * (314159265358 * J) + 16777216 * (314159265358 * D) → x ≤ y
    scaled J N D h e f = omega arith

    left : (N : ℕ) → 2 * coarse * 16777216 * (180 * 100000000000 * N) ≡ 2 * coarse * (301989888000000000000 * N)
    left N = omega arith

    right : (j D : ℕ) → (2 * coarse * j + 16777216) * (314159265358 * D) ≡ 2 * coarse * (314159265358 * (j * D)) + 16777216 * (314159265358 * D)
    right j D = omega arith

-- ---- the arctangent
pub part_most : (z : ℕ) → arc_part z ≤ 1073741824
unfolding arc_part
part_most z = units_most inverse 1073741824 7 1 z

module _ (n d : ℕ) (p : 0 < d) (l : 12 * n ≤ 5 * d) where
  pub is_arc : IsArc (2 * coarse) n d (arc_of (ratio_of n d)) 16777216
  unfolding arc_of
  is_arc =
      let r = ratio_of n d in
      let s = ratio_small n d p l in
      let h = arc_part (r * r / 1073741824) in
      let a = r * h / 1073741824 in
      let m : n ≤ d = few n d l in
      record {
        above = answer_high a ((a * 961263669 + 536870912) / 1073741824) (n * (nested inverse 7 1 (n * n) (d * d)).top) (d * (nested inverse 7 1 (n * n) (d * d)).bottom) (floor (a * 961263669 + 536870912))
            (product_high r h a n d (nested inverse 7 1 (n * n) (d * d)).top (nested inverse 7 1 (n * n) (d * d)).bottom (floor (r * h)) (ratio_high n d p l) (arc_under (r * r / 1073741824) (n * n) (d * d) s) m) (mul-le-mul m (sum_most inverse 7 1 (n * n) (d * d)));
        below = answer_low a ((a * 961263669 + 536870912) / 1073741824) (n * (nested inverse 8 1 (n * n) (d * d)).top) (d * (nested inverse 8 1 (n * n) (d * d)).bottom) (ceil (a * 961263669))
            (product_low r h a n d (nested inverse 8 1 (n * n) (d * d)).top (nested inverse 8 1 (n * n) (d * d)).bottom (over (r * h)) (ratio_low n d p l) (arc_over (r * r / 1073741824) (n * n) (d * d) s) (ratio_most n d p l) (part_most (r * r / 1073741824)));
      }
    where
      few : (n d : ℕ) → 12 * n ≤ 5 * d → n ≤ d
      few n d h = omega arith

      floor : (x : ℕ) → x / 1073741824 * 1073741824 ≤ x
      floor x = omega arith

      over : (x : ℕ) → x ≤ (x / 1073741824 + 1) * 1073741824
      over x = omega arith

      ceil : (x : ℕ) → x ≤ (x + 536870912) / 1073741824 * 1073741824 + 536870912
      ceil x = omega arith

-- ---- the code's bounds, and the arctangent of zero
pub arc_most : (r : ℕ) → r ≤ 447392426 → arc_of r ≤ 754974720
unfolding arc_of
arc_most r h = go (r * arc_part (r * r / 1073741824)) (mul-le-mul h (part_most (r * r / 1073741824)))
  where
    go : (x : ℕ) → x ≤ 447392426 * 1073741824 → (x / 1073741824 * 961263669 + 536870912) / 1073741824 ≤ 754974720
    go x h = omega arith

pub arc_none : arc_of 0 ≡ 0
unfolding arc_of
arc_none = rw (zero-mul (arc_part (0 * 0 / 1073741824)))

pub ratio_none : (d : ℕ) → ratio_of 0 d ≡ 0
unfolding ratio_of
ratio_none d = zero-div d
