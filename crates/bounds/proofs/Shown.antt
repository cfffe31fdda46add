-- What is shown for a float near a majorant covers the allowance of that majorant.
use mathlib.Core.Path.{◌≡◌, refl, ap, ◌∙◌, subst}
use Prim.Native.Nat.{ℕ, suc, ◌+◌, ◌*◌, ◌^◌, ◌≤◌, ◌<◌}
use native.Mathlib.Nat.{le_trans, mul-le-mul_left, mul-le-mul_right, le_of_mul-le-mul_right}
use native.Mathlib.Omega.{arith}
use lib.Dec.{lit≤}
use lib.Ieee.{Float, binary32, of_bits, add, mul}
use Rattle.exact.proofs.Frac.{by_le}
use Rattle.exact.specs.Exact.{Exact, Size, add_e, mul_e, own}
use Rattle.exact.specs.Within.{FINE, distance}
use Rattle.exact.proofs.Near.{near_own}
use Rattle.exact.proofs.Ranks.{Abs, Leaf, Nr, add_a, fine_ok, leaf_a, mul_a, nr_add, nr_mul}
use Rattle.exact.proofs.Reach.{near_size}
use Rattle.exact.proofs.Relative.{Relative, relative}
use Rattle.bounds.specs.Bounds.{Covers, LEAST, MOST, allowed}
use Rattle.bounds.proofs.Wholly.{wholly}

-- ---- the three constants
abbrev factor : Float
factor = of_bits binary32 0x3f808000

abbrev more : Float
more = of_bits binary32 0x3e009d49

abbrev scale : Float
scale = of_bits binary32 0x37000000

factor_leaf : Leaf 2 factor
unfolding of_bits own
factor_leaf = near_own tt (lit≤ tt)

more_leaf : Leaf 1 more
unfolding of_bits own
more_leaf = near_own tt (lit≤ tt)

scale_leaf : Leaf 1 scale
unfolding of_bits own
scale_leaf = near_own tt (lit≤ tt)

-- ---- the bounds: of the majorant, of the sum before the last product, and of its float as it stands
abbrev pub top_a : Abs
top_a = record { rank = 121; size = 2 ^ 120; slack = 2 ^ 128 }

abbrev part_a : Abs
part_a = mul_a top_a (leaf_a 2)

abbrev whole_a : Abs
whole_a = add_a part_a (leaf_a 1)

abbrev shown_a : Abs
shown_a = leaf_a (2 * suc whole_a.size)

-- a slack of E units of 1 / h is small against P / O, which is at least 1 / K
small : (E K h P O : ℕ) → E * K * 131072 ≤ h → O ≤ K * P → E * O * 131072 ≤ h * P
small E K h P O l k = le_trans (mul-le-mul_right 131072 (mul-le-mul_left E k)) (by_le (mul-le-mul_right P l) (r E K P) refl)
  where
    r : (E K P : ℕ) → E * (K * P) * 131072 ≡ E * K * 131072 * P
    r E K P = omega arith

-- ---- the sum before the last product: N / D·(1 + 2 ^ -8) + 0.1256, with nothing rounded
abbrev plus_of : ℕ → ℕ → ℕ
plus_of N D = N * 17246978048 + D * 2157791488

abbrev over_of : ℕ → ℕ
over_of D = D * 17179869184

sum_plus : (N D : ℕ) → (N * 257 + 0 * 0) * 67108864 + 8428873 * (D * 256) ≡ plus_of N D
sum_plus N D = omega arith

sum_minus : (N D : ℕ) → (N * 0 + 0 * 257) * 67108864 + 0 * (D * 256) ≡ 0
sum_minus N D = omega arith

sum_over : (D : ℕ) → D * 256 * 67108864 ≡ over_of D
sum_over D = omega arith

sum_is : (M : Size) → add_e (mul_e (wholly M) (own factor)) (own more) ≡ record { plus = plus_of M.num M.over; minus = 0; over = over_of M.over }
unfolding add_e mul_e of_bits own
sum_is M = λ j. record { plus = sum_plus M.num M.over j; minus = sum_minus M.num M.over j; over = sum_over M.over j }

-- a product by 2 ^ -17
scaled_plus : (n : ℕ) → n * 1 + 0 * 0 ≡ n
scaled_plus n = omega arith

scaled_minus : (n : ℕ) → n * 0 + 0 * 1 ≡ 0
scaled_minus n = omega arith

scaled_is : (n t : ℕ) → mul_e (record { plus = n; minus = 0; over = t }) (own scale) ≡ record { plus = n; minus = 0; over = t * 131072 }
unfolding mul_e of_bits own
scaled_is n t = λ j. record { plus = scaled_plus n j; minus = scaled_minus n j; over = t * 131072 }

-- ---- the two sides, from the two roundings: g = n / t near the sum, f = a / c near g·2 ^ -17
module _ (N D n t a c : ℕ) (T : 0 < t) where
  at_least : 32767 * (plus_of N D * t) ≤ 32768 * (n * over_of D) → 32767 * (n * c) ≤ 32768 * (a * (t * 131072)) → LEAST * (distance N D * c) ≤ 100 * (a * FINE * D)
  at_least g f =
      le_of_mul-le-mul_right (by_le (go (N * t * c) (D * t * c) (n * D * c) (a * t * D) (omega (arith, mul-le-mul_right c g)) (omega (arith, mul-le-mul_right D f))) (r1 N D t c) (r2 a D t)) T
    where
      go : (u v z r : ℕ) → 32767 * (u * 17246978048 + v * 2157791488) ≤ 32768 * (z * 17179869184) → 32767 * z ≤ 32768 * (r * 131072) → LEAST * distance u v ≤ 100 * (FINE * r)
      go u v z r g f = omega arith

      r1 : (N D t c : ℕ) → LEAST * (distance N D * c) * t ≡ LEAST * distance (N * t * c) (D * t * c)
      r1 N D t c = omega arith

      r2 : (a D t : ℕ) → 100 * (FINE * (a * t * D)) ≡ 100 * (a * FINE * D) * t
      r2 a D t = omega arith

  at_most : 32768 * (n * over_of D) ≤ 32769 * (plus_of N D * t) → 32768 * (a * (t * 131072)) ≤ 32769 * (n * c) → 100 * (a * FINE * D) ≤ MOST * (distance N D * c)
  at_most g f =
      le_of_mul-le-mul_right (by_le (go (N * t * c) (D * t * c) (n * D * c) (a * t * D) (omega (arith, mul-le-mul_right c g)) (omega (arith, mul-le-mul_right D f))) (r1 a D t) (r2 N D t c)) T
    where
      go : (u v z r : ℕ) → 32768 * (z * 17179869184) ≤ 32769 * (u * 17246978048 + v * 2157791488) → 32768 * (r * 131072) ≤ 32769 * z → 100 * (FINE * r) ≤ MOST * distance u v
      go u v z r g f = omega arith

      r1 : (a D t : ℕ) → 100 * (a * FINE * D) * t ≡ 100 * (FINE * (a * t * D))
      r1 a D t = omega arith

      r2 : (N D t c : ℕ) → MOST * distance (N * t * c) (D * t * c) ≡ MOST * (distance N D * c) * t
      r2 N D t c = omega arith

-- the sum is at least 1 / 8, and so its float at least 1 / 16
eighth : (N D : ℕ) → over_of D ≤ 8 * plus_of N D
eighth N D = omega arith

sixteenth : (N D n t : ℕ) → 0 < D → 32767 * (plus_of N D * t) ≤ 32768 * (n * over_of D) → t * 131072 ≤ 2097152 * n
sixteenth N D n t P h = le_of_mul-le-mul_right (by_le (go (N * t) (D * t) (n * D) (omega (arith, h))) (r1 t D) (r2 n D)) P
  where
    go : (u v z : ℕ) → 32767 * (u * 17246978048 + v * 2157791488) ≤ 32768 * (z * 17179869184) → 131072 * v ≤ 2097152 * z
    go u v z h = omega arith

    r1 : (t D : ℕ) → t * 131072 * D ≡ 131072 * (D * t)
    r1 t D = omega arith

    r2 : (n D : ℕ) → 2097152 * (n * D) ≡ 2097152 * n * D
    r2 n D = omega arith

above_zero : (N D : ℕ) → 0 < D → 0 < plus_of N D
above_zero N D P = omega arith

numerator : (n t : ℕ) → 0 < t → t * 131072 ≤ 2097152 * n → 0 < n
numerator n t T h = omega arith

-- ---- what is shown
module _ (b : Float) (M : Size) (m : Nr top_a b (wholly M)) where
  abbrev summed : Float
  summed = add binary32 (mul binary32 b factor) more

  sum_near : Nr whole_a summed (record { plus = plus_of M.num M.over; minus = 0; over = over_of M.over })
  sum_near =
      subst (λ (x : Exact). Nr whole_a summed x) (sum_is M)
      (nr_add {a = part_a} {b = leaf_a 1} (nr_mul {a = top_a} {b = leaf_a 2} m factor_leaf (fine_ok part_a tt)) more_leaf (fine_ok whole_a tt))

  sum_relative : Relative summed (plus_of M.num M.over) (over_of M.over)
  sum_relative =
      relative sum_near (lit≤ tt) (above_zero M.num M.over m.close.over)
      (small whole_a.slack 8 (2 ^ 150) (plus_of M.num M.over) (over_of M.over) (lit≤ tt) (eighth M.num M.over))

  sum_leaf : Leaf (2 * suc whole_a.size) summed
  sum_leaf = let s = near_size sum_near (fine_ok whole_a tt) in near_own s.0 s.1

  sum_own : own summed ≡ record { plus = (own summed).plus; minus = 0; over = (own summed).over }
  sum_own = λ j. record { plus = (own summed).plus; minus = sum_relative.no_minus j; over = (own summed).over }

  shown_near : Nr (mul_a shown_a (leaf_a 1)) (allowed b) (record { plus = (own summed).plus; minus = 0; over = (own summed).over * 131072 })
  unfolding allowed
  shown_near =
      subst (λ (x : Exact). Nr (mul_a shown_a (leaf_a 1)) (mul binary32 summed scale) x) (ap (λ (x : Exact). mul_e x (own scale)) sum_own ∙ scaled_is (own summed).plus (own summed).over)
      (nr_mul {a = shown_a} {b = leaf_a 1} sum_leaf scale_leaf (fine_ok (mul_a shown_a (leaf_a 1)) tt))

  shown_relative : Relative (allowed b) (own summed).plus ((own summed).over * 131072)
  shown_relative =
      let s = sixteenth M.num M.over (own summed).plus (own summed).over m.close.over sum_relative.low in
      relative shown_near (lit≤ tt) (numerator (own summed).plus (own summed).over sum_leaf.close.over s)
      (small (mul_a shown_a (leaf_a 1)).slack 2097152 (2 ^ 150) (own summed).plus ((own summed).over * 131072) (lit≤ tt) s)

  pub covers : Covers (allowed b) M
  covers =
      let t = sum_leaf.close.over in
      record {
        is_finite = shown_relative.is_finite;
        some_over = m.close.over;
        no_minus = shown_relative.no_minus;
        at_least = at_least M.num M.over (own summed).plus (own summed).over (own (allowed b)).plus (own (allowed b)).over t sum_relative.low shown_relative.low;
        at_most = at_most M.num M.over (own summed).plus (own summed).over (own (allowed b)).plus (own (allowed b)).over t sum_relative.high shown_relative.high;
      }
