-- A whole number of 2 ^ -24 degree as an f32: beside it, and on the same side of each whole degree. Assumes nothing.
use mathlib.Core.Path.{◌≡◌, refl, sym, ap, ◌∙◌}
use Prim.Native.Nat.{ℕ, ◌+◌, ◌*◌, ◌/◌, ◌%◌, ◌^◌, ◌≤◌, ◌<◌}
use native.Mathlib.Nat.{lt_of_le_of_lt, lt_of_lt_of_le, mul_assoc, mul-le-mul_right, mul-lt-mul_of_pos_right, le_of_mul-le-mul_right}
use native.Mathlib.Omega.{arith}
use mathlib.Core.Bool.{true, false, true≢false}
use lib.Dec.{T, lit≤, lit<, le→leb}
use lib.Pow.{pow_pos}
use lib.IntN.{ℤ, pos}
use lib.Ieee.{Float, nan, inf, fin, binary32, round, of_int, in_float, of_bits, add, div, le, lt, eq, up, down}
use lib.Ieee.Fits.{down_pos}
use lib.Ieee.Exact.{HasValue, round_exact}
use lib.Ieee.Back.{round_whole}
use lib.Ieee.Order.{round_mono, transfer}
use lib.Ieee.Scale.{grid}
use Rattle.exact.proofs.Round.{moved, moved_high, moved_low, round_value}
use Rattle.exact.specs.Exact.{lit}
use Rattle.exact.proofs.Once.{add_is}
use Rattle.exact.proofs.Sizes.{or_le}
use Rattle.exact.proofs.Wholes.{whole_quotient}
use Rattle.float32.proofs.Values.{rescale}
use Rattle.direction.specs.Arc.{coarse}
use Rattle.direction.specs.Direction.{degrees_of}
use Rattle.direction.proofs.Nearby.{Nearby}

-- ---- the order of two floats is that of their fractions
values_le : (x y : Float) (a c b d : ℕ) → 0 < c → 0 < d → HasValue x false a c → HasValue y false b d → T (le x y) → a * d ≤ b * c
unfolding le lt eq
values_le nan y a c b d p q v w t = absurd v
values_le (inf s) y a c b d p q v w t = absurd v
values_le (fin s m k) nan a c b d p q v w t = absurd w
values_le (fin s m k) (inf r) a c b d p q v w t = absurd w
values_le (fin true m k) (fin r n l) a c b d p q v w t = absurd (true≢false v.0)
values_le (fin false m k) (fin true n l) a c b d p q v w t = absurd (true≢false w.0)
values_le (fin false m k) (fin false n l) a c b d p q v w t = transfer a b c d (m * up k) (n * up l) (down k) (down l) (down_pos k) (down_pos l) (sym v.1) (sym w.1) (or_le (m * up k * down l) (n * up l * down k) _ t)

-- ---- the rounding, with names for all: U units are one, G of them the rounded value, and m / d the same
near_high : (G U m d j : ℕ) → 0 < U → 281474976710656 ≤ U → j ≤ 3019898880 → 33554432 * G * 16777216 ≤ 33554434 * (j * U) + 16777216 * 16777216 → m * U ≡ G * d → 2 * coarse * (m * 16777216) ≤ 2 * coarse * (j * d) + 16777216 * d
near_high G U m d j p u l h e = last m (j * d) d (le_of_mul-le-mul_right (first (mul-le-mul_right d h) (mul-le-mul_right d u)) p) (mul-le-mul_right d l)
  where
    first : 33554432 * G * 16777216 * d ≤ (33554434 * (j * U) + 16777216 * 16777216) * d → 281474976710656 * d ≤ U * d → 562949953421312 * m * U ≤ (33554434 * (j * d) + d) * U
    first a b = named (G * d) (j * d * U) (U * d) d (m * U) e (omega arith) (omega arith) (omega arith) (omega arith)
      where
        named : (x y z d w : ℕ) {l r : ℕ} → w ≡ x → 562949953421312 * x ≤ 33554434 * y + 281474976710656 * d → 281474976710656 * d ≤ z → l ≡ 562949953421312 * w → r ≡ 33554434 * y + z → l ≤ r
        named x y z d w e a b f g = omega arith

    last : (m y d : ℕ) → 562949953421312 * m ≤ 33554434 * y + d → y ≤ 3019898880 * d → 2 * coarse * (m * 16777216) ≤ 2 * coarse * y + 16777216 * d
    last m y d a b = omega arith

near_low : (G U m d j : ℕ) → 0 < U → 281474976710656 ≤ U → j ≤ 3019898880 → 33554430 * (j * U) ≤ 33554432 * G * 16777216 + 16777216 * 16777216 → m * U ≡ G * d → 2 * coarse * (j * d) ≤ 2 * coarse * (m * 16777216) + 16777216 * d
near_low G U m d j p u l h e = last m (j * d) d (le_of_mul-le-mul_right (first (mul-le-mul_right d h) (mul-le-mul_right d u)) p) (mul-le-mul_right d l)
  where
    first : 33554430 * (j * U) * d ≤ (33554432 * G * 16777216 + 16777216 * 16777216) * d → 281474976710656 * d ≤ U * d → 33554430 * (j * d) * U ≤ (562949953421312 * m + d) * U
    first a b = named (G * d) (j * d * U) (U * d) d (m * U) e (omega arith) (omega arith) (omega arith) (omega arith)
      where
        named : (x y z d w : ℕ) {l r : ℕ} → w ≡ x → 33554430 * y ≤ 562949953421312 * x + 281474976710656 * d → 281474976710656 * d ≤ z → l ≡ 33554430 * y → r ≡ 562949953421312 * w + z → l ≤ r
        named x y z d w e a b f g = omega arith

    last : (m y d : ℕ) → 33554430 * y ≤ 562949953421312 * m + d → y ≤ 3019898880 * d → 2 * coarse * y ≤ 2 * coarse * (m * 16777216) + 16777216 * d
    last m y d a b = omega arith

module _ (j : ℕ) (h : j ≤ 3019898880) where
  value : HasValue (degrees_of j) false (grid binary32 j 16777216) (2 ^ 149)
  unfolding degrees_of
  value = round_value false j 16777216 (lit< tt) (lt_of_le_of_lt h (lit< tt))

  degrees_near : (m : ℕ) (k : ℤ) → degrees_of j ≡ fin false m k → Nearby j 16777216 (m * up k) (down k)
  unfolding degrees_of
  degrees_near m k e =
      record {
        beside = record { up = near_high G (2 ^ 149) (m * up k) (down k) j (pow_pos 149) (lit≤ tt) h high v.1; down = near_low G (2 ^ 149) (m * up k) (down k) j (pow_pos 149) (lit≤ tt) h low v.1 };
        most = λ w l i. by_one (m * up k) (w * down k) (values_le (fin false m k) (round binary32 false w 1) (m * up k) (down k) w 1 (down_pos k) (lit< tt) (refl, refl) (round_whole binary32 false w (omega arith)) (at_most w i));
        least = λ w l i. by_one' (w * down k) (m * up k) (values_le (round binary32 false w 1) (fin false m k) w 1 (m * up k) (down k) (lit< tt) (down_pos k) (round_whole binary32 false w (omega arith)) (refl, refl) (at_least w i));
      }
    where
      G : ℕ
      G = grid binary32 j 16777216

      v : HasValue (fin false m k) false (grid binary32 j 16777216) (2 ^ 149)
      v = rw e at value

      high : 33554432 * grid binary32 j 16777216 * 16777216 ≤ 33554434 * (j * 2 ^ 149) + 16777216 * 16777216
      high = moved_high (2 ^ 149) (j * 2 ^ 149) 16777216 (grid binary32 j 16777216) (moved j 16777216 (lit< tt))

      low : 33554430 * (j * 2 ^ 149) ≤ 33554432 * grid binary32 j 16777216 * 16777216 + 16777216 * 16777216
      low = moved_low (2 ^ 149) (j * 2 ^ 149) 16777216 (grid binary32 j 16777216) (moved j 16777216 (lit< tt))

      at_most : (w : ℕ) → j ≤ w * 16777216 → T (le (fin false m k) (round binary32 false w 1))
      at_most w i = rw (sym e) (round_mono binary32 j 16777216 w 1 (lit< tt) (lit< tt) (omega arith))

      at_least : (w : ℕ) → w * 16777216 ≤ j → T (le (round binary32 false w 1) (fin false m k))
      at_least w i = rw (sym e) (round_mono binary32 w 1 j 16777216 (lit< tt) (lit< tt) (omega arith))

      by_one : (x y : ℕ) → x * 1 ≤ y → x ≤ y
      by_one x y i = omega arith

      by_one' : (x y : ℕ) → x ≤ y * 1 → x ≤ y
      by_one' x y i = omega arith

  -- so whatever is asked of a float of degrees is asked of such a fraction
  pub with_degrees : (P : Float → Type 0) → ((m : ℕ) (k : ℤ) → Nearby j 16777216 (m * up k) (down k) → P (fin false m k)) → P (degrees_of j)
  with_degrees P f = go (degrees_of j) refl value
    where
      go : (d : Float) → degrees_of j ≡ d → HasValue d false (grid binary32 j 16777216) (2 ^ 149) → P d
      go nan e v = absurd v
      go (inf s) e v = absurd v
      go (fin true m k) e v = absurd (true≢false v.0)
      go (fin false m k) e v = f m k (degrees_near m k e)

-- ---- the code's two parts: only their sum is rounded
high_part : (i : ℕ) → i < 2 ^ 24 → HasValue (round binary32 false i 4096) false i 4096
high_part i h = round_exact binary32 false i 4096 i 137 (lit< tt) h (lt_of_lt_of_le (mul-lt-mul_of_pos_right h (pow_pos 137)) (lit≤ tt)) (sym (mul_assoc i (2 ^ 137) 4096))

low_part : (i : ℕ) → i < 2 ^ 24 → HasValue (round binary32 false i 16777216) false i 16777216
low_part i h = round_exact binary32 false i 16777216 i 125 (lit< tt) h (lt_of_lt_of_le (mul-lt-mul_of_pos_right h (pow_pos 125)) (lit≤ tt)) (sym (mul_assoc i (2 ^ 125) 16777216))

lit_4096 : of_bits binary32 0x45800000 ≡ lit 4096
unfolding lit of_int of_bits round
lit_4096 = refl

lit_16777216 : of_bits binary32 0x4b800000 ≡ lit 16777216
unfolding lit of_int of_bits round
lit_16777216 = refl

pub counted : (i : ℕ) → i ≤ 16777216 → T (in_float binary32 (pos i))
unfolding in_float
counted i h = le→leb i 16777216 h

pub degrees_is : (j : ℕ) → j ≤ 3019898880 → add binary32 (div binary32 (of_int binary32 (pos (j / 4096))) (of_bits binary32 0x45800000)) (div binary32 (of_int binary32 (pos (j % 4096))) (of_bits binary32 0x4b800000)) ≡ degrees_of j
unfolding degrees_of lit
degrees_is j h =
    let i = j / 4096 in
    let l = j % 4096 in
    rw (lit_4096, lit_16777216, whole_quotient i 4096 (omega arith) (lit< tt) (lit≤ tt), whole_quotient l 16777216 (omega arith) (lit< tt) (lit≤ tt))
    (add_is (round binary32 false i 4096) (round binary32 false l 16777216) (i * 4096) l 16777216 (lit< tt) (rescale (round binary32 false i 4096) false i 4096 (i * 4096) 16777216 (lit< tt) (wide i) (high_part i (omega arith))) (low_part l (omega arith))
    ∙ ap (λ (n : ℕ). round binary32 false n 16777216) (whole j))
  where
    wide : (i : ℕ) → i * 16777216 ≡ i * 4096 * 4096
    wide i = omega arith

    whole : (j : ℕ) → j / 4096 * 4096 + j % 4096 ≡ j
    whole j = omega arith
