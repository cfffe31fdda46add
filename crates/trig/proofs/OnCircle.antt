-- The made pair before any float operation: s = A / (K * 2 ^ 24), c = q / 2 ^ 24, and s ^ 2 + c ^ 2 is 1 to within 2 ^ -21 above and 3 * 2 ^ -22 below. Assumes nothing.
use mathlib.Core.Path.{◌≡◌, refl, sym, ◌∙◌, subst}
use Prim.Native.Nat.{ℕ, ◌+◌, ◌-◌, ◌*◌, ◌/◌, ◌^◌, ◌≤◌}
use native.Mathlib.Nat.{le_refl, le_trans, le_of_eq, mul_assoc, mul-pos, mul-le-mul, mul-le-mul_left, mul-le-mul_right, add-le-add, le_of_mul-le-mul_right}
use native.Mathlib.Omega.{arith}
use lib.Dec.{lit≤, lit<}
use lib.Pow.{pow_pos}
use Rattle.trig.specs.Fixed.{sine_part, cosine_part, square_of, sine_long, cosine_top}
use Rattle.trig.proofs.Squares.{z, z_is, z_from_above, z_from_below}
use Rattle.trig.proofs.Whole.{square_most, sine_part_high, cosine_part_high}
use Rattle.trig.proofs.Round.{round_high, round_low}

-- M = m * C1 * h
product_high : (m h K z : ℕ) → m ≤ 11796480 * K → 2679443161 * (m * m) ≤ (z + 11) * (K * K * 140737488355328) → m * 2398762259 * h * (m * 2398762259 * h) ≤ (z + 12) * (K * K) * (h * h) * 302231454903657293676544
product_high m h K z l e =
    let a : m * m ≤ 11796480 * K * (11796480 * K) = mul-le-mul l l in
    let b : 2679443162 * (m * m) ≤ (z + 12) * (K * K * 140737488355328) = first (m * m) (K * K) z (le_trans a (le_of_eq (shape K))) e in
    let c : 2398762259 * 2398762259 * (m * m) ≤ 2147483648 * ((z + 12) * (K * K * 140737488355328)) = le_trans (mul-le-mul_right (m * m) (lit≤ {m = 2398762259 * 2398762259} {n = 2147483648 * 2679443162} tt)) (le_trans (le_of_eq (mul_assoc 2147483648 2679443162 (m * m))) (mul-le-mul_left 2147483648 b)) in
    le_trans (le_of_eq (left m h)) (le_trans (mul-le-mul_right (h * h) c) (le_of_eq (right (z + 12) (K * K) (h * h))))
  where
    shape : (K : ℕ) → 11796480 * K * (11796480 * K) ≡ 139156940390400 * (K * K)
    shape K = omega arith

    first : (M k z : ℕ) → M ≤ 139156940390400 * k → 2679443161 * M ≤ (z + 11) * (k * 140737488355328) → 2679443162 * M ≤ (z + 12) * (k * 140737488355328)
    first M k z a e = omega arith

    left : (m h : ℕ) → m * 2398762259 * h * (m * 2398762259 * h) ≡ 2398762259 * 2398762259 * (m * m) * (h * h)
    left m h = omega arith

    right : (y k h : ℕ) → 2147483648 * (y * (k * 140737488355328)) * h ≡ y * k * h * 302231454903657293676544
    right y k h = omega arith

product_low : (m h K z : ℕ) → z * (K * K * 140737488355328) ≤ 2679443160 * (m * m) → z * (K * K) * (h * h) * 302231454903657293676544 ≤ m * 2398762259 * h * (m * 2398762259 * h)
product_low m h K z e =
    let c : 2147483648 * (z * (K * K * 140737488355328)) ≤ 2398762259 * 2398762259 * (m * m) = le_trans (mul-le-mul_left 2147483648 e) (le_trans (le_of_eq (sym (mul_assoc 2147483648 2679443160 (m * m)))) (mul-le-mul_right (m * m) (lit≤ {m = 2147483648 * 2679443160} {n = 2398762259 * 2398762259} tt))) in
    le_trans (le_of_eq (sym (right z (K * K) (h * h)))) (le_trans (mul-le-mul_right (h * h) c) (le_of_eq (sym (left m h))))
  where
    left : (m h : ℕ) → m * 2398762259 * h * (m * 2398762259 * h) ≡ 2398762259 * 2398762259 * (m * m) * (h * h)
    left m h = omega arith

    right : (y k h : ℕ) → 2147483648 * (y * (k * 140737488355328)) * h ≡ y * k * h * 302231454903657293676544
    right y k h = omega arith

-- from M to A: a * 2 ^ 63 ≤ M gives a * a * 2 ^ 48 ≤ X where M * M ≤ X * 2 ^ 78
root_high : (a M X : ℕ) → a * 9223372036854775808 ≤ M → M * M ≤ X * 302231454903657293676544 → a * a * 281474976710656 ≤ X
root_high a M X h k = le_of_mul-le-mul_right (le_trans (le_of_eq (shape a)) (le_trans (mul-le-mul h h) k)) (lit< {m = 0} {n = 302231454903657293676544} tt)
  where
    shape : (a : ℕ) → a * a * 281474976710656 * 302231454903657293676544 ≡ a * 9223372036854775808 * (a * 9223372036854775808)
    shape a = mul_assoc (a * a) 281474976710656 302231454903657293676544 ∙ sym (four a 9223372036854775808)
      where
        four : (a c : ℕ) → a * c * (a * c) ≡ a * a * (c * c)
        four a c = omega arith

root_low : (a M X : ℕ) → M ≤ a * 9223372036854775808 → X * 302231454903657293676544 ≤ M * M → X ≤ a * a * 281474976710656
root_low a M X h k = le_of_mul-le-mul_right (le_trans k (le_trans (mul-le-mul h h) (le_of_eq (sym (shape a))))) (lit< {m = 0} {n = 302231454903657293676544} tt)
  where
    shape : (a : ℕ) → a * a * 281474976710656 * 302231454903657293676544 ≡ a * 9223372036854775808 * (a * 9223372036854775808)
    shape a = mul_assoc (a * a) 281474976710656 302231454903657293676544 ∙ sym (four a 9223372036854775808)
      where
        four : (a c : ℕ) → a * c * (a * c) ≡ a * a * (c * c)
        four a c = omega arith

final_high : (A a K z h g q : ℕ) → A ≤ a + K → a ≤ 16777216 * K → a * a * 281474976710656 ≤ (z + 12) * (K * K) * (h * h) → h ≤ 4294967296 → q * 256 ≤ g + 128 → g ≤ 4294967296
    → z * (h * h) + 4294967296 * (g * g) ≤ 4294967296 * 4294967296 * (4294967296 + 57) → A * A + q * q * (K * K) ≤ 281475110928384 * (K * K)
final_high A a K z h g q x y w l i j r =
    let k2 = K * K in
    let one : A * A ≤ (a + K) * (a + K) = mul-le-mul x x in
    let two : a * K ≤ 16777216 * K * K = mul-le-mul_right K y in
    let hh : h * h ≤ 4294967296 * 4294967296 = mul-le-mul l l in
    let three : q * 256 * (q * 256) ≤ (g + 128) * (g + 128) = mul-le-mul i i in
    last (A * A) (a * a) (K * K) (z * (h * h) * (K * K)) (g * g * (K * K)) (h * h * (K * K)) (q * q * (K * K)) (aa A a K one two) (le_trans w (le_of_eq (zz z (K * K) (h * h)))) (mul-le-mul_right (K * K) hh)
    (qq q g (K * K) (mul-le-mul_right (K * K) (qs q g j three))) (rr (z * (h * h)) (g * g) (K * K) (mul-le-mul_right (K * K) r))
  where
    aa : (A a K : ℕ) → A * A ≤ (a + K) * (a + K) → a * K ≤ 16777216 * K * K → A * A ≤ a * a + 33554433 * (K * K)
    aa A a K o t = omega arith

    zz : (z k h : ℕ) → (z + 12) * k * h ≡ z * h * k + 12 * (h * k)
    zz z k h = omega arith

    qs : (q g : ℕ) → g ≤ 4294967296 → q * 256 * (q * 256) ≤ (g + 128) * (g + 128) → q * q * 65536 ≤ g * g + 1099511644160
    qs q g j t = omega arith

    qq : (q g k : ℕ) → q * q * 65536 * k ≤ (g * g + 1099511644160) * k → q * q * k * 65536 ≤ g * g * k + 1099511644160 * k
    qq q g k t = omega arith

    rr : (x g k : ℕ) → (x + 4294967296 * g) * k ≤ 4294967296 * 4294967296 * (4294967296 + 57) * k → x * k + 4294967296 * (g * k) ≤ 79228163565728749794988392448 * k
    rr x g k t = omega arith

    last : (A a k x g h q : ℕ) → A ≤ a + 33554433 * k → a * 281474976710656 ≤ x + 12 * h → h ≤ 4294967296 * 4294967296 * k → q * 65536 ≤ g + 1099511644160 * k → x + 4294967296 * g ≤ 79228163565728749794988392448 * k
        → A + q ≤ 281475110928384 * k
    last A a k x g h q b c d e f = omega arith

final_low : (A K z h g q : ℕ) → A ≤ 16777217 * K → z * (K * K) * (h * h) ≤ (A + 2 * K) * (A + 2 * K) * 281474976710656 → h ≤ 4294967296 → z ≤ 4294967296 → g + 3 ≤ (q + 1) * 256 → q ≤ 16777216
    → 4294967296 * 4294967296 * (4294967296 - 32) ≤ z * ((h + 1) * (h + 1)) + 4294967296 * ((g + 3) * (g + 3)) → 281474842492928 * (K * K) ≤ A * A + q * q * (K * K)
final_low A K z h g q x w l m i j r =
    let one : A * K ≤ 16777217 * K * K = mul-le-mul_right K x in
    let zh : z * h ≤ 4294967296 * 4294967296 = mul-le-mul m l in
    let three : (g + 3) * (g + 3) ≤ (q + 1) * 256 * ((q + 1) * 256) = mul-le-mul i i in
    last (A * A) (K * K) (z * (h * h) * (K * K)) (q * q * (K * K)) (le_trans (le_of_eq (zz z (K * K) (h * h))) (le_trans w (aa A K one)))
    (rr (z * (h * h)) (q * q) (K * K) (mul-le-mul_right (K * K) (le_trans r (add-le-add (hs z h m zh) (mul-le-mul_left 4294967296 (le_trans three (qs q j)))))))
  where
    aa : (A K : ℕ) → A * K ≤ 16777217 * K * K → (A + 2 * K) * (A + 2 * K) * 281474976710656 ≤ (A * A + 67108872 * (K * K)) * 281474976710656
    aa A K o = omega arith

    zz : (z k h : ℕ) → z * h * k ≡ z * k * h
    zz z k h = omega arith

    hs : (z h : ℕ) → z ≤ 4294967296 → z * h ≤ 4294967296 * 4294967296 → z * ((h + 1) * (h + 1)) ≤ z * (h * h) + 36893488151714070528
    hs z h m t = omega arith

    qs : (q : ℕ) → q ≤ 16777216 → (q + 1) * 256 * ((q + 1) * 256) ≤ (q * q + 33554433) * 65536
    qs q j = omega arith

    rr : (x q k : ℕ) → 4294967296 * 4294967296 * (4294967296 - 32) * k ≤ (x + 36893488151714070528 + 4294967296 * ((q + 33554433) * 65536)) * k
        → 281474974613504 * k * 281474976710656 ≤ x * k + (q * k + 33685506 * k) * 281474976710656
    rr x q k t = le_trans (le_of_eq (lhs k)) (le_trans t (le_trans (mul-le-mul_right k (inner x q)) (le_of_eq (rhs x q k))))
      where
        lhs : (k : ℕ) → 281474974613504 * k * 281474976710656 ≡ 4294967296 * 4294967296 * (4294967296 - 32) * k
        lhs k = omega arith

        inner : (x q : ℕ) → x + 36893488151714070528 + 4294967296 * ((q + 33554433) * 65536) ≤ x + (q + 33685506) * 281474976710656
        inner x q = omega arith

        rhs : (x q k : ℕ) → (x + (q + 33685506) * 281474976710656) * k ≡ x * k + (q * k + 33685506 * k) * 281474976710656
        rhs x q k = omega arith

    last : (A k x q : ℕ) → x ≤ (A + 67108872 * k) * 281474976710656 → 281474974613504 * k * 281474976710656 ≤ x + (q + 33685506 * k) * 281474976710656 → 281474842492928 * k ≤ A + q
    last A k x q b c = small A k q (le_of_mul-le-mul_right {k = 281474976710656} (le_trans c (le_trans (add-le-add b (le_refl _)) (le_of_eq (join (A + 67108872 * k) (q + 33685506 * k))))) (lit< tt))
      where
        join : (x y : ℕ) → x * 281474976710656 + y * 281474976710656 ≡ (x + y) * 281474976710656
        join x y = omega arith

        small : (A k q : ℕ) → 281474974613504 * k ≤ A + 67108872 * k + (q + 33685506 * k) → 281474842492928 * k ≤ A + q
        small A k q h = omega arith

module _ (m k A : ℕ) (l : m ≤ 11796480 * 2 ^ k) (hi : A * 549755813888 ≤ sine_long m k + 2 ^ k * 549755813888) (lo : sine_long m k ≤ A * 549755813888 + 2 ^ k * 549755813888) where
  abbrev Z : ℕ
  Z = square_of m k

  abbrev H : ℕ
  H = sine_part Z

  dd : (K x : ℕ) → x * (K * 262144 * (K * 262144)) * 2048 ≡ x * (K * K * 140737488355328)
  dd K x = omega arith

  below : Z * (2 ^ k * 2 ^ k * 140737488355328) ≤ 2679443160 * (m * m)
  below = subst (λ (x : ℕ). x * (2 ^ k * 2 ^ k * 140737488355328) ≤ 2679443160 * (m * m)) (sym (z_is m k m (2 ^ k * 262144) refl l (mul-pos (pow_pos k) (lit< tt))))
      (le_trans (le_of_eq (sym (dd (2 ^ k) _))) (z_from_above m k m (2 ^ k * 262144) refl l (mul-pos (pow_pos k) (lit< tt))))

  above : 2679443161 * (m * m) ≤ (Z + 11) * (2 ^ k * 2 ^ k * 140737488355328)
  above = subst (λ (x : ℕ). 2679443161 * (m * m) ≤ (x + 11) * (2 ^ k * 2 ^ k * 140737488355328)) (sym (z_is m k m (2 ^ k * 262144) refl l (mul-pos (pow_pos k) (lit< tt))))
      (le_trans (z_from_below m k m (2 ^ k * 262144) refl l (mul-pos (pow_pos k) (lit< tt))) (le_of_eq (dd (2 ^ k) _)))

  M : ℕ
  M = m * 2398762259 * H

  from_a : A * 9223372036854775808 ≤ M + 2 ^ k * 9223372036854775808
  unfolding M sine_long
  from_a = go A m (2398762259 * H / 16777216) H (2 ^ k) hi (mul-le-mul_left m (floor (2398762259 * H)))
    where
      floor : (x : ℕ) → x / 16777216 * 16777216 ≤ x
      floor x = omega arith

      go : (A m F h K : ℕ) → A * 549755813888 ≤ m * F + K * 549755813888 → m * (F * 16777216) ≤ m * (2398762259 * h) → A * 9223372036854775808 ≤ m * 2398762259 * h + K * 9223372036854775808
      go A m F h K x y = omega arith

  to_a : M ≤ (A + 2 * 2 ^ k) * 9223372036854775808
  unfolding M sine_long
  to_a = go A m (2398762259 * H / 16777216) H (2 ^ k) lo (mul-le-mul_left m (ceil (2398762259 * H))) l
    where
      ceil : (x : ℕ) → x ≤ (x / 16777216 + 1) * 16777216
      ceil x = omega arith

      go : (A m F h K : ℕ) → m * F ≤ A * 549755813888 + K * 549755813888 → m * (2398762259 * h) ≤ m * ((F + 1) * 16777216) → m ≤ 11796480 * K → m * 2398762259 * h ≤ (A + 2 * K) * 9223372036854775808
      go A m F h K x y l = omega arith

  m_most : M ≤ 2 ^ k * 154742504910672534362390528
  unfolding M
  m_most = go (2 ^ k) (mul-le-mul (mul-le-mul_right 2398762259 l) (sine_part_high Z))
    where
      go : (K : ℕ) → m * 2398762259 * H ≤ 11796480 * K * 2398762259 * 4294967296 → m * 2398762259 * H ≤ K * 154742504910672534362390528
      go K x = omega arith

  a_most : A - 2 ^ k ≤ 16777216 * 2 ^ k
  a_most = le_of_mul-le-mul_right {k = 9223372036854775808} (go A (2 ^ k) M from_a m_most) (lit< tt)
    where
      go : (A K M : ℕ) → A * 9223372036854775808 ≤ M + K * 9223372036854775808 → M ≤ K * 154742504910672534362390528 → (A - K) * 9223372036854775808 ≤ 16777216 * K * 9223372036854775808
      go A K M x y = omega arith

  pub circle_above : A * A + cosine_top m k * cosine_top m k * (2 ^ k * 2 ^ k) ≤ 281475110928384 * (2 ^ k * 2 ^ k)
  unfolding M cosine_top
  circle_above =
      final_high A (A - 2 ^ k) (2 ^ k) Z H (cosine_part Z) ((cosine_part Z + 128) / 256) (omega arith) a_most
      (root_high (A - 2 ^ k) M ((Z + 12) * (2 ^ k * 2 ^ k) * (H * H)) (go A (2 ^ k) M from_a) (product_high m H (2 ^ k) Z l above))
      (sine_part_high Z) (floor (cosine_part Z)) (cosine_part_high Z) (round_high Z (le_trans (square_most m k l) (lit≤ tt)))
    where
      go : (A K M : ℕ) → A * 9223372036854775808 ≤ M + K * 9223372036854775808 → (A - K) * 9223372036854775808 ≤ M
      go A K M x = omega arith

      floor : (g : ℕ) → (g + 128) / 256 * 256 ≤ g + 128
      floor g = omega arith

  pub circle_below : 281474842492928 * (2 ^ k * 2 ^ k) ≤ A * A + cosine_top m k * cosine_top m k * (2 ^ k * 2 ^ k)
  unfolding M cosine_top
  circle_below =
      final_low A (2 ^ k) Z H (cosine_part Z) ((cosine_part Z + 128) / 256) (let x = a_most in omega arith)
      (root_low (A + 2 * 2 ^ k) M (Z * (2 ^ k * 2 ^ k) * (H * H)) to_a (product_low m H (2 ^ k) Z below))
      (sine_part_high Z) (le_trans (square_most m k l) (lit≤ tt)) (ceil (cosine_part Z)) (most (cosine_part Z) (cosine_part_high Z)) (round_low Z (le_trans (square_most m k l) (lit≤ tt)))
    where
      ceil : (g : ℕ) → g + 3 ≤ ((g + 128) / 256 + 1) * 256
      ceil g = omega arith

      most : (g : ℕ) → g ≤ 4294967296 → (g + 128) / 256 ≤ 16777216
      most g h = omega arith
