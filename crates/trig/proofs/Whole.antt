-- Facts on the code's whole numbers. Assumes nothing.
use mathlib.Core.Path.{◌≡◌, refl, sym, ap, ◌∙◌}
use Prim.Native.Nat.{ℕ, ◌+◌, ◌-◌, ◌*◌, ◌/◌, ◌^◌, ◌≤◌, ◌<◌}
use native.Mathlib.Nat.{mul_assoc, mul-le-mul, mul-le-mul_right, div-le_of_le-mul, div-eq_of_lt, pow-le-pow_right}
use native.Mathlib.Omega.{arith}
use lib.Dec.{lit<}
use lib.Pow.{pow_pos}
use Rattle.trig.specs.Circle.{circular}
use Rattle.trig.proofs.Sums.{units_most}
use Rattle.trig.specs.Fixed.{step_of, in_units, sine_part, cosine_part, square_of, sine_long, sine_bits, cosine_top, cosine_bits}
use mathlib.Core.Bool.{Bool, true, false, cond}
use lib.Dec.{leb, ltb}
use borrow.Author.Tests.{lt-leb, lt-ltb, le-ltb, le-leb}
use lib.Ieee.{Float, binary32, of_bits}
use lib.Ieee.Exact.{HasValue}
use Rattle.float32.proofs.Values.{rescale, powers, pattern_up, few}
use native.Mathlib.Nat.{div-mul-le_self, div-le_self, lt-div-mul-add, one-mul, zero-mul, zero-div}
use borrow.Author.Tests.{ltb-true, ltb-false, leb-true, leb-false}

pub step_fits : (z h n : ℕ) → z < 4294967296 → h ≤ 4294967296 → z / n * h < 2 ^ 64
step_fits z h n a b =
    let q : z / n ≤ z = div-le_self z n in
    let y : z / n ≤ 4294967295 = omega arith in
    let x : z / n * h ≤ 4294967295 * 4294967296 = mul-le-mul y b in omega arith

pub step_cut : (z h n : ℕ) → z < 4294967296 → h ≤ 4294967296 → z / n * h / 4294967296 ≤ 4294967296
step_cut z h n a b = let x = step_fits z h n a b in omega arith

pub step_is : (z h n : ℕ) → 4294967296 - z / n * h / 4294967296 ≡ step_of 4294967296 1 n z h
unfolding step_of
step_is z h n = rw (one-mul z)

pub sine_chain : (z a b c d r : ℕ) → a ≡ step_of 4294967296 1 110 z 4294967296 → b ≡ step_of 4294967296 1 72 z a → c ≡ step_of 4294967296 1 42 z b → d ≡ step_of 4294967296 1 20 z c → r ≡ step_of 4294967296 1 6 z d → r ≡ sine_part z
unfolding sine_part in_units
sine_chain z a b c d r e f g h i = i ∙ rw (h, g, f, e)

pub cosine_chain : (z a b c d r : ℕ) → a ≡ step_of 4294967296 1 90 z 4294967296 → b ≡ step_of 4294967296 1 56 z a → c ≡ step_of 4294967296 1 30 z b → d ≡ step_of 4294967296 1 12 z c → r ≡ step_of 4294967296 1 2 z d → r ≡ cosine_part z
unfolding cosine_part in_units
cosine_chain z a b c d r e f g h i = i ∙ rw (h, g, f, e)

-- the square where the angle is too small for it
pub square_zero : (m k : ℕ) → m < 2 ^ 24 → 30 ≤ k → 0 ≡ square_of m k
unfolding square_of
square_zero m k h l =
    let p : 2 ^ 30 ≤ 2 ^ k = pow-le-pow_right (lit< tt) l in
    let e : m * 64 / 2 ^ k ≡ 0 = div-eq_of_lt (omega arith) in
    rw e

pub angle_most : (m k : ℕ) → m ≤ 11796480 * 2 ^ k → m * 64 / 2 ^ k ≤ 754974720
angle_most m k h = div-le_of_le-mul (2 ^ k) (shape m (2 ^ k) h)
  where
    shape : (m K : ℕ) → m ≤ 11796480 * K → m * 64 ≤ K * 754974720
    shape m K h = omega arith

pub square_fits : (a : ℕ) → a ≤ 754974720 → a * a ≤ 569986827839078400
square_fits a h = mul-le-mul h h

pub square_most : (m k : ℕ) → m ≤ 11796480 * 2 ^ k → square_of m k ≤ 2649400000
unfolding square_of
square_most m k h = omega (arith, square_fits (m * 64 / 2 ^ k) (angle_most m k h))

pub sine_part_low : (z : ℕ) → z ≤ 2649400000 → 3853400629 ≤ sine_part z
unfolding sine_part in_units step_of
sine_part_low z l = go z (in_units circular 4294967296 4 3 z) l (units_most circular 4294967296 4 3 z)
  where
    go : (z h : ℕ) → z ≤ 2649400000 → h ≤ 4294967296 → 3853400629 ≤ 4294967296 - 1 * z / 6 * h / 4294967296
    go z h l k = let q : 1 * z / 6 ≤ 441566666 = omega arith in let x : 1 * z / 6 * h ≤ 441566666 * 4294967296 = mul-le-mul q k in omega arith

pub cosine_part_low : (z : ℕ) → z ≤ 2649400000 → 2970267296 ≤ cosine_part z
unfolding cosine_part in_units step_of
cosine_part_low z l = go z (in_units circular 4294967296 4 2 z) l (units_most circular 4294967296 4 2 z)
  where
    go : (z h : ℕ) → z ≤ 2649400000 → h ≤ 4294967296 → 2970267296 ≤ 4294967296 - 1 * z / 2 * h / 4294967296
    go z h l k = let q : 1 * z / 2 ≤ 1324700000 = omega arith in let x : 1 * z / 2 * h ≤ 1324700000 * 4294967296 = mul-le-mul q k in omega arith

pub sine_part_high : (z : ℕ) → sine_part z ≤ 4294967296
unfolding sine_part
sine_part_high z = units_most circular 4294967296 5 1 z

pub cosine_part_high : (z : ℕ) → cosine_part z ≤ 4294967296
unfolding cosine_part
cosine_part_high z = units_most circular 4294967296 5 0 z

-- ---- the long product
pub long_most : (m f : ℕ) → m < 2 ^ 24 → f ≤ 614083138304 → m * f ≤ 10302605453284081664
long_most m f h l = let y : m ≤ 16777216 = omega arith in mul-le-mul y l

pub sine_long_most : (m k : ℕ) → m < 2 ^ 24 → sine_long m k ≤ 10302605453284081664
unfolding sine_long
sine_long_most m k h = let x = sine_part_high (square_of m k) in long_most m _ h (omega arith)

pub sine_long_least : (m k : ℕ) → 2 ^ 23 ≤ m → m ≤ 11796480 * 2 ^ k → 4611686018427387904 ≤ sine_long m k
unfolding sine_long
sine_long_least m k h l =
    let x = sine_part_low (square_of m k) (square_most m k l) in
    let y : 549755813888 ≤ 2398762259 * sine_part (square_of m k) / 16777216 = omega arith in
    let w : 8388608 * 549755813888 ≤ m * (2398762259 * sine_part (square_of m k) / 16777216) = mul-le-mul h y in
    omega arith

pub tiny_most : (p k : ℕ) → p ≤ 10302605453284081664 → 126 ≤ k → p / 2 ^ (k - 87) ≤ 18740331
tiny_most p k h l =
    let y : 39 ≤ k - 87 = omega arith in
    let x : 2 ^ 39 ≤ 2 ^ (k - 87) = pow-le-pow_right (lit< tt) y in
    div-le_of_le-mul (2 ^ (k - 87)) (omega (arith, mul-le-mul_right 18740331 x))

sine_long_zero : (m k : ℕ) → m ≡ 0 → sine_long m k ≡ 0
unfolding sine_long
sine_long_zero m k e = ap (λ (x : ℕ). x * (2398762259 * sine_part (square_of m k) / 16777216)) e ∙ zero-mul _

-- ---- values
-- r is the sine's long product in units of 1 / (2 ^ k * 2 ^ 24), to within 2 ^ k of these
pub record SineAt (m k : ℕ) (r : Float) : Type 0 where
  pub top : ℕ
  pub value : HasValue r false top (2 ^ k * 2 ^ 24)
  pub high : top * 549755813888 ≤ sine_long m k + 2 ^ k * 549755813888
  pub low : sine_long m k ≤ top * 549755813888 + 2 ^ k * 549755813888
  pub none : m ≡ 0 → top ≡ 0

module _ (m k : ℕ) (h : m < 2 ^ 24) (l : m ≤ 11796480 * 2 ^ k) (t : k ≤ 131) (u : k ≤ 125 → 2 ^ 23 ≤ m) where
  tiny : 126 ≤ k → SineAt m k (of_bits binary32 ((sine_long m k / 2 ^ (k - 87) + 1) / 2))
  tiny b =
      let p = sine_long m k in
      let w = p / 2 ^ (k - 87) in
      let q = (w + 1) / 2 in
      let most = tiny_most p k (sine_long_most m k h) b in
      let G : 2 ^ (k - 125) * 2 ^ 39 ≡ 2 ^ (k - 87) * 2 ^ 1 = powers (k - 125) 39 (k - 86) (omega arith) ∙ sym (powers (k - 87) 1 (k - 86) (omega arith)) in
      let small : 2 ^ (k - 87) ≤ 2 ^ k = pow-le-pow_right (lit< tt) {i = k - 87} {j = k} (omega arith) in
      let K : 2 ^ k * 2 ^ 24 ≡ 2 ^ (k - 125) * 2 ^ 149 = powers k 24 (k + 24) refl ∙ sym (powers (k - 125) 149 (k + 24) (omega arith)) in
      record {
        top = q * 2 ^ (k - 125);
        value = rescale (of_bits binary32 q) false q (2 ^ 149) (q * 2 ^ (k - 125)) (2 ^ k * 2 ^ 24) (pow_pos 149) (ap (λ (y : ℕ). q * y) K ∙ sym (mul_assoc q (2 ^ (k - 125)) (2 ^ 149))) (few q (omega arith));
        high = up_to q w p (2 ^ (k - 125)) (2 ^ (k - 87)) (2 ^ k) (omega arith) (div-mul-le_self p (2 ^ (k - 87))) G small;
        low = down_to q w p (2 ^ (k - 125)) (2 ^ (k - 87)) (2 ^ k) (omega arith) (lt-div-mul-add {a = p} {b = 2 ^ (k - 87)} (pow_pos (k - 87))) G small;
        none = λ z. zeroed z;
      }
    where
      up_to : (q w p J G K : ℕ) → 2 * q ≤ w + 1 → w * G ≤ p → J * 549755813888 ≡ G * 2 → G ≤ K → q * J * 549755813888 ≤ p + K * 549755813888
      up_to q w p J G K a b e s = let x : 2 * q * G ≤ (w + 1) * G = mul-le-mul_right G a in let y : q * (J * 549755813888) ≡ q * (G * 2) = ap (λ (y : ℕ). q * y) e in omega arith

      down_to : (q w p J G K : ℕ) → w ≤ 2 * q → p < w * G + G → J * 549755813888 ≡ G * 2 → G ≤ K → p ≤ q * J * 549755813888 + K * 549755813888
      down_to q w p J G K a b e s = let x : w * G ≤ 2 * q * G = mul-le-mul_right G a in let y : q * (J * 549755813888) ≡ q * (G * 2) = ap (λ (y : ℕ). q * y) e in omega arith

      zeroed : m ≡ 0 → (sine_long m k / 2 ^ (k - 87) + 1) / 2 * 2 ^ (k - 125) ≡ 0
      zeroed z = rw (sine_long_zero m k z, zero-div) (zero-mul (2 ^ (k - 125)))

  pub sine_at : SineAt m k (of_bits binary32 (sine_bits m k))
  unfolding sine_bits
  sine_at = go (leb 126 k) refl (ltb (sine_long m k) 9223372036854775808) refl
    where
      go : (a : Bool) → leb 126 k ≡ a → (b : Bool) → ltb (sine_long m k) 9223372036854775808 ≡ b
          → SineAt m k (of_bits binary32 (cond a ((sine_long m k / 2 ^ (k - 87) + 1) / 2) (cond b ((125 - k) * 8388608 + (sine_long m k + 274877906944) / 549755813888) ((126 - k) * 8388608 + (sine_long m k + 549755813888) / 1099511627776))))
      go true e b f = tiny (leb-true 126 k e)
      go false e true f =
          let i : k ≤ 125 = (let w = leb-false 126 k e in omega arith) in
          let p = sine_long m k in
          let q = (p + 274877906944) / 549755813888 in
          let least = sine_long_least m k (u i) l in
          let less = ltb-true p 9223372036854775808 f in
          let K : 2 ^ (125 - k) * (2 ^ k * 2 ^ 24) ≡ 2 ^ 149 = sym (mul_assoc (2 ^ (125 - k)) (2 ^ k) (2 ^ 24)) ∙ ap (λ (y : ℕ). y * 2 ^ 24) (powers (125 - k) k 125 (omega arith)) in
          let one : 1 ≤ 2 ^ k = pow_pos k in
          record {
            top = q;
            value = rescale (of_bits binary32 ((125 - k) * 2 ^ 23 + q)) false (q * 2 ^ (125 - k)) (2 ^ 149) q (2 ^ k * 2 ^ 24) (pow_pos 149) (mul_assoc q (2 ^ (125 - k)) (2 ^ k * 2 ^ 24) ∙ ap (λ (y : ℕ). q * y) K) (pattern_up (125 - k) q (omega arith) (omega arith) (omega arith));
            high = omega arith;
            low = omega arith;
            none = λ z. absurd (let w = u i in omega arith);
          }
      go false e false f =
          let i : k ≤ 125 = (let w = leb-false 126 k e in omega arith) in
          let p = sine_long m k in
          let q = (p + 549755813888) / 1099511627776 in
          let most = sine_long_most m k h in
          let less = ltb-false p 9223372036854775808 f in
          let K : 2 ^ (126 - k) * (2 ^ k * 2 ^ 24) ≡ 2 * 2 ^ 149 = sym (mul_assoc (2 ^ (126 - k)) (2 ^ k) (2 ^ 24)) ∙ ap (λ (y : ℕ). y * 2 ^ 24) (powers (126 - k) k 126 (omega arith)) in
          let one : 1 ≤ 2 ^ k = pow_pos k in
          record {
            top = q * 2;
            value = rescale (of_bits binary32 ((126 - k) * 2 ^ 23 + q)) false (q * 2 ^ (126 - k)) (2 ^ 149) (q * 2) (2 ^ k * 2 ^ 24) (pow_pos 149) (mul_assoc q (2 ^ (126 - k)) (2 ^ k * 2 ^ 24) ∙ ap (λ (y : ℕ). q * y) K ∙ sym (mul_assoc q 2 (2 ^ 149))) (pattern_up (126 - k) q (omega arith) (omega arith) (omega arith));
            high = omega arith;
            low = omega arith;
            none = λ z. absurd (let w = u i in omega arith);
          }

pub cosine_at : (m k : ℕ) → m ≤ 11796480 * 2 ^ k → HasValue (of_bits binary32 (cosine_bits m k)) false (cosine_top m k) (2 ^ 24)
unfolding cosine_bits cosine_top
cosine_at m k l =
    let q = (cosine_part (square_of m k) + 128) / 256 in
    let a = cosine_part_low (square_of m k) (square_most m k l) in
    let b = cosine_part_high (square_of m k) in
    rescale (of_bits binary32 (125 * 2 ^ 23 + q)) false (q * 2 ^ 125) (2 ^ 149) q (2 ^ 24) (pow_pos 149) (mul_assoc q (2 ^ 125) (2 ^ 24)) (pattern_up 125 q (lit< tt) (omega arith) (omega arith))

-- ---- what the code's functions return
pub long_is : (m k z h : ℕ) → z ≡ square_of m k → h ≡ sine_part z → m * (2398762259 * h / 16777216) ≡ sine_long m k
unfolding sine_long
long_is m k z h e f = rw (f, e)

pub cosine_is : (m k z h : ℕ) → z ≡ square_of m k → h ≡ cosine_part z → 1048576000 + (h + 128) / 256 ≡ cosine_bits m k
unfolding cosine_bits cosine_top
cosine_is m k z h e f = rw (f, e)

pub bits_tiny : (m k p : ℕ) → p ≡ sine_long m k → 126 ≤ k → (p / 2 ^ (k - 87) + 1) / 2 ≡ sine_bits m k
unfolding sine_bits
bits_tiny m k p e h = rw (e, le-leb 126 k h)

pub bits_low : (m k p : ℕ) → p ≡ sine_long m k → k < 126 → p < 9223372036854775808 → (125 - k) * 8388608 + (p + 274877906944) / 549755813888 ≡ sine_bits m k
unfolding sine_bits
bits_low m k p e h l = let l' : sine_long m k < 9223372036854775808 = rw e at l in rw (e, lt-leb 126 k h, lt-ltb (sine_long m k) 9223372036854775808 l')

pub bits_high : (m k p : ℕ) → p ≡ sine_long m k → k < 126 → 9223372036854775808 ≤ p → (126 - k) * 8388608 + (p + 549755813888) / 1099511627776 ≡ sine_bits m k
unfolding sine_bits
bits_high m k p e h l = let l' : 9223372036854775808 ≤ sine_long m k = rw e at l in rw (e, lt-leb 126 k h, le-ltb (sine_long m k) 9223372036854775808 l')
