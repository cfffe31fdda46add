-- The code's sine part h and cosine part g, at the square z: z * h * h + W * g * g is W ^ 3 up to 2 ^ -26 of it. Assumes nothing.
use mathlib.Core.Path.{◌≡◌, sym, ap, ◌∙◌}
use Prim.Native.Nat.{ℕ, ◌+◌, ◌-◌, ◌*◌, ◌≤◌, ◌<◌}
use native.Mathlib.Nat.{le_refl, le_trans, le_of_eq, mul_assoc, mul-le-mul, mul-le-mul_left, mul-le-mul_right, le_of_mul-le-mul_right}
use native.Mathlib.Omega.{arith}
use lib.Dec.{lit<}
use Rattle.trig.specs.Circle.{circular, nested}
use Rattle.trig.specs.Fixed.{sine_part, cosine_part}
use Rattle.trig.proofs.Sums.{Square, sum_most}
use Rattle.trig.proofs.Chains.{scale, sine_under, cosine_under, sine_over_5, cosine_over_5}
use Rattle.trig.proofs.Pythagoras.{pythagoras}

bottoms : (u v : ℕ) → ((nested circular 5 1 u v).bottom ≡ 39916800 * (v * (v * v) * (v * v))) × ((nested circular 5 0 u v).bottom ≡ 3628800 * (v * (v * v) * (v * v)))
unfolding nested
bottoms u v = (sine v, cosine v)
  where
    sine : (v : ℕ) → 6 * v * (20 * v * (42 * v * (72 * v * (110 * v * 1)))) ≡ 39916800 * (v * (v * v) * (v * v))
    sine v = omega arith

    cosine : (v : ℕ) → 2 * v * (12 * v * (30 * v * (56 * v * (90 * v * 1)))) ≡ 3628800 * (v * (v * v) * (v * v))
    cosine v = omega arith

-- ---- with names for all
-- the tail of the sums: x ≤ y
tail_high : (x y : ℕ) → x ≤ y → 2851200 * (x * x * x * y * y) + 6160 * (x * x * x * x * y) + x * x * x * x * x ≤ 2857361 * (y * y * y * y * y)
tail_high x y h = go (mul-le-mul h h)
  where
    go : x * x ≤ y * y → 2851200 * (x * x * x * y * y) + 6160 * (x * x * x * x * y) + x * x * x * x * x ≤ 2857361 * (y * y * y * y * y)
    go a =
        let b : x * x * x ≤ y * y * y = mul-le-mul a h in
        let c : x * x * x * x ≤ y * y * y * y = mul-le-mul b h in
        let d : x * x * x * x * x ≤ y * y * y * y * y = mul-le-mul c h in
        let e : x * x * x * x * y ≤ y * y * y * y * y = mul-le-mul c (le_refl y) in
        let f : x * x * x * y * y ≤ y * y * y * y * y = mul-le-mul (mul-le-mul b (le_refl y)) (le_refl y) in
        omega arith

tail_low : (x y : ℕ) → x ≤ y → 6652800 * (x * x * x * y * y) + 207900 * (x * x * x * x * y) + 99 * (x * x * x * x * x) ≤ 6860799 * (y * y * y * y * y)
tail_low x y h = go (mul-le-mul h h)
  where
    go : x * x ≤ y * y → 6652800 * (x * x * x * y * y) + 207900 * (x * x * x * x * y) + 99 * (x * x * x * x * x) ≤ 6860799 * (y * y * y * y * y)
    go a =
        let b : x * x * x ≤ y * y * y = mul-le-mul a h in
        let c : x * x * x * x ≤ y * y * y * y = mul-le-mul b h in
        let d : x * x * x * x * x ≤ y * y * y * y * y = mul-le-mul c h in
        let e : x * x * x * x * y ≤ y * y * y * y * y = mul-le-mul c (le_refl y) in
        let f : x * x * x * y * y ≤ y * y * y * y * y = mul-le-mul (mul-le-mul b (le_refl y)) (le_refl y) in
        omega arith

-- sine and cosine of the exact sums, on the circle up to 2 ^ -29 above and 2 ^ -27 below: Y = v ^ 10, D = 11! ^ 2
module _ (u v : ℕ) (l : u ≤ v) where
  abbrev S : ℕ
  S = (nested circular 5 1 u v).top

  abbrev T : ℕ
  T = (nested circular 5 0 u v).top

  abbrev Y : ℕ
  Y = v * v * (v * v) * (v * v) * (v * v) * (v * v)

  pub circle_high : 536870912 * (u * (S * S) + 121 * (v * (T * T))) ≤ 536870913 * (v * (1593350922240000 * Y))
  circle_high = go (u * (S * S) + 121 * (v * (T * T))) _ (v * (1593350922240000 * Y)) _ (v * Y) (pythagoras u v l) (le_trans (mul-le-mul_left u (tail_high (u * u) (v * v) (mul-le-mul l l))) (le_trans (mul-le-mul_right (2857361 * Y) l) (le_of_eq (swap v 2857361 Y)))) (swap v 1593350922240000 Y)
    where
      swap : (a b c : ℕ) → a * (b * c) ≡ b * (a * c)
      swap a b c = omega arith

      go : (X F P G Z : ℕ) → X + F ≡ P + G → G ≤ 2857361 * Z → P ≡ 1593350922240000 * Z → 536870912 * X ≤ 536870913 * P
      go X F P G Z e g p = only X F P G Z e g p
        where
          only : (X F P G Z : ℕ) → X + F ≡ P + G → G ≤ 2857361 * Z → P ≡ 1593350922240000 * Z → 536870912 * X ≤ 536870913 * P
          only X F P G Z e g p = omega arith

  pub circle_low : 134217727 * (v * (1593350922240000 * Y)) ≤ 134217728 * (u * (S * S) + 121 * (v * (T * T)))
  circle_low = go (u * (S * S) + 121 * (v * (T * T))) _ (v * (1593350922240000 * Y)) _ (v * Y) (pythagoras u v l) (le_trans (mul-le-mul_left v (tail_low (u * u) (v * v) (mul-le-mul l l))) (le_of_eq (swap v 6860799 Y))) (swap v 1593350922240000 Y)
    where
      swap : (a b c : ℕ) → a * (b * c) ≡ b * (a * c)
      swap a b c = omega arith

      go : (X F P G Z : ℕ) → X + F ≡ P + G → F ≤ 6860799 * Z → P ≡ 1593350922240000 * Z → 134217727 * P ≤ 134217728 * X
      go X F P G Z e g p = only X F P G Z e g p
        where
          only : (X F P G Z : ℕ) → X + F ≡ P + G → F ≤ 6860799 * Z → P ≡ 1593350922240000 * Z → 134217727 * P ≤ 134217728 * X
          only X F P G Z e g p = omega arith

-- ---- the code's parts: names h Q S for the sine, g R T for the cosine, with Q = 11 * R; everything times Q * Q
high_h : (z W h Q S : ℕ) → z ≤ W → S ≤ Q → h * Q ≤ S * W + 5 * Q → z * (h * h) * (Q * Q) ≤ W * W * (z * (S * S)) + (16 * (W * W) + 32 * W) * (Q * Q)
high_h z W h Q S l s k =
    let a : h * Q * (h * Q) ≤ (S * W + 5 * Q) * (S * W + 5 * Q) = mul-le-mul k k in
    let b : z * (h * Q * (h * Q)) ≤ z * ((S * W + 5 * Q) * (S * W + 5 * Q)) = mul-le-mul_left z a in
    let c : z * S * (W * Q) ≤ W * Q * (W * Q) = mul-le-mul_right (W * Q) (mul-le-mul l s) in
    let d : z * (Q * Q) ≤ W * (Q * Q) = mul-le-mul_right (Q * Q) l in
    last z W h Q S b c d
  where
    last : (z W h Q S : ℕ) → z * (h * Q * (h * Q)) ≤ z * ((S * W + 5 * Q) * (S * W + 5 * Q)) → z * S * (W * Q) ≤ W * Q * (W * Q) → z * (Q * Q) ≤ W * (Q * Q)
        → z * (h * h) * (Q * Q) ≤ W * W * (z * (S * S)) + (16 * (W * W) + 32 * W) * (Q * Q)
    last z W h Q S b c d = omega arith

high_g : (W g R T : ℕ) → T ≤ R → g * R ≤ T * W + 9 * R → W * (g * g) * (R * R) ≤ W * W * (W * (T * T)) + (32 * (W * W) + 128 * W) * (R * R)
high_g W g R T s k =
    let a : g * R * (g * R) ≤ (T * W + 9 * R) * (T * W + 9 * R) = mul-le-mul k k in
    let b : W * (g * R * (g * R)) ≤ W * ((T * W + 9 * R) * (T * W + 9 * R)) = mul-le-mul_left W a in
    let c : T * (W * W * R) ≤ R * (W * W * R) = mul-le-mul_right (W * W * R) s in
    last W g R T b c
  where
    last : (W g R T : ℕ) → W * (g * R * (g * R)) ≤ W * ((T * W + 9 * R) * (T * W + 9 * R)) → T * (W * W * R) ≤ R * (W * W * R)
        → W * (g * g) * (R * R) ≤ W * W * (W * (T * T)) + (32 * (W * W) + 128 * W) * (R * R)
    last W g R T b c = omega arith

low_h : (z W h Q S : ℕ) → S * W ≤ (h + 1) * Q → W * W * (z * (S * S)) ≤ z * ((h + 1) * (h + 1)) * (Q * Q)
low_h z W h Q S k = let a : z * (S * W * (S * W)) ≤ z * ((h + 1) * Q * ((h + 1) * Q)) = mul-le-mul_left z (mul-le-mul k k) in last z W (h + 1) Q S a
  where
    last : (z W h Q S : ℕ) → z * (S * W * (S * W)) ≤ z * (h * Q * (h * Q)) → W * W * (z * (S * S)) ≤ z * (h * h) * (Q * Q)
    last z W h Q S a = omega arith

low_g : (W g R T : ℕ) → T * W ≤ (g + 3) * R → W * W * (W * (T * T)) ≤ W * ((g + 3) * (g + 3)) * (R * R)
low_g W g R T k = low W (g + 3) R T (mul-le-mul_left W (mul-le-mul k k))
  where
    low : (W h Q S : ℕ) → W * (S * W * (S * W)) ≤ W * (h * Q * (h * Q)) → W * W * (W * (S * S)) ≤ W * (h * h) * (Q * Q)
    low W h Q S a = omega arith

-- ---- together
high_all : (z h g Q R S T E q2 : ℕ) → 0 < q2 → z * (h * h) * (Q * Q) ≤ 4294967296 * 4294967296 * (z * (S * S)) + (16 * (4294967296 * 4294967296) + 32 * 4294967296) * (Q * Q)
    → 4294967296 * (g * g) * (R * R) ≤ 4294967296 * 4294967296 * (4294967296 * (T * T)) + (32 * (4294967296 * 4294967296) + 128 * 4294967296) * (R * R)
    → Q * Q ≡ q2 → 121 * (R * R) ≡ q2 → 536870912 * (z * (S * S) + 121 * (4294967296 * (T * T))) ≤ 536870913 * (4294967296 * q2)
    → z * (h * h) + 4294967296 * (g * g) ≤ 4294967296 * 4294967296 * (4294967296 + 57)
high_all z h g Q R S T E q2 p a b c d e =
    le_of_mul-le-mul_right (sums (z * (h * h)) (g * g) q2 (z * (S * S)) (T * T) (R * R) (rw c at a) b d (line (z * (S * S)) (T * T) q2 e)) p
  where
    line : (n t q2 : ℕ) → 536870912 * (n + 121 * (4294967296 * t)) ≤ 536870913 * (4294967296 * q2) → n + 519691042816 * t ≤ 4294967304 * q2
    line n t q2 e = omega arith

    sums : (x g q2 n t r : ℕ) → x * q2 ≤ 4294967296 * 4294967296 * n + (16 * (4294967296 * 4294967296) + 32 * 4294967296) * q2
        → 4294967296 * g * r ≤ 4294967296 * 4294967296 * (4294967296 * t) + (32 * (4294967296 * 4294967296) + 128 * 4294967296) * r → 121 * r ≡ q2 → n + 519691042816 * t ≤ 4294967304 * q2
        → (x + 4294967296 * g) * q2 ≤ 4294967296 * 4294967296 * (4294967296 + 57) * q2
    sums x g q2 n t r a b d e =
        let y : 121 * (g * r) ≡ g * q2 = (let w : g * (121 * r) ≡ g * q2 = ap (λ (i : ℕ). g * i) d in omega arith) in
        finish (x * q2) (g * q2) q2 n t a (part (g * r) (g * q2) t r q2 (le_trans (le_of_eq (sym (mul_assoc 4294967296 g r))) b) y d) e (split x g q2)
      where
        split : (x g q2 : ℕ) → (x + 4294967296 * g) * q2 ≡ x * q2 + 4294967296 * (g * q2)
        split x g q2 = omega arith

        part : (gr gq t r q2 : ℕ) → 4294967296 * gr ≤ 4294967296 * 4294967296 * (4294967296 * t) + (32 * (4294967296 * 4294967296) + 128 * 4294967296) * r → 121 * gr ≡ gq → 121 * r ≡ q2
            → gq ≤ 4294967296 * (519691042816 * t) + (32 * 4294967296 + 128) * q2
        part gr gq t r q2 b y d = omega arith

        finish : (xq gq q2 n t : ℕ) {l : ℕ} → xq ≤ 4294967296 * 4294967296 * n + (16 * (4294967296 * 4294967296) + 32 * 4294967296) * q2 → gq ≤ 4294967296 * (519691042816 * t) + (32 * 4294967296 + 128) * q2
            → n + 519691042816 * t ≤ 4294967304 * q2 → l ≡ xq + 4294967296 * gq → l ≤ 4294967296 * 4294967296 * (4294967296 + 57) * q2
        finish xq gq q2 n t a b e f = last xq gq q2 n (519691042816 * t) a b e f
          where
            last : (xq gq q2 n t : ℕ) {l : ℕ} → xq ≤ 4294967296 * 4294967296 * n + (16 * (4294967296 * 4294967296) + 32 * 4294967296) * q2 → gq ≤ 4294967296 * t + (32 * 4294967296 + 128) * q2
                → n + t ≤ 4294967304 * q2 → l ≡ xq + 4294967296 * gq → l ≤ 4294967296 * 4294967296 * (4294967296 + 57) * q2
            last xq gq q2 n t a b e f = omega arith

squares : (v : ℕ) → 39916800 * (v * (v * v) * (v * v)) * (39916800 * (v * (v * v) * (v * v))) ≡ 1593350922240000 * (v * v * (v * v) * (v * v) * (v * v) * (v * v))
squares v = omega arith

squares' : (v : ℕ) → 121 * (3628800 * (v * (v * v) * (v * v)) * (3628800 * (v * (v * v) * (v * v)))) ≡ 1593350922240000 * (v * v * (v * v) * (v * v) * (v * v) * (v * v))
squares' v = omega arith

pub exact_square : (z : ℕ) → z ≤ 4294967296 → Square scale z z 4294967296
exact_square z l = record { most = l; less = mul-le-mul_left 1 l; high = le_refl _; low = omega arith }

pub round_high : (z : ℕ) → z ≤ 4294967296 → z * (sine_part z * sine_part z) + 4294967296 * (cosine_part z * cosine_part z) ≤ 4294967296 * 4294967296 * (4294967296 + 57)
round_high z l =
    let W : ℕ = 4294967296 in
    let b = bottoms z W in
    let q2 = 1593350922240000 * (W * W * (W * W) * (W * W) * (W * W) * (W * W)) in
    high_all z (sine_part z) (cosine_part z) (nested circular 5 1 z W).bottom (nested circular 5 0 z W).bottom (nested circular 5 1 z W).top (nested circular 5 0 z W).top 0 q2 (lit< tt)
    (high_h z W (sine_part z) (nested circular 5 1 z W).bottom (nested circular 5 1 z W).top l (sum_most circular 5 1 z W) (sine_under z z W (exact_square z l)))
    (high_g W (cosine_part z) (nested circular 5 0 z W).bottom (nested circular 5 0 z W).top (sum_most circular 5 0 z W) (cosine_under z z W (exact_square z l)))
    (ap (λ (x : ℕ). x * x) b.0 ∙ squares W) (ap (λ (x : ℕ). 121 * (x * x)) b.1 ∙ squares' W)
    (circle_high z W l)

low_all : (z h g Q R S T q2 : ℕ) → 0 < q2 → 4294967296 * 4294967296 * (z * (S * S)) ≤ z * (h * h) * (Q * Q) → 4294967296 * 4294967296 * (4294967296 * (T * T)) ≤ 4294967296 * (g * g) * (R * R)
    → Q * Q ≡ q2 → 121 * (R * R) ≡ q2 → 134217727 * (4294967296 * q2) ≤ 134217728 * (z * (S * S) + 121 * (4294967296 * (T * T)))
    → 4294967296 * 4294967296 * (4294967296 - 32) ≤ z * (h * h) + 4294967296 * (g * g)
low_all z h g Q R S T q2 p a b c d e =
    le_of_mul-le-mul_right (sums (z * (h * h)) (g * g) q2 (z * (S * S)) (T * T) (R * R) (rw c at a) b d (line (z * (S * S)) (T * T) q2 e)) p
  where
    line : (n t q2 : ℕ) → 134217727 * (4294967296 * q2) ≤ 134217728 * (n + 121 * (4294967296 * t)) → 4294967264 * q2 ≤ n + 519691042816 * t
    line n t q2 e = omega arith

    sums : (x g q2 n t r : ℕ) → 4294967296 * 4294967296 * n ≤ x * q2 → 4294967296 * 4294967296 * (4294967296 * t) ≤ 4294967296 * g * r → 121 * r ≡ q2 → 4294967264 * q2 ≤ n + 519691042816 * t
        → 4294967296 * 4294967296 * (4294967296 - 32) * q2 ≤ (x + 4294967296 * g) * q2
    sums x g q2 n t r a b d e =
        let y : 121 * (g * r) ≡ g * q2 = (let w : g * (121 * r) ≡ g * q2 = ap (λ (i : ℕ). g * i) d in omega arith) in
        finish (x * q2) (g * q2) q2 n t a (part (g * r) (g * q2) t (le_trans b (le_of_eq (mul_assoc 4294967296 g r))) y) e (split x g q2)
      where
        split : (x g q2 : ℕ) → (x + 4294967296 * g) * q2 ≡ x * q2 + 4294967296 * (g * q2)
        split x g q2 = omega arith

        part : (gr gq t : ℕ) → 4294967296 * 4294967296 * (4294967296 * t) ≤ 4294967296 * gr → 121 * gr ≡ gq → 4294967296 * (519691042816 * t) ≤ gq
        part gr gq t b y = omega arith

        finish : (xq gq q2 n t : ℕ) {l : ℕ} → 4294967296 * 4294967296 * n ≤ xq → 4294967296 * (519691042816 * t) ≤ gq → 4294967264 * q2 ≤ n + 519691042816 * t → l ≡ xq + 4294967296 * gq → 4294967296 * 4294967296 * (4294967296 - 32) * q2 ≤ l
        finish xq gq q2 n t a b e f = last xq gq q2 n (519691042816 * t) a b e f
          where
            last : (xq gq q2 n t : ℕ) {l : ℕ} → 4294967296 * 4294967296 * n ≤ xq → 4294967296 * t ≤ gq → 4294967264 * q2 ≤ n + t → l ≡ xq + 4294967296 * gq → 4294967296 * 4294967296 * (4294967296 - 32) * q2 ≤ l
            last xq gq q2 n t a b e f = omega arith

pub round_low : (z : ℕ) → z ≤ 4294967296 → 4294967296 * 4294967296 * (4294967296 - 32) ≤ z * ((sine_part z + 1) * (sine_part z + 1)) + 4294967296 * ((cosine_part z + 3) * (cosine_part z + 3))
round_low z l =
    let W : ℕ = 4294967296 in
    let b = bottoms z W in
    let q2 = 1593350922240000 * (W * W * (W * W) * (W * W) * (W * W) * (W * W)) in
    low_all z (sine_part z + 1) (cosine_part z + 3) (nested circular 5 1 z W).bottom (nested circular 5 0 z W).bottom (nested circular 5 1 z W).top (nested circular 5 0 z W).top q2 (lit< tt)
    (low_h z W (sine_part z) (nested circular 5 1 z W).bottom (nested circular 5 1 z W).top (sine_over_5 z z W (exact_square z l)))
    (low_g W (cosine_part z) (nested circular 5 0 z W).bottom (nested circular 5 0 z W).top (cosine_over_5 z z W (exact_square z l)))
    (ap (λ (x : ℕ). x * x) b.0 ∙ squares W) (ap (λ (x : ℕ). 121 * (x * x)) b.1 ∙ squares' W)
    (circle_low z W l)
