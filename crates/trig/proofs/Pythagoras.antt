-- The sums of six terms: sine squared and cosine squared make one, up to the seventh terms. Assumes nothing.
use mathlib.Core.Path.{◌≡◌, refl, sym, ap}
use Prim.Native.Nat.{ℕ, ◌+◌, ◌-◌, ◌*◌, ◌≤◌, ◌<◌}
use native.Mathlib.Nat.{le_refl, mul-le-mul, mul-le-mul_right}
use native.Mathlib.Omega.{arith}
use lib.Dec.{lit<}
use Rattle.trig.specs.Circle.{circular, nested}

-- p = N - M, then the next top is its own difference
grow : (n u v p q M N : ℕ) → 0 < n → u ≤ v → p ≤ q → p + M ≡ N → n * v * q - 1 * u * p + u * N ≡ n * v * q + u * M
grow n u v p q M N k l h e =
    let a : u * p ≤ v * q = mul-le-mul l h in
    let b : 1 * (v * q) ≤ n * (v * q) = mul-le-mul_right (v * q) k in
    let c : u * (p + M) ≡ u * N = ap (λ (x : ℕ). u * x) e in
    last (n * v * q) (1 * u * p) (shape n v q (1 * u * p) (omega arith) b) (split u p M N c)
  where
    shape : (n v q x : ℕ) → x ≤ v * q → 1 * (v * q) ≤ n * (v * q) → x ≤ n * v * q
    shape n v q x a b = omega arith

    split : (u p M N : ℕ) → u * (p + M) ≡ u * N → 1 * u * p + u * M ≡ u * N
    split u p M N c = omega arith

    last : (X Y : ℕ) → Y ≤ X → Y + u * M ≡ u * N → X - Y + u * N ≡ X + u * M
    last X Y h c = omega arith

-- the two identities, in x = u * u and y = v * v
even : (x y : ℕ) → 121 * (y * ((3628800 * (y * y) + 151200 * (x * y) + 90 * (x * x)) * (3628800 * (y * y) + 151200 * (x * y) + 90 * (x * x))) + x * ((1814400 * (y * y) + 5040 * (x * y) + x * x) * (1814400 * (y * y) + 5040 * (x * y) + x * x))) + (6652800 * (x * x * x * y * y) + 207900 * (x * x * x * x * y) + 99 * (x * x * x * x * x))
    ≡ 2 * (x * ((39916800 * (y * y) + 332640 * (x * y) + 110 * (x * x)) * (6652800 * (y * y) + 7920 * (x * y) + x * x))) + 1593350922240000 * (y * y * y * y * y)
even x y = omega arith

uneven : (x y : ℕ) → y * ((39916800 * (y * y) + 332640 * (x * y) + 110 * (x * x)) * (39916800 * (y * y) + 332640 * (x * y) + 110 * (x * x))) + x * ((6652800 * (y * y) + 7920 * (x * y) + x * x) * (6652800 * (y * y) + 7920 * (x * y) + x * x))
    ≡ 242 * (y * ((3628800 * (y * y) + 151200 * (x * y) + 90 * (x * x)) * (1814400 * (y * y) + 5040 * (x * y) + x * x))) + (2851200 * (x * x * x * y * y) + 6160 * (x * x * x * x * y) + x * x * x * x * x)
uneven x y = omega arith

-- (a - b) squared
square_of_lem : (t a b : ℕ) → t + b ≡ a → t * t + 2 * (a * b) ≡ a * a + b * b
square_of_lem t a b e = rw (sym e) (shape t b)
  where
    shape : (t b : ℕ) → t * t + 2 * ((t + b) * b) ≡ (t + b) * (t + b) + b * b
    shape t b = omega arith

combine : (u v S T A B A' B' F G Y : ℕ) → S + u * B ≡ v * A → T + u * B' ≡ v * A'
    → 121 * (v * v * (A' * A') + u * u * (B' * B')) + F ≡ 2 * (u * u * (A * B)) + Y → v * v * (A * A) + u * u * (B * B) ≡ 242 * (v * v * (A' * B')) + G
    → u * (S * S) + 121 * (v * (T * T)) + v * F ≡ v * Y + u * G
combine u v S T A B A' B' F G Y s t e o =
    let a : u * (S * S + 2 * (v * A * (u * B))) ≡ u * (v * A * (v * A) + u * B * (u * B)) = ap (λ (x : ℕ). u * x) (square_of_lem S (v * A) (u * B) s) in
    let b : v * (T * T + 2 * (v * A' * (u * B'))) ≡ v * (v * A' * (v * A') + u * B' * (u * B')) = ap (λ (x : ℕ). v * x) (square_of_lem T (v * A') (u * B') t) in
    let c : v * (121 * (v * v * (A' * A') + u * u * (B' * B')) + F) ≡ v * (2 * (u * u * (A * B)) + Y) = ap (λ (x : ℕ). v * x) e in
    let d : u * (v * v * (A * A) + u * u * (B * B)) ≡ u * (242 * (v * v * (A' * B')) + G) = ap (λ (x : ℕ). u * x) o in
    last (u * (S * S)) (v * (T * T)) (u * u * v * (A * B)) (u * v * v * (A * A)) (u * u * u * (B * B)) (u * v * v * (A' * B')) (v * v * v * (A' * A')) (u * u * v * (B' * B')) (v * F) (v * Y) (u * G) (fa u v S A B a) (fb u v T A' B' b) (fc u v A B A' B' F Y c) (fd u v A B A' B' G d)
  where
    fa : (u v S A B : ℕ) → u * (S * S + 2 * (v * A * (u * B))) ≡ u * (v * A * (v * A) + u * B * (u * B)) → u * (S * S) + 2 * (u * u * v * (A * B)) ≡ u * v * v * (A * A) + u * u * u * (B * B)
    fa u v S A B e = omega arith

    fb : (u v T A B : ℕ) → v * (T * T + 2 * (v * A * (u * B))) ≡ v * (v * A * (v * A) + u * B * (u * B)) → v * (T * T) + 2 * (u * v * v * (A * B)) ≡ v * v * v * (A * A) + u * u * v * (B * B)
    fb u v T A B e = omega arith

    fc : (u v A B A' B' F Y : ℕ) → v * (121 * (v * v * (A' * A') + u * u * (B' * B')) + F) ≡ v * (2 * (u * u * (A * B)) + Y) → 121 * (v * v * v * (A' * A') + u * u * v * (B' * B')) + v * F ≡ 2 * (u * u * v * (A * B)) + v * Y
    fc u v A B A' B' F Y e = omega arith

    fd : (u v A B A' B' G : ℕ) → u * (v * v * (A * A) + u * u * (B * B)) ≡ u * (242 * (v * v * (A' * B')) + G) → u * v * v * (A * A) + u * u * u * (B * B) ≡ 242 * (u * v * v * (A' * B')) + u * G
    fd u v A B A' B' G e = omega arith

    last : (p1 p2 x1 x2 x3 x4 x5 x6 f y g : ℕ) → p1 + 2 * x1 ≡ x2 + x3 → p2 + 2 * x4 ≡ x5 + x6 → 121 * (x5 + x6) + f ≡ 2 * x1 + y → x2 + x3 ≡ 242 * x4 + g → p1 + 121 * p2 + f ≡ y + g
    last p1 p2 x1 x2 x3 x4 x5 x6 f y g a b c d = only p1 p2 x1 x2 x3 x4 x5 x6 f y g a b c d
      where
        only : (p1 p2 x1 x2 x3 x4 x5 x6 f y g : ℕ) → p1 + 2 * x1 ≡ x2 + x3 → p2 + 2 * x4 ≡ x5 + x6 → 121 * (x5 + x6) + f ≡ 2 * x1 + y → x2 + x3 ≡ 242 * x4 + g → p1 + 121 * p2 + f ≡ y + g
        only p1 p2 x1 x2 x3 x4 x5 x6 f y g a b c d = omega arith

below : (a b : ℕ) → a - b ≤ a
below a b = omega arith

module _ (u v : ℕ) (l : u ≤ v) where
  pub sine_parts : (nested circular 5 1 u v).top + u * (6652800 * (v * v * (v * v)) + 7920 * (u * u * (v * v)) + u * u * (u * u)) ≡ v * (39916800 * (v * v * (v * v)) + 332640 * (u * u * (v * v)) + 110 * (u * u * (u * u)))
  unfolding nested
  sine_parts =
      let a = grow 110 u v 1 1 0 1 (lit< tt) l (le_refl 1) refl in
      let b = grow 72 u v _ (110 * v * 1) _ _ (lit< tt) l (below _ _) a in
      let c = grow 42 u v _ (72 * v * (110 * v * 1)) _ _ (lit< tt) l (below _ _) b in
      let d = grow 20 u v _ (42 * v * (72 * v * (110 * v * 1))) _ _ (lit< tt) l (below _ _) c in
      let e = grow 6 u v _ (20 * v * (42 * v * (72 * v * (110 * v * 1)))) _ _ (lit< tt) l (below _ _) d in
      shape (6 * v * (20 * v * (42 * v * (72 * v * (110 * v * 1)))) - 1 * u * _) u v e
    where
      shape : (P u v : ℕ) → P + u * (20 * v * (42 * v * (72 * v * (110 * v * 1))) + u * (u * (72 * v * (110 * v * 1) + u * (u * 1)))) ≡ 6 * v * (20 * v * (42 * v * (72 * v * (110 * v * 1)))) + u * (u * (42 * v * (72 * v * (110 * v * 1)) + u * (u * (110 * v * 1 + u * 0))))
          → P + u * (6652800 * (v * v * (v * v)) + 7920 * (u * u * (v * v)) + u * u * (u * u)) ≡ v * (39916800 * (v * v * (v * v)) + 332640 * (u * u * (v * v)) + 110 * (u * u * (u * u)))
      shape P u v e = omega arith

  pub cosine_parts : (nested circular 5 0 u v).top + u * (1814400 * (v * v * (v * v)) + 5040 * (u * u * (v * v)) + u * u * (u * u)) ≡ v * (3628800 * (v * v * (v * v)) + 151200 * (u * u * (v * v)) + 90 * (u * u * (u * u)))
  unfolding nested
  cosine_parts =
      let a = grow 90 u v 1 1 0 1 (lit< tt) l (le_refl 1) refl in
      let b = grow 56 u v _ (90 * v * 1) _ _ (lit< tt) l (below _ _) a in
      let c = grow 30 u v _ (56 * v * (90 * v * 1)) _ _ (lit< tt) l (below _ _) b in
      let d = grow 12 u v _ (30 * v * (56 * v * (90 * v * 1))) _ _ (lit< tt) l (below _ _) c in
      let e = grow 2 u v _ (12 * v * (30 * v * (56 * v * (90 * v * 1)))) _ _ (lit< tt) l (below _ _) d in
      shape (2 * v * (12 * v * (30 * v * (56 * v * (90 * v * 1)))) - 1 * u * _) u v e
    where
      shape : (P u v : ℕ) → P + u * (12 * v * (30 * v * (56 * v * (90 * v * 1))) + u * (u * (56 * v * (90 * v * 1) + u * (u * 1)))) ≡ 2 * v * (12 * v * (30 * v * (56 * v * (90 * v * 1)))) + u * (u * (30 * v * (56 * v * (90 * v * 1)) + u * (u * (90 * v * 1 + u * 0))))
          → P + u * (1814400 * (v * v * (v * v)) + 5040 * (u * u * (v * v)) + u * u * (u * u)) ≡ v * (3628800 * (v * v * (v * v)) + 151200 * (u * u * (v * v)) + 90 * (u * u * (u * u)))
      shape P u v e = omega arith

  abbrev y5 : ℕ
  y5 = v * v * (v * v) * (v * v) * (v * v) * (v * v)

  -- sin ^ 2 + cos ^ 2 = 1 - (seventh terms), over the common bottom: 11! ^ 2 * v ^ 11
  pub pythagoras : u * ((nested circular 5 1 u v).top * (nested circular 5 1 u v).top) + 121 * (v * ((nested circular 5 0 u v).top * (nested circular 5 0 u v).top))
      + v * (6652800 * (u * u * (u * u) * (u * u) * (v * v) * (v * v)) + 207900 * (u * u * (u * u) * (u * u) * (u * u) * (v * v)) + 99 * (u * u * (u * u) * (u * u) * (u * u) * (u * u)))
      ≡ v * (1593350922240000 * (v * v * (v * v) * (v * v) * (v * v) * (v * v)))
      + u * (2851200 * (u * u * (u * u) * (u * u) * (v * v) * (v * v)) + 6160 * (u * u * (u * u) * (u * u) * (u * u) * (v * v)) + u * u * (u * u) * (u * u) * (u * u) * (u * u))
  pythagoras = combine u v _ _ _ _ _ _ _ _ _ sine_parts cosine_parts (even (u * u) (v * v)) (uneven (u * u) (v * v))
