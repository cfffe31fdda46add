-- The whole numbers m * 2 ^ k with m below 2 ^ 24, which are the sizes of the `f32`s in units of the smallest: how near they are to q * 2 ^ j, where q has 24 digits,
-- and that q * 2 ^ j is the one nearest to the root of X * 4 ^ j, where q is nearest to the root of X. Assumes nothing.
use mathlib.Core.Path.{◌≡◌, ap, ◌∙◌}
use mathlib.Core.Logic.{⊎_elim}
use Prim.Native.Nat.{ℕ, ◌+◌, ◌-◌, ◌*◌, ◌^◌, ◌≤◌, ◌<◌}
use native.Mathlib.Nat.{mul-le-mul, mul-le-mul_right, add-mul, mul-add, mul_assoc, mul-mul-mul_comm, mul-pos, lt_of_mul-lt-mul_right, eq-zero-or-pos}
use native.Mathlib.Omega.{arith}
use lib.Pow.{pow_mono, pow_pos, pow-add}
use Rattle.roots.proofs.Squares.{square_next}
use Rattle.roots.specs.Root.{middle}
use Rattle.roots.specs.Parts.{Nearest}

-- m * 2 ^ k at an exponent that is not below j is a multiple of 2 ^ j
multiple : (m j k : ℕ) → j ≤ k → m * 2 ^ k ≡ m * 2 ^ (k - j) * 2 ^ j
multiple m j k h =
    let e : k ≡ (k - j) + j = omega arith in
    ap (λ (z : ℕ). m * 2 ^ z) e ∙ rw (pow-add 2 (k - j) j, mul_assoc)

-- and below j it is small
small : (m j k : ℕ) → m < 2 ^ 24 → k < j → m * 2 ^ k < 2 ^ 23 * 2 ^ j
small m j k h l =
    let a : 2 ^ (k + 1) ≤ 2 ^ j = pow_mono (omega arith) in
    let b : (m + 1) * 2 ^ k ≤ 2 ^ 24 * 2 ^ k = mul-le-mul_right (2 ^ k) (omega arith) in
    omega (arith, pow-add 2 k 1, add-mul m 1 (2 ^ k), pow_pos k)

-- the next one up, and the next one down where q is not 2 ^ 23
step_up : (q j m k : ℕ) → 2 ^ 23 ≤ q → m < 2 ^ 24 → q * 2 ^ j < m * 2 ^ k → (q + 1) * 2 ^ j ≤ m * 2 ^ k
step_up q j m k h l g = ⊎_elim (λ z. high (omega arith)) (λ z. low (omega arith)) (eq-zero-or-pos (j - k))
  where
    low : k < j → (q + 1) * 2 ^ j ≤ m * 2 ^ k
    low e = let a : 2 ^ 23 * 2 ^ j ≤ q * 2 ^ j = mul-le-mul_right (2 ^ j) h in omega (arith, small m j k l e)

    high : j ≤ k → (q + 1) * 2 ^ j ≤ m * 2 ^ k
    high e =
        let s = multiple m j k e in
        let a : q * 2 ^ j < m * 2 ^ (k - j) * 2 ^ j = rw s at g in
        let b : q < m * 2 ^ (k - j) = lt_of_mul-lt-mul_right (2 ^ j) a in
        rw s (mul-le-mul_right (2 ^ j) (omega arith))

step_down : (p j m k : ℕ) → 2 ^ 23 ≤ p → m < 2 ^ 24 → m * 2 ^ k < (p + 1) * 2 ^ j → m * 2 ^ k ≤ p * 2 ^ j
step_down p j m k h l g = ⊎_elim (λ z. high (omega arith)) (λ z. low (omega arith)) (eq-zero-or-pos (j - k))
  where
    low : k < j → m * 2 ^ k ≤ p * 2 ^ j
    low e = let a : 2 ^ 23 * 2 ^ j ≤ p * 2 ^ j = mul-le-mul_right (2 ^ j) h in omega (arith, small m j k l e)

    high : j ≤ k → m * 2 ^ k ≤ p * 2 ^ j
    high e =
        let s = multiple m j k e in
        let a : m * 2 ^ (k - j) * 2 ^ j < (p + 1) * 2 ^ j = rw s at g in
        let b : m * 2 ^ (k - j) < p + 1 = lt_of_mul-lt-mul_right (2 ^ j) a in
        rw s (mul-le-mul_right (2 ^ j) (omega arith))

-- ---- w is 4 ^ j
below_square : (X q w : ℕ) → X ≤ q * q + q → 0 < w → 4 * (X * w) < (2 * q + 1) * (2 * q + 1) * w
below_square X q w h p =
    let a : (4 * X + 1) * w ≤ (2 * q + 1) * (2 * q + 1) * w = mul-le-mul_right w (omega (arith, square_next (2 * q), mul-mul-mul_comm 2 q 2 q)) in
    omega (arith, add-mul (4 * X) 1 w, mul_assoc 4 X w)

above_square : (X p w : ℕ) → (p + 1) * (p + 1) < X + (p + 1) → 0 < w → (2 * p + 1) * (2 * p + 1) * w < 4 * (X * w)
above_square X p w h o =
    let a : ((2 * p + 1) * (2 * p + 1) + 1) * w ≤ 4 * X * w = mul-le-mul_right w (omega (arith, square_next (2 * p), square_next p, mul-mul-mul_comm 2 p 2 p)) in
    omega (arith, add-mul ((2 * p + 1) * (2 * p + 1)) 1 w, mul_assoc 4 X w)

-- a < b gives a * a < b * b
pub square_lt : (a b : ℕ) → a < b → a * a < b * b
square_lt a b h = let l : a + 1 ≤ b = omega arith in let m : (a + 1) * (a + 1) ≤ b * b = mul-le-mul l l in omega (arith, square_next a)

-- below q = p + 1, where p has 24 digits
down_by : (X q p j m k : ℕ) → q ≡ p + 1 → 2 ^ 23 ≤ p → q * q < X + q → m < 2 ^ 24 → m * 2 ^ k < q * 2 ^ j → middle (m * 2 ^ k) (q * 2 ^ j) < 4 * (X * (2 ^ j * 2 ^ j))
down_by X q p j m k e h a f g =
    let b : (p + 1) * (p + 1) < X + (p + 1) = rw e at a in
    let g' : m * 2 ^ k < (p + 1) * 2 ^ j = rw e at g in
    let s = step_down p j m k h f g' in
    let t : m * 2 ^ k + (p + 1) * 2 ^ j ≤ (2 * p + 1) * 2 ^ j = omega (arith, s, add-mul p 1 (2 ^ j), add-mul (2 * p) 1 (2 ^ j), mul_assoc 2 p (2 ^ j)) in
    let u = mul-le-mul t t in
    let v : middle (m * 2 ^ k) ((p + 1) * 2 ^ j) < 4 * (X * (2 ^ j * 2 ^ j)) = omega (arith, u, above_square X p (2 ^ j * 2 ^ j) b (mul-pos (pow_pos j) (pow_pos j)), mul-mul-mul_comm (2 * p + 1) (2 ^ j) (2 * p + 1) (2 ^ j)) in
    rw e v

module _ (X q j : ℕ) (near : Nearest X q) (least : 2 ^ 46 ≤ X) (m k : ℕ) (fine : m < 2 ^ 24) where
  w_pos : 0 < 2 ^ j * 2 ^ j
  w_pos = mul-pos (pow_pos j) (pow_pos j)

  -- any other size that is larger is farther off: the root is below the middle of the two
  pub up_is_farther : q * 2 ^ j < m * 2 ^ k → 4 * (X * (2 ^ j * 2 ^ j)) < middle (m * 2 ^ k) (q * 2 ^ j)
  up_is_farther g =
      let s = step_up q j m k near.least fine g in
      let t : (2 * q + 1) * 2 ^ j ≤ m * 2 ^ k + q * 2 ^ j = omega (arith, add-mul q 1 (2 ^ j), add-mul (2 * q) 1 (2 ^ j), mul_assoc 2 q (2 ^ j)) in
      let u = mul-le-mul t t in
      omega (arith, below_square X q (2 ^ j * 2 ^ j) near.below w_pos, mul-mul-mul_comm (2 * q + 1) (2 ^ j) (2 * q + 1) (2 ^ j))

  -- and so is any that is smaller: the root is above the middle
  pub down_is_farther : m * 2 ^ k < q * 2 ^ j → middle (m * 2 ^ k) (q * 2 ^ j) < 4 * (X * (2 ^ j * 2 ^ j))
  down_is_farther g = ⊎_elim first later (eq-zero-or-pos (q - 2 ^ 23))
    where
      -- q is 2 ^ 23, and the root is q at least
      first : q - 2 ^ 23 ≡ 0 → middle (m * 2 ^ k) (q * 2 ^ j) < 4 * (X * (2 ^ j * 2 ^ j))
      first z =
          let l = near.least in
          let e : q ≡ 2 ^ 23 = omega arith in
          let t : m * 2 ^ k + q * 2 ^ j < 2 * q * 2 ^ j = omega (arith, mul_assoc 2 q (2 ^ j)) in
          let a : (2 * q) * (2 * q) ≤ 4 * X = (let d : 2 * q ≤ 2 ^ 24 = omega arith in omega (arith, mul-le-mul d d)) in
          let b : (2 * q) * (2 * q) * (2 ^ j * 2 ^ j) ≤ 4 * X * (2 ^ j * 2 ^ j) = mul-le-mul_right (2 ^ j * 2 ^ j) a in
          omega (arith, square_lt (m * 2 ^ k + q * 2 ^ j) (2 * q * 2 ^ j) t, mul-mul-mul_comm (2 * q) (2 ^ j) (2 * q) (2 ^ j), mul_assoc 4 X (2 ^ j * 2 ^ j))

      later : 0 < q - 2 ^ 23 → middle (m * 2 ^ k) (q * 2 ^ j) < 4 * (X * (2 ^ j * 2 ^ j))
      later z = let e : q ≡ (q - 1) + 1 = omega arith in down_by X q (q - 1) j m k e (omega arith) near.above fine g

-- ---- how far off the nearest is, with N = X * w and R * R = q * q * w, for w = 4 ^ j
tangent : (q d : ℕ) → q ≡ d + 2 ^ 23 → 2 ^ 24 * q ≤ q * q + 2 ^ 46
tangent q d e = rw e (omega (arith, add-mul d (2 ^ 23) (d + 2 ^ 23), mul-add d d (2 ^ 23)))

module _ (X q w : ℕ) (near : Nearest X q) where
  -- √x / r is within 2 ^ -24 of 1, each side squared
  pub relative_up : 2 ^ 48 * (X * w) ≤ (2 ^ 24 + 1) * (2 ^ 24 + 1) * (q * q * w)
  relative_up =
      let b = near.below in
      let h : 2 ^ 48 * X ≤ (2 ^ 24 + 1) * (2 ^ 24 + 1) * (q * q) = omega (arith, mul-le-mul_right q near.least) in
      omega (arith, mul-le-mul_right w h, mul_assoc (2 ^ 48) X w, mul_assoc ((2 ^ 24 + 1) * (2 ^ 24 + 1)) (q * q) w)

  pub relative_down : (2 ^ 24 - 1) * (2 ^ 24 - 1) * (q * q * w) ≤ 2 ^ 48 * (X * w)
  relative_down =
      let b = near.above in
      let l = near.least in
      let e : q ≡ (q - 2 ^ 23) + 2 ^ 23 = omega arith in
      let h : (2 ^ 24 - 1) * (2 ^ 24 - 1) * (q * q) ≤ 2 ^ 48 * X = omega (arith, mul-le-mul_right q l, tangent q (q - 2 ^ 23) e) in
      omega (arith, mul-le-mul_right w h, mul_assoc (2 ^ 48) X w, mul_assoc ((2 ^ 24 - 1) * (2 ^ 24 - 1)) (q * q) w)

  -- r * r is within r * r * 2 ^ -23 of x
  pub square_up : 2 ^ 23 * (X * w) ≤ (2 ^ 23 + 1) * (q * q * w)
  square_up =
      let b = near.below in
      let h : 2 ^ 23 * X ≤ (2 ^ 23 + 1) * (q * q) = omega (arith, mul-le-mul_right q near.least) in
      omega (arith, mul-le-mul_right w h, mul_assoc (2 ^ 23) X w, mul_assoc (2 ^ 23 + 1) (q * q) w)

  pub square_down : (2 ^ 23 - 1) * (q * q * w) ≤ 2 ^ 23 * (X * w)
  square_down =
      let b = near.above in
      let h : (2 ^ 23 - 1) * (q * q) ≤ 2 ^ 23 * X = omega (arith, mul-le-mul_right q near.least) in
      omega (arith, mul-le-mul_right w h, mul_assoc (2 ^ 23) X w, mul_assoc (2 ^ 23 - 1) (q * q) w)
