-- An f32 as a whole number of units of 2 ^ -149, the smallest one, and what an operation gives in such units: within 2 ^ -24 of the exact result and half a unit. Assumes nothing.
use mathlib.Core.Path.{◌≡◌, refl, sym, ap, ◌∙◌, subst}
use Prim.Native.Nat.{ℕ, zero, suc, ◌+◌, ◌-◌, ◌*◌, ◌^◌, ◌≤◌, ◌<◌}
use native.Mathlib.Nat.{add-zero, zero-add, le_refl, le_trans, le_of_eq, lt_irrefl, lt_of_le_of_lt, mul-pos, mul_comm, mul-le-mul, mul-le-mul_left, mul-le-mul_right, mul-lt-mul_of_pos_right, lt_of_mul-lt-mul_right, le_of_mul-le-mul_right, eq_of_mul-eq-mul_right, zero-mul, zero-lt-suc}
use native.Mathlib.Omega.{arith}
use mathlib.Core.Bool.{Bool, true, false, not, ◌&&◌, cond, beq}
use lib.Dec.{T, ltb}
use lib.Pow.{pow_pos}
use lib.Ieee.{Float, nan, inf, fin, binary32, up, down, unlike, fits, neg, round, add, sub, mul, div}
use lib.Ieee.Exact.{HasValue}
use lib.Ieee.Fits.{down_pos}
use lib.Ieee.Scale.{finite, grid, round_same}
use borrow.Author.Tests.{ne_eqb}
use Rattle.exact.specs.Exact.{own}
use Rattle.exact.proofs.Once.{add_is, square_is}
use Rattle.exact.proofs.Round.{moved, moved_high, moved_low, round_value, whole_units}

-- the units in 1
abbrev pub ONE : ℕ
ONE = 2 ^ 149

-- f is n units, with either sign
pub record In (n : ℕ) (f : Float) : Type 0 where
  pub sign : Bool
  pub has : HasValue f sign n ONE

-- the whole number n is x / d, but for 2 ^ -24 of it and a half
pub record About (n x d : ℕ) : Type 0 where
  pub high : 33554432 * n * d ≤ 33554434 * x + 16777216 * d
  pub low : 33554430 * x ≤ 33554432 * n * d + 16777216 * d

-- and there is one such number
pub one_number : {a b : ℕ} (f : Float) → In a f → In b f → a ≡ b
one_number nan i j = absurd i.has
one_number (inf r) i j = absurd i.has
one_number {a} {b} (fin r m e) i j = eq_of_mul-eq-mul_right (down e) (down_pos e) a b (sym i.has.1 ∙ j.has.1)

pub in_finite : {n : ℕ} (f : Float) → In n f → T (finite f)
in_finite nan i = absurd i.has
in_finite (inf s) i = absurd i.has
in_finite (fin s m e) i = tt

cut : (n m d U B C : ℕ) → 0 < d → m * U ≡ n * d → m * C ≤ B * d → n * C ≤ B * U
cut n m d U B C D e h = le_of_mul-le-mul_right (mid (ap (λ (z : ℕ). z * C) e) (mul-le-mul_right U h)) D
  where
    mid : m * U * C ≡ n * d * C → m * C * U ≤ B * d * U → n * C * d ≤ B * U * d
    mid f k = omega arith

-- every finite f32 is so many units
pub in_units_of : (f : Float) → T (fits binary32 f) → T (finite f) → (n : ℕ) × In n f
in_units_of nan h t = absurd t
in_units_of (inf s) h t = absurd t
in_units_of (fin s m e) h t = let u = whole_units s m e h in (u.0, record { sign = s; has = (refl, u.1) })

-- of size at most B / C
pub in_most : {n : ℕ} (B C : ℕ) (f : Float) → In n f → ((own f).plus + (own f).minus) * C ≤ B * (own f).over → n * C ≤ B * ONE
unfolding own
in_most B C nan i h = absurd i.has
in_most B C (inf s) i h = absurd i.has
in_most {n} B C (fin false m e) i h = cut n (m * up e) (down e) ONE B C (down_pos e) i.has.1 (subst (λ (z : ℕ). z * C ≤ B * down e) (add-zero (m * up e)) h)
in_most {n} B C (fin true m e) i h = cut n (m * up e) (down e) ONE B C (down_pos e) i.has.1 (subst (λ (z : ℕ). z * C ≤ B * down e) (zero-add (m * up e)) h)

pub in_neg : {n : ℕ} (f : Float) → In n f → In n (neg f)
unfolding neg
in_neg nan i = absurd i.has
in_neg (inf s) i = absurd i.has
in_neg (fin s m e) i = record { sign = not s; has = (refl, i.has.1) }

-- ---- a fraction that is rounded
-- the units of num / den, where that is below 2 ^ 127
pub record Near (f : Float) (num den : ℕ) : Type 0 where
  pub n : ℕ
  pub is : In n f
  pub about : About n (num * ONE) den

about_grid : (num den : ℕ) → 0 < den → About (grid binary32 num den) (num * ONE) den
about_grid num den D =
    let m = moved num den D in
    let g = grid binary32 num den in
    record { high = moved_high ONE (num * ONE) den g m; low = moved_low ONE (num * ONE) den g m }

near_round : (s : Bool) (num den : ℕ) → 0 < den → num < 2 ^ 127 * den → Near (round binary32 s num den) num den
near_round s num den D h = record { n = grid binary32 num den; is = record { sign = s; has = round_value s num den D h }; about = about_grid num den D }

-- one factor of both left out
less_factor : (n x d u : ℕ) → 0 < u → About n (x * u) (d * u) → About n x d
less_factor n x d u U a = record { high = le_of_mul-le-mul_right (up a.high) U; low = le_of_mul-le-mul_right (down a.low) U }
  where
    up : 33554432 * n * (d * u) ≤ 33554434 * (x * u) + 16777216 * (d * u) → 33554432 * n * d * u ≤ (33554434 * x + 16777216 * d) * u
    up h = omega arith

    down : 33554430 * (x * u) ≤ 33554432 * n * (d * u) + 16777216 * (d * u) → 33554430 * x * u ≤ (33554432 * n * d + 16777216 * d) * u
    down h = omega arith

-- ---- the operations
-- what a product gives
pub record Product (a b : ℕ) (f : Float) : Type 0 where
  pub n : ℕ
  pub is : In n f
  pub about : About n (a * b) ONE

product_same : (a b m n e d U : ℕ) → m * U ≡ a * e → n * U ≡ b * d → m * n * (U * U) ≡ a * b * (e * d)
product_same a b m n e d U v w = l m n U ∙ ap (λ (z : ℕ). z * (n * U)) v ∙ ap (λ (z : ℕ). a * e * z) w ∙ r a b e d
  where
    l : (m n U : ℕ) → m * n * (U * U) ≡ m * U * (n * U)
    l m n U = omega arith

    r : (a b e d : ℕ) → a * e * (b * d) ≡ a * b * (e * d)
    r a b e d = omega arith

pub in_mul : {a b : ℕ} (x y : Float) → In a x → In b y → a * b < 2 ^ 127 * (ONE * ONE) → Product a b (mul binary32 x y)
unfolding mul
in_mul nan y i j h = absurd i.has
in_mul (inf s) y i j h = absurd i.has
in_mul (fin s m e) nan i j h = absurd j.has
in_mul (fin s m e) (inf t) i j h = absurd j.has
in_mul {a} {b} (fin s m e) (fin t n d) i j h =
    let U = pow_pos 149 in
    let r = near_round (unlike s t) (a * b) (ONE * ONE) (mul-pos U U) h in
    let o : In r.n (round binary32 (unlike s t) (m * up e * (n * up d)) (down e * down d)) =
    subst (λ (f : Float). In r.n f)
    (round_same binary32 (unlike s t) (a * b) (ONE * ONE) (m * up e * (n * up d)) (down e * down d) (mul-pos U U) (mul-pos (down_pos e) (down_pos d)) (sym (product_same a b (m * up e) (n * up d) (down e) (down d) ONE i.has.1 j.has.1)))
    r.is in
    record { n = r.n; is = o; about = less_factor r.n (a * b) ONE ONE U r.about }

-- what a square gives: it is not below zero
pub record Square (a : ℕ) (f : Float) : Type 0 where
  pub n : ℕ
  pub has : HasValue f false n ONE
  pub about : About n (a * a) ONE

pub in_square : {a : ℕ} (x : Float) → In a x → a * a < 2 ^ 127 * (ONE * ONE) → Square a (mul binary32 x x)
in_square {a} x i h =
    let U = pow_pos 149 in
    let g = grid binary32 (a * a) (ONE * ONE) in
    record {
      n = g;
      has = subst (λ (f : Float). HasValue f false g ONE) (sym (square_is x i.sign a ONE U i.has)) (round_value false (a * a) (ONE * ONE) (mul-pos U U) h);
      about = less_factor g (a * a) ONE ONE U (about_grid (a * a) (ONE * ONE) (mul-pos U U));
    }

-- two factors that are small enough
pub small_product : (a b i j U : ℕ) → a ≤ i * U → b ≤ j * U → 0 < U → i * j < 2 ^ 127 → a * b < 2 ^ 127 * (U * U)
small_product a b i j U h k P l = lt_of_le_of_lt (le_trans (mul-le-mul h k) (le_of_eq (shape i j U))) (mul-lt-mul_of_pos_right l (mul-pos P P))
  where
    shape : (i j U : ℕ) → i * U * (j * U) ≡ i * j * (U * U)
    shape i j U = omega arith

-- the units of a product one of whose factors is at most k in size
scaled : (n a b k U : ℕ) → 0 < U → b ≤ k * U → 33554432 * n * U ≤ 33554434 * (a * b) + 16777216 * U → 33554432 * n ≤ 33554434 * (k * a) + 16777216
scaled n a b k U P l h = le_of_mul-le-mul_right (mid (mul-le-mul_left a l)) P
  where
    mid : a * b ≤ a * (k * U) → 33554432 * n * U ≤ (33554434 * (k * a) + 16777216) * U
    mid g = omega arith

pub by_second : {a b : ℕ} {f : Float} (k : ℕ) (p : Product a b f) → b ≤ k * ONE → 33554432 * p.n ≤ 33554434 * (k * a) + 16777216
by_second {a} {b} k p l = scaled p.n a b k ONE (pow_pos 149) l p.about.high

pub by_first : {a b : ℕ} {f : Float} (k : ℕ) (p : Product a b f) → a ≤ k * ONE → 33554432 * p.n ≤ 33554434 * (k * b) + 16777216
by_first {a} {b} k p l = scaled p.n b a k ONE (pow_pos 149) l (subst (λ (z : ℕ). 33554432 * p.n * ONE ≤ 33554434 * z + 16777216 * ONE) (mul_comm a b) p.about.high)

pub of_square : {a : ℕ} {f : Float} (k : ℕ) (p : Square a f) → a ≤ k * ONE → 33554432 * p.n ≤ 33554434 * (k * a) + 16777216
of_square {a} k p l = scaled p.n a a k ONE (pow_pos 149) l p.about.high

-- what a sum or a difference gives, at most
pub record Sum (a b : ℕ) (f : Float) : Type 0 where
  pub n : ℕ
  pub is : In n f
  pub high : 33554432 * n ≤ 33554434 * (a + b) + 16777216

-- a numerator that is at most that of a + b
sum_at : (a b : ℕ) (s : Bool) (N A B C : ℕ) → 0 < C → A * ONE ≡ a * C → B * ONE ≡ b * C → N ≤ A + B → a + b < 2 ^ 127 * ONE → Sum a b (round binary32 s N C)
sum_at a b s N A B C D p q l h =
    let r = near_round s N C D (bounded N A B C a b (2 ^ 127) ONE D p q l h) in
    record { n = r.n; is = r.is; high = le_of_mul-le-mul_right (top r.n N A B C a b ONE p q l r.about.high) D }
  where
    bounded : (N A B C a b L U : ℕ) → 0 < C → A * U ≡ a * C → B * U ≡ b * C → N ≤ A + B → a + b < L * U → N < L * C
    bounded N A B C a b L U P v w k g = lt_of_mul-lt-mul_right U (lt_of_le_of_lt (mul-le-mul_right U k) (crossed (mul-lt-mul_of_pos_right g P)))
      where
        crossed : (a + b) * C < L * U * C → (A + B) * U < L * C * U
        crossed j = omega arith

    top : (n N A B C a b U : ℕ) → A * U ≡ a * C → B * U ≡ b * C → N ≤ A + B → 33554432 * n * C ≤ 33554434 * (N * U) + 16777216 * C → 33554432 * n * C ≤ (33554434 * (a + b) + 16777216) * C
    top n N A B C a b U v w k g = let j : N * U ≤ (A + B) * U = mul-le-mul_right U k in omega arith

pub in_add : {a b : ℕ} (x y : Float) → In a x → In b y → a + b < 2 ^ 127 * ONE → Sum a b (add binary32 x y)
unfolding add
in_add nan y i j h = absurd i.has
in_add (inf s) y i j h = absurd i.has
in_add (fin s m e) nan i j h = absurd j.has
in_add (fin s m e) (inf t) i j h = absurd j.has
in_add {a} {b} (fin s m e) (fin t n d) i j h = go (beq s t) (ltb A B)
  where
    A : ℕ
    A = m * up e * down d

    B : ℕ
    B = n * up d * down e

    C : ℕ
    C = down e * down d

    shape : (m k U a c : ℕ) → m * U ≡ a * c → m * k * U ≡ a * (c * k)
    shape m k U a c v = let w : m * U * k ≡ a * c * k = ap (λ (z : ℕ). z * k) v in omega arith

    first : A * ONE ≡ a * C
    first = shape (m * up e) (down d) ONE a (down e) i.has.1

    second : B * ONE ≡ b * C
    second = shape (n * up d) (down e) ONE b (down d) j.has.1 ∙ ap (λ (z : ℕ). b * z) (mul_comm (down d) (down e))

    at : (r : Bool) (N : ℕ) → N ≤ A + B → Sum a b (round binary32 r N C)
    at r N l = sum_at a b r N A B C (mul-pos (down_pos e) (down_pos d)) first second l h

    go : (p q : Bool) → Sum a b (cond p (round binary32 s (A + B) C) (cond q (round binary32 t (B - A) C) (round binary32 (s && ltb B A) (A - B) C)))
    go true q = at s (A + B) (le_refl (A + B))
    go false true = at t (B - A) (omega arith)
    go false false = at (s && ltb B A) (A - B) (omega arith)

pub in_sub : {a b : ℕ} (x y : Float) → In a x → In b y → a + b < 2 ^ 127 * ONE → Sum a b (sub binary32 x y)
unfolding sub
in_sub x y i j h = in_add x (neg y) i (in_neg y j) h

-- the sum of two that are not below zero: it is not below zero, and it is not far below a + b either
pub record ClearSum (a b : ℕ) (f : Float) : Type 0 where
  pub n : ℕ
  pub has : HasValue f false n ONE
  pub about : About n (a + b) 1

pub clear_add : {a b : ℕ} (x y : Float) → HasValue x false a ONE → HasValue y false b ONE → a + b < 2 ^ 127 * ONE → ClearSum a b (add binary32 x y)
clear_add {a} {b} x y v w h =
    let g = grid binary32 (a + b) ONE in
    let e = sym (add_is x y a b ONE (pow_pos 149) v w) in
    let one : (z : ℕ) → 1 * z ≡ z = λ z. omega arith in
    record {
      n = g;
      has = subst (λ (f : Float). HasValue f false g ONE) e (round_value false (a + b) ONE (pow_pos 149) h);
      about = less_factor g (a + b) 1 ONE (pow_pos 149) (rw (one ONE) (about_grid (a + b) ONE (pow_pos 149)));
    }

-- what a quotient gives
pub record Quotient (a b : ℕ) (f : Float) : Type 0 where
  pub n : ℕ
  pub is : In n f
  pub about : About n (a * ONE) b

pub in_div : {a b : ℕ} (x y : Float) → In a x → In b y → 0 < b → a < 2 ^ 127 * b → Quotient a b (div binary32 x y)
unfolding div
in_div nan y i j p h = absurd i.has
in_div (inf s) y i j p h = absurd i.has
in_div (fin s m e) nan i j p h = absurd j.has
in_div (fin s m e) (inf t) i j p h = absurd j.has
in_div {a} {b} (fin s m e) (fin t n d) i j p h =
    let N = some (n * up d) (down d) ONE b (down_pos d) p j.has.1 in
    rw (ne_eqb n 0 (λ z. lt_irrefl 0 (subst (λ (k : ℕ). 0 < k) (ap (λ (k : ℕ). k * up d) z ∙ zero-mul (up d)) N)))
    (record { n = r.n; is = subst (λ (f : Float). In r.n f) (same N) r.is; about = r.about })
  where
    some : (n c U b : ℕ) → 0 < c → 0 < b → n * U ≡ b * c → 0 < n
    some zero c U b C P v = absurd (lt_irrefl 0 (subst (λ (k : ℕ). 0 < k) (sym v ∙ zero-mul U) (mul-pos P C)))
    some (suc n) c U b C P v = zero-lt-suc n

    cross : (a b m n e d U : ℕ) → 0 < U → m * U ≡ a * e → n * U ≡ b * d → a * (n * e) ≡ m * d * b
    cross a b m n e d U P v w = eq_of_mul-eq-mul_right U P (a * (n * e)) (m * d * b) (both (ap (λ (z : ℕ). a * e * z) w) (ap (λ (z : ℕ). z * (d * b)) v))
      where
        both : a * e * (n * U) ≡ a * e * (b * d) → m * U * (d * b) ≡ a * e * (d * b) → a * (n * e) * U ≡ m * d * b * U
        both k l = omega arith

    r : Near (round binary32 (unlike s t) a b) a b
    r = near_round (unlike s t) a b p h

    same : 0 < n * up d → round binary32 (unlike s t) a b ≡ round binary32 (unlike s t) (m * up e * down d) (n * up d * down e)
    same N = round_same binary32 (unlike s t) a b (m * up e * down d) (n * up d * down e) p (mul-pos N (down_pos e)) (cross a b (m * up e) (n * up d) (down e) (down d) ONE (pow_pos 149) i.has.1 j.has.1)
