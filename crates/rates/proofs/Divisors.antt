-- No divisor is left that is zero: where H is not zero, H-as-H, F and F-as-F are above zero too. And how large a root of a sum of squares is against what is squared, in units of 2 ^ -149. Assumes nothing.
use mathlib.Core.Path.{◌≡◌, refl, sym, ◌∙◌, subst}
use mathlib.Core.Bool.{Bool, true, false, not, true≢false}
use Prim.Native.Nat.{ℕ, zero, suc, ◌+◌, ◌*◌, ◌^◌, ◌≤◌, ◌<◌}
use native.Mathlib.Nat.{mul_assoc, le_of_lt, le_trans, le_of_eq, lt_irrefl, lt_of_lt_of_le, mul-le-mul, mul-le-mul_left, mul-le-mul_right, mul-pos, mul-one, zero-lt-suc, zero-mul}
use native.Mathlib.Omega.{arith}
use borrow.Author.Tests.{ne_eqb}
use lib.Dec.{T, leb, leb→le, nleb→lt, lit≤, lit<}
use lib.Pow.{pow_pos}
use lib.IntN.{pos}
use lib.Ieee.{Float, nan, inf, fin, binary32, up, down, fits, of_bits, add, mul, eq, le}
use lib.Ieee.Exact.{HasValue}
use lib.Ieee.Fits.{add-fits, up_pos}
use lib.Ieee.Positive.{positive, positive_of_value, values_of_le}
use Rattle.exact.specs.Exact.{units_of}
use Rattle.exact.proofs.Units.{ONE, In, Square, ClearSum, clear_add, in_square, of_square, one_number, small_product}
use Rattle.roots.specs.Root.{sqrt_of}
use Rattle.roots.proofs.Laws.{is_root, own_units, squared}
use Rattle.strengths.specs.Strengths.{hypot_of}

-- ---- the root of a·a + b·b, where it is not zero; a and b are A and B units
-- a zero is its own root
root_some : (x : Float) (s : ℕ) → HasValue x false s ONE → eq (sqrt_of x) (of_bits binary32 0) ≡ false → 0 < s
unfolding eq of_bits sqrt_of
root_some nan s v e = absurd v
root_some (inf t) s v e = absurd v
root_some (fin true m d) s v e = absurd (true≢false v.0)
root_some (fin false zero d) s v e = absurd (true≢false (simp zero-mul at e))
root_some (fin false (suc m) d) zero v e = absurd (lt_irrefl 0 (subst (λ (k : ℕ). 0 < k) (v.1 ∙ zero-mul (down d)) (mul-pos (mul-pos (zero-lt-suc m) (up_pos d)) (pow_pos 149))))
root_some (fin false (suc m) d) (suc s) v e = zero-lt-suc s

by_squares : (a n : ℕ) → 4 * (a * a) ≤ 9 * (n * n) → 2 * a ≤ 3 * n
by_squares a n h = go (leb (2 * a) (3 * n)) (leb→le (2 * a) (3 * n)) (nleb→lt (2 * a) (3 * n))
  where
    go : (b : Bool) → (T b → 2 * a ≤ 3 * n) → (T (not b) → 3 * n < 2 * a) → 2 * a ≤ 3 * n
    go true p q = p tt
    go false p q =
        let j : 3 * n < 2 * a = q tt in
        let l : 3 * n + 1 ≤ 2 * a = omega arith in
        let k : (3 * n + 1) * (3 * n + 1) ≤ 2 * a * (2 * a) = mul-le-mul l l in
        absurd (omega arith)

-- from the roundings of the squares, of their sum and of the root: P, Q and S their units, n the root's
against : (AA P Q S nn U : ℕ) → 33554430 * AA ≤ 33554432 * P * U + 16777216 * U → 33554430 * (P + Q) ≤ 33554432 * S * 1 + 16777216 * 1 → 8388608 * (S * U) ≤ 8388609 * nn → 0 < S → 4 * AA ≤ 9 * nn
against AA P Q S nn U a b c s =
    let d : 33554430 * (P + Q) * U ≤ (33554432 * S * 1 + 16777216 * 1) * U = mul-le-mul_right U b in
    let e : 1 * U ≤ S * U = mul-le-mul_right U s in
    omega arith

ones : (s U : ℕ) → 0 < s → U ≤ s * U
ones s U h = let k : 1 * U ≤ s * U = mul-le-mul_right U h in omega arith

-- the root of a number above zero is not zero
not_null : (x : Float) → T (positive x) → eq x (of_bits binary32 0) ≡ false
unfolding eq of_bits
not_null nan p = absurd p
not_null (inf s) p = refl
not_null (fin true m e) p = absurd p
not_null (fin false zero e) p = absurd p
not_null (fin false (suc m) e) p = rw (ne_eqb (suc m * up e * 1) (0 * down e) (λ z. lt_irrefl 0 (subst (λ (k : ℕ). 0 < k) (z ∙ zero-mul (down e)) (mul-pos (mul-pos (zero-lt-suc m) (up_pos e)) (lit< tt))))) refl

-- what is known of such a root
pub record Rooted (A B : ℕ) (r : Float) : Type 0 where
  pub n : ℕ
  pub has : HasValue r false n ONE
  pub first : 2 * A ≤ 3 * n
  pub second : 2 * B ≤ 3 * n
  pub least : 8388608 * ONE ≤ 8388609 * (n * n)

module _ {A B : ℕ} (a b : Float) (i : In A a) (j : In B b) (k : ℕ) (l : A ≤ k * ONE) (m : B ≤ k * ONE) (c : k * k < 2 ^ 125) where
  wide : k * k < 2 ^ 127
  wide = lt_of_lt_of_le c (lit≤ tt)

  pub aa : Square A (mul binary32 a a)
  aa = in_square a i (small_product A A k k ONE l l (pow_pos 149) wide)

  bb : Square B (mul binary32 b b)
  bb = in_square b j (small_product B B k k ONE m m (pow_pos 149) wide)

  -- the two squares together are far from overflow
  half : (n X : ℕ) → X ≤ k * ONE → 33554432 * n ≤ 33554434 * (k * X) + 16777216 → n < 2 * (2 ^ 125 * ONE)
  half n X h f = go (k * X) (2 ^ 125 * ONE) (le_trans (mul-le-mul_left k h) (le_trans (le_of_eq (sym (mul_assoc k k ONE))) (mul-le-mul_right ONE (le_of_lt c)))) (mul-pos (pow_pos 125) (pow_pos 149)) f
    where
      go : (Z W : ℕ) → Z ≤ W → 0 < W → 33554432 * n ≤ 33554434 * Z + 16777216 → n < 2 * W
      go Z W z w g = omega arith

  summed : ClearSum aa.n bb.n (add binary32 (mul binary32 a a) (mul binary32 b b))
  summed =
      clear_add (mul binary32 a a) (mul binary32 b b) aa.has bb.has
      (both aa.n bb.n (2 ^ 125) ONE (half aa.n A l (of_square k aa l)) (half bb.n B m (of_square k bb m)))
    where
      both : (x y L U : ℕ) → x < 2 * (L * U) → y < 2 * (L * U) → x + y < 4 * L * U
      both x y L U p q = omega arith

  -- where the square of a is not zero, the root is not
  pub not_zero : 0 < aa.n → eq (hypot_of a b) (of_bits binary32 0) ≡ false
  not_zero h =
      let t = add binary32 (mul binary32 a a) (mul binary32 b b) in
      let p = positive_of_value t summed.n ONE summed.has (go aa.n bb.n summed.n h summed.about.low) in
      not_null (sqrt_of t) (is_root t (add-fits binary32 (mul binary32 a a) (mul binary32 b b)) p).above_zero
    where
      go : (P Q S : ℕ) → 0 < P → 33554430 * (P + Q) ≤ 33554432 * S * 1 + 16777216 * 1 → 0 < S
      go P Q zero h l = absurd (omega arith)
      go P Q (suc S) h l = zero-lt-suc S

  module _ (e : eq (hypot_of a b) (of_bits binary32 0) ≡ false) where
    abbrev s : Float
    s = add binary32 (mul binary32 a a) (mul binary32 b b)

    some : 0 < summed.n
    some = root_some s summed.n summed.has e

    above : T (positive s)
    above = positive_of_value s summed.n ONE summed.has some

    held : T (fits binary32 s)
    held = add-fits binary32 (mul binary32 a a) (mul binary32 b b)

    n_is : HasValue (sqrt_of s) false (units_of (sqrt_of s)) ONE
    n_is = let r = is_root s held above in own_units (sqrt_of s) r.held r.above_zero

    s_is : units_of s ≡ summed.n
    s_is = one_number s (record { sign = false; has = own_units s held above }) (record { sign = false; has = summed.has })

    near : 8388608 * (summed.n * ONE) ≤ 8388609 * (units_of (sqrt_of s) * units_of (sqrt_of s))
    near = subst (λ (z : ℕ). 8388608 * (z * ONE) ≤ 8388609 * (units_of (sqrt_of s) * units_of (sqrt_of s))) s_is (squared s held above).0

    pub rooted : Rooted A B (hypot_of a b)
    rooted =
        let n = units_of (sqrt_of s) in
        let t = summed.about.low in
        let u : 33554430 * (bb.n + aa.n) ≤ 33554432 * summed.n * 1 + 16777216 * 1 = omega arith in
        record {
          n = n;
          has = n_is;
          first = by_squares A n (against (A * A) aa.n bb.n summed.n (n * n) ONE aa.about.low t near some);
          second = by_squares B n (against (B * B) bb.n aa.n summed.n (n * n) ONE bb.about.low u near some);
          least = le_trans (mul-le-mul_left 8388608 (ones summed.n ONE some)) near;
        }

-- ---- the square of such a root is above zero too
pub record Squared (n : ℕ) (r : Float) : Type 0 where
  pub m : ℕ
  pub has : HasValue (mul binary32 r r) false m ONE
  pub some : 0 < m
  pub least : 33554430 * (n * n) ≤ 50331648 * (m * ONE)

square_some : (nn m U : ℕ) → 0 < U → 8388608 * U ≤ 8388609 * nn → 33554430 * nn ≤ 33554432 * m * U + 16777216 * U → 0 < m
square_some nn zero U P a b = let c : 33554432 * 0 * U ≡ 0 = zero-mul U in absurd (omega arith)
square_some nn (suc m) U P a b = zero-lt-suc m

pub square_above : {A B : ℕ} {r : Float} (x : Rooted A B r) (k : ℕ) → x.n ≤ k * ONE → k * k < 2 ^ 127 → Squared x.n r
square_above {r = r} x k l c =
    let n = x.n in
    let q = in_square r (record { sign = false; has = x.has }) (small_product n n k k ONE l l (pow_pos 149) c) in
    let p = square_some (n * n) q.n ONE (pow_pos 149) x.least q.about.low in
    record { m = q.n; has = q.has; some = p; least = most (n * n) q.n ONE p q.about.low }
  where
    most : (nn m U : ℕ) → 0 < m → 33554430 * nn ≤ 33554432 * m * U + 16777216 * U → 33554430 * nn ≤ 50331648 * (m * U)
    most nn m U p h = let u = ones m U p in omega arith

-- and the root itself is at least 2 ^ 74 units
pub root_large : {A B : ℕ} {r : Float} (x : Rooted A B r) → 2 ^ 74 ≤ x.n
root_large x = go x.n (leb (2 ^ 74) x.n) (leb→le (2 ^ 74) x.n) (nleb→lt (2 ^ 74) x.n) x.least
  where
    less : (n W1 : ℕ) → n < W1 → n * n ≤ W1 * W1
    less n W1 h = mul-le-mul (le_of_lt h) (le_of_lt h)

    go : (n : ℕ) (b : Bool) → (T b → 2 ^ 74 ≤ n) → (T (not b) → n < 2 ^ 74) → 8388608 * ONE ≤ 8388609 * (n * n) → 2 ^ 74 ≤ n
    go n true p q h = p tt
    go n false p q h = absurd (lt_irrefl (8388609 * (2 ^ 74 * 2 ^ 74)) (lt_of_lt_of_le (lit< tt) (le_trans h (mul-le-mul_left 8388609 (less n (2 ^ 74) (q tt))))))

-- and at most 2 ^ k, where a test of its size says so
pub root_most : {A B : ℕ} (f : Float) (k : ℕ) (x : Rooted A B f) → T (le f (fin false 1 (pos k))) → x.n ≤ 2 ^ k * ONE
root_most f k x t =
    let p = positive_of_value f x.n ONE x.has (lt_of_lt_of_le (lit< tt) (root_large x)) in
    let l = values_of_le f (fin false 1 (pos k)) x.n ONE (2 ^ k) 1 p tt x.has (refl, one (2 ^ k)) t in
    le_trans (le_of_eq (sym (mul-one x.n))) l
  where
    one : (z : ℕ) → 1 * z * 1 ≡ z * 1
    one z = omega arith

pub in_root : {A B : ℕ} {f : Float} (x : Rooted A B f) → In x.n f
in_root x = record { sign = false; has = x.has }

pub square_in : {n : ℕ} {f : Float} (x : Squared n f) → In x.m (mul binary32 f f)
square_in x = record { sign = false; has = x.has }
