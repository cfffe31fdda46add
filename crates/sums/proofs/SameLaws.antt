-- Every f32 operation keeps numbers the same that are the same but for a zero's sign.
use mathlib.Core.Path.{◌≡◌, refl, ap}
use Prim.Native.Nat.{ℕ, zero, suc, ◌*◌, ◌<◌}
use native.Mathlib.Nat.{mul-pos, zero-lt-suc, zero-add, add-zero, sub-zero, mul-zero}
use native.Mathlib.Omega.{arith}
use mathlib.Core.Bool.{Bool, true, false}
use lib.Dec.{T, eqb-suc-zero}
use borrow.Author.Tests.{lt-ltb, le-ltb}
use lib.Ieee.{Float, nan, inf, fin, binary32, up, down, round, sum, add, sub, mul, neg, div}
use lib.Ieee.Fits.{up_pos, down_pos}
use lib.Ieee.Scale.{finite}
use Rattle.exact.specs.Tests.{abs}
use Rattle.exact.proofs.Range.{round_null}
use Rattle.sums.specs.Arithmetic.{rounded}
use Rattle.sums.specs.Same.{Same, null, same, zeros}
use Rattle.sums.proofs.Related.{Related}

pub same_trans : {x y z : Float} → Same x y → Same y z → Same x z
same_trans same q = q
same_trans (zeros s t) same = zeros s t
same_trans (zeros s t) (zeros u v) = zeros s v

-- what equals the same numbers is the same
pub by_same : {x y x' y' : Float} → x ≡ x' → y ≡ y' → Same x' y' → Same x y
by_same p q h = rw (p, q) h

-- nought rounds to the same zero but for its sign
nulls : (s t : Bool) (a c : ℕ) → a ≡ 0 → 0 < c → Same (round binary32 s a c) (round binary32 t a c)
nulls s t a c e C = by_same (round_null s a c e C) (round_null t a c e C) (zeros s t)

-- ---- a zero added: beside another zero the sum is a zero, beside another number its sign is lost
sum_null : (s t : Bool) (c : ℕ) → 0 < c → (r : Bool) × (sum binary32 s 0 t 0 c ≡ null r)
unfolding sum
sum_null true true c C = (true, round_null true 0 c refl C)
sum_null true false c C = (false, round_null false 0 c refl C)
sum_null false true c C = (false, round_null false 0 c refl C)
sum_null false false c C = (false, round_null false 0 c refl C)

sum_nulls : (s t u v : Bool) (c : ℕ) → 0 < c → Same (sum binary32 s 0 u 0 c) (sum binary32 t 0 v 0 c)
sum_nulls s t u v c C = let p = sum_null s u c C in let q = sum_null t v c C in by_same p.1 q.1 (zeros p.0 q.0)

sum_left : (s t : Bool) (b c : ℕ) → sum binary32 s 0 t (suc b) c ≡ round binary32 t (suc b) c
unfolding sum
sum_left true true b c = ap (λ (z : ℕ). round binary32 true z c) (zero-add (suc b))
sum_left true false b c = rw (lt-ltb 0 (suc b) (zero-lt-suc b), sub-zero)
sum_left false true b c = rw (lt-ltb 0 (suc b) (zero-lt-suc b), sub-zero)
sum_left false false b c = ap (λ (z : ℕ). round binary32 false z c) (zero-add (suc b))

pub sum_right : (s t : Bool) (b c : ℕ) → sum binary32 t (suc b) s 0 c ≡ round binary32 t (suc b) c
unfolding sum
sum_right true true b c = ap (λ (z : ℕ). round binary32 true z c) (add-zero (suc b))
sum_right true false b c = rw (le-ltb (suc b) 0 (omega arith), sub-zero)
sum_right false true b c = rw (le-ltb (suc b) 0 (omega arith), lt-ltb 0 (suc b) (zero-lt-suc b), sub-zero)
sum_right false false b c = ap (λ (z : ℕ). round binary32 false z c) (add-zero (suc b))

null_left : (s t u : Bool) (a b c : ℕ) → a ≡ 0 → 0 < c → Same (sum binary32 s a u b c) (sum binary32 t a u b c)
null_left s t u a zero c e C = rw e (sum_nulls s t u u c C)
null_left s t u a (suc b) c e C = rw e (by_same (sum_left s u b c) (sum_left t u b c) same)

null_right : (s t u : Bool) (a b c : ℕ) → a ≡ 0 → 0 < c → Same (sum binary32 u b s a c) (sum binary32 u b t a c)
null_right s t u a zero c e C = rw e (sum_nulls u u s t c C)
null_right s t u a (suc b) c e C = rw e (by_same (sum_right s u b c) (sum_right t u b c) same)

-- zero times anything, as a sum and a product write it
pub gone : (a b : ℕ) → 0 * a * b ≡ 0
gone a b = omega arith

pub add_left : (s t : Bool) (y : Float) → Same (add binary32 (null s) y) (add binary32 (null t) y)
unfolding add
add_left s t nan = same
add_left s t (inf u) = same
add_left s t (fin u n d) = null_left s t u _ _ _ (gone 1 (down d)) (mul-pos (zero-lt-suc 0) (down_pos d))

pub add_right : (s t : Bool) (x : Float) → Same (add binary32 x (null s)) (add binary32 x (null t))
unfolding add
add_right s t nan = same
add_right s t (inf u) = same
add_right s t (fin u n d) = null_right s t u _ _ _ (gone 1 (down d)) (mul-pos (down_pos d) (zero-lt-suc 0))

pub add_same : {x x' y y' : Float} → Same x x' → Same y y' → Same (add binary32 x y) (add binary32 x' y')
unfolding add
add_same same same = same
add_same {x} same (zeros s t) = add_right s t x
add_same {y = y} (zeros s t) same = add_left s t y
add_same (zeros s t) (zeros u v) = sum_nulls s t u v 1 (zero-lt-suc 0)

pub neg_same : {x y : Float} → Same x y → Same (neg x) (neg y)
unfolding neg
neg_same same = same
neg_same (zeros s t) = zeros _ _

pub sub_same : {x x' y y' : Float} → Same x x' → Same y y' → Same (sub binary32 x y) (sub binary32 x' y')
unfolding sub
sub_same p q = add_same p (neg_same q)

-- ---- a product with a zero, and a zero divided
mul_left : (s t : Bool) (y : Float) → Same (mul binary32 (null s) y) (mul binary32 (null t) y)
unfolding mul
mul_left s t nan = same
mul_left s t (inf u) = same
mul_left s t (fin u n d) = nulls _ _ _ _ (gone 1 (n * up d)) (mul-pos (zero-lt-suc 0) (down_pos d))

mul_right : (s t : Bool) (x : Float) → Same (mul binary32 x (null s)) (mul binary32 x (null t))
unfolding mul
mul_right s t nan = same
mul_right s t (inf u) = same
mul_right s t (fin u n d) = nulls _ _ _ _ (mul-zero (n * up d)) (mul-pos (down_pos d) (zero-lt-suc 0))

pub mul_same : {x x' y y' : Float} → Same x x' → Same y y' → Same (mul binary32 x y) (mul binary32 x' y')
unfolding mul
mul_same same same = same
mul_same {x} same (zeros s t) = mul_right s t x
mul_same {y = y} (zeros s t) same = mul_left s t y
mul_same (zeros s t) (zeros u v) = nulls _ _ 0 1 refl (zero-lt-suc 0)

-- zero times a finite number is a zero
pub null_times : (s : Bool) (x y : Float) → T (finite x) → T (finite y) → Same (mul binary32 (null s) x) (mul binary32 (null s) y)
unfolding mul
null_times s nan y f g = elim f [ ]
null_times s (inf _) y f g = elim f [ ]
null_times s (fin t m e) nan f g = elim g [ ]
null_times s (fin t m e) (inf _) f g = elim g [ ]
null_times s (fin t m e) (fin u n d) f g =
    by_same (round_null _ _ _ (gone 1 (m * up e)) (mul-pos (zero-lt-suc 0) (down_pos e))) (round_null _ _ _ (gone 1 (n * up d)) (mul-pos (zero-lt-suc 0) (down_pos d))) (zeros _ _)

div_left : (s t : Bool) (y : Float) → Same (div binary32 (null s) y) (div binary32 (null t) y)
unfolding div
div_left s t nan = same
div_left s t (inf u) = zeros _ _
div_left s t (fin u zero d) = same
div_left s t (fin u (suc n) d) = rw (eqb-suc-zero n) (nulls _ _ _ _ (gone 1 (down d)) (mul-pos (mul-pos (zero-lt-suc n) (up_pos d)) (zero-lt-suc 0)))

pub div_same : {x x' : Float} (y : Float) → Same x x' → Same (div binary32 x y) (div binary32 x' y)
div_same y same = same
div_same y (zeros s t) = div_left s t y

-- a square's sign is clear
pub square_same : {x y : Float} → Same x y → mul binary32 x x ≡ mul binary32 y y
unfolding mul
square_same same = refl
square_same (zeros true true) = refl
square_same (zeros true false) = refl
square_same (zeros false true) = refl
square_same (zeros false false) = refl

-- a size has no sign
pub abs_same : {x y : Float} → Same x y → abs x ≡ abs y
abs_same same = refl
abs_same (zeros s t) = refl

-- every operation of the code keeps them the same
pub same_related : Related rounded rounded Same
unfolding rounded
same_related = record { plus = add_same; less = sub_same; times = mul_same; opp = neg_same; over = div_same; num = λ f. same }
