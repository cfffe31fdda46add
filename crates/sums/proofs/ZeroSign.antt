-- A sum that begins with +0 never comes to -0, so the sign of a zero that is added to it is not seen.
use mathlib.Core.Path.{◌≡◌, refl, sym, ap, ap₂, ◌∙◌, subst}
use Prim.Native.Nat.{ℕ, zero, suc, ◌+◌, ◌-◌, ◌*◌, ◌/◌, ◌%◌, ◌^◌, ◌≤◌, ◌<◌, compare}
use native.Mathlib.Nat.{mul-one, one-mul, mul_assoc, mul_comm, mul_right_comm, mul-pos, zero-lt-suc, not-suc-le-zero, add-mul, mul-le-mul_left, mul-div_cancel, zero-mul, mul-lt-mul_of_pos_right, lt_of_mul-lt-mul_right}
use native.Mathlib.Omega.{arith}
use mathlib.Core.Bool.{Bool, true, false, cond}
use borrow.Author.Tests.{ltb-true}
use lib.Dec.{T, ltb}
use lib.Pow.{pow_pos}
use lib.IntN.{ℤ}
use lib.Ieee.{Float, nan, inf, fin, binary32, up, down, nearest, round, units, odd, size, sum, add, fits, of_int}
use lib.Ieee.Digits.{size-lt, size_reaches}
use lib.Ieee.Exact.{HasValue, odd_sign}
use lib.Ieee.Fits.{down_pos, up_pos, round_is, add-fits}
use lib.Ieee.Nearest.{nearest-ge, div_mono}
use Rattle.exact.proofs.Round.{whole_units}
use Rattle.sums.specs.Arithmetic.{rounded}
use Rattle.sums.specs.Recurrence.{Input, lit, total}
use Rattle.sums.specs.Same.{Same, null, same, zeros}
use Rattle.sums.proofs.SameLaws.{gone, sum_right}

-- not -0
unfoldable pub proper : Float → Bool
proper nan = true
proper (inf s) = true
proper (fin false m e) = true
proper (fin true zero e) = false
proper (fin true (suc m) e) = true

-- ---- what rounds to -0
value_proper : (x : Float) (s : Bool) (a c : ℕ) → 0 < a → HasValue x s a c → T (proper x)
unfolding proper
value_proper nan s a c p h = tt
value_proper (inf t) s a c p h = tt
value_proper (fin false m e) s a c p h = tt
value_proper (fin true zero e) s a c p h = let d = mul-pos p (down_pos e) in absurd (omega (arith, h.1))
value_proper (fin true (suc m) e) s a c p h = tt

units_proper : (s : Bool) (q k : ℕ) → 0 < q → T (proper (units binary32 s q k))
unfolding units proper
units_proper s q k p = go (ltb (q * 2 ^ k) (2 ^ (149 + 128)))
  where
    go : (b : Bool) → T (proper (cond b (odd 25 s q k 149) (inf s)))
    go true = value_proper (odd 25 s q k 149) s (q * 2 ^ k) (2 ^ 149) (mul-pos p (pow_pos k)) (odd_sign 25 s q k 149)
    go false = tt

clear_proper : (q k : ℕ) → T (proper (units binary32 false q k))
unfolding units odd proper
clear_proper q k = go (ltb (q * 2 ^ k) (2 ^ (149 + 128))) q
  where
    go : (b : Bool) (r : ℕ) → T (proper (cond b (odd 25 false r k 149) (inf false)))
    go true zero = tt
    go true (suc r) = tt
    go false r = tt

round_clear : (num den : ℕ) → T (proper (round binary32 false num den))
round_clear num den = subst (λ (x : Float). T (proper x)) (sym (round_is binary32 false num den)) (clear_proper _ _)

-- a whole number of units, more than none
kept_some : (n : ℕ) → 0 < n → 2 ^ (size n - 24) ≤ n
kept_some n p =
    let h : n < 2 ^ size n = size-lt n in
    go (size n) refl h
  where
    go : (z : ℕ) → size n ≡ z → n < 2 ^ z → 2 ^ (size n - 24) ≤ n
    go zero e h = absurd (omega arith)
    go (suc z) e h = size_reaches n (size n - 24) (omega arith)

enough : (a den n k : ℕ) → a ≡ n * den → 2 ^ k ≤ n → 1 * (den * 2 ^ k) ≤ a * 1
enough a den n k e l = rw (e, one-mul (den * 2 ^ k), mul-one (n * den), mul_comm n den) (mul-le-mul_left den l)

round_some : (s : Bool) (num den n : ℕ) → 0 < den → num * 2 ^ 149 ≡ n * den → 0 < n → T (proper (round binary32 s num den))
round_some s num den n d e p =
    let k = size (num * 2 ^ 149 / den) - 24 in
    let i : num * 2 ^ 149 / den ≡ n = ap (λ (z : ℕ). z / den) e ∙ mul-div_cancel n d in
    let l : 2 ^ k ≤ n = rw i (kept_some n p) in
    let u : 0 < den * 2 ^ k = mul-pos d (pow_pos k) in
    let q : 1 / 1 ≤ num * 2 ^ 149 / (den * 2 ^ k) = div_mono 1 1 (num * 2 ^ 149) (den * 2 ^ k) (zero-lt-suc 0) u (enough (num * 2 ^ 149) den n k e l) in
    let v : num * 2 ^ 149 / (den * 2 ^ k) ≤ nearest (num * 2 ^ 149 / (den * 2 ^ k)) (compare (num * 2 ^ 149 % (den * 2 ^ k) * 2) (den * 2 ^ k)) = nearest-ge _ (compare (num * 2 ^ 149 % (den * 2 ^ k) * 2) (den * 2 ^ k)) in
    subst (λ (x : Float). T (proper x)) (sym (round_is binary32 s num den)) (units_proper s _ k (omega arith))

-- ---- a sum of two numbers of the format
-- the numerator of one of the two, in units
in_whole : (a u e d : ℕ) → a * 2 ^ 149 ≡ u * e → a * d * 2 ^ 149 ≡ u * (e * d)
in_whole a u e d h = mul_right_comm a d (2 ^ 149) ∙ ap (λ (z : ℕ). z * d) h ∙ mul_assoc u e d

-- the units of a number that is not 0
some_units : (m u : ℕ) (e : ℤ) → suc m * up e * 2 ^ 149 ≡ u * down e → 0 < u
some_units m zero e h = absurd (not-suc-le-zero (subst (λ (z : ℕ). 0 < z) (h ∙ zero-mul (down e)) (mul-pos (mul-pos (zero-lt-suc m) (up_pos e)) (pow_pos 149))))
some_units m (suc u) e h = zero-lt-suc u

more : (a b u v c p : ℕ) → a * p ≡ u * c → b * p ≡ v * c → (a + b) * p ≡ (u + v) * c
more a b u v c p f g = add-mul a b p ∙ ap₂ (λ (x y : ℕ). x + y) f g ∙ sym (add-mul u v c)

rest : (b w u v z c p : ℕ) → u ≡ v + z → (b + w) * p ≡ u * c → b * p ≡ v * c → w * p ≡ z * c
rest b w u v z c p i f g =
    let h : b * p + w * p ≡ v * c + z * c = sym (add-mul b w p) ∙ f ∙ ap (λ (x : ℕ). x * c) i ∙ add-mul v z c in
    omega arith

less : (a b u v c p : ℕ) → 0 < p → a * p ≡ u * c → b * p ≡ v * c → b < a → ((a - b) * p ≡ (u - v) * c) × (0 < u - v)
less a b u v c p P f g h =
    let k : b * p < a * p = mul-lt-mul_of_pos_right h P in
    let l : v * c < u * c = omega arith in
    let m : v < u = lt_of_mul-lt-mul_right c l in
    let i : u ≡ v + (u - v) = omega arith in
    let j : b + (a - b) ≡ a = omega arith in
    (rest b (a - b) u v (u - v) c p i (ap (λ (x : ℕ). x * p) j ∙ f) g, omega arith)

module _ (a b c u v : ℕ) (C : 0 < c) (f : a * 2 ^ 149 ≡ u * c) (g : b * 2 ^ 149 ≡ v * c) where
  right : (x : Bool) → ltb a b ≡ x → T (proper (cond x (round binary32 true (b - a) c) (round binary32 false (a - b) c)))
  right true e = let w = less b a v u c (2 ^ 149) (pow_pos 149) g f (ltb-true a b e) in round_some true (b - a) c (v - u) C w.0 w.1
  right false e = round_clear (a - b) c

  left : (x y : Bool) → ltb b a ≡ y → T (proper (cond x (round binary32 false (b - a) c) (round binary32 y (a - b) c)))
  left true y e = round_clear (b - a) c
  left false true e = let w = less a b u v c (2 ^ 149) (pow_pos 149) f g (ltb-true b a e) in round_some true (a - b) c (u - v) C w.0 w.1
  left false false e = round_clear (a - b) c

  sum_proper : (s t : Bool) → (T s → 0 < u) → T (proper (sum binary32 s a t b c))
  unfolding sum
  sum_proper true true p = let q = p tt in round_some true (a + b) c (u + v) C (more a b u v c (2 ^ 149) f g) (omega arith)
  sum_proper true false p = left (ltb a b) (ltb b a) refl
  sum_proper false true p = right (ltb a b) refl
  sum_proper false false p = round_clear (a + b) c

sign_some : (s : Bool) (m u : ℕ) (e : ℤ) → T (proper (fin s m e)) → m * up e * 2 ^ 149 ≡ u * down e → T s → 0 < u
unfolding proper
sign_some true zero u e p h t = absurd p
sign_some true (suc m) u e p h t = some_units m u e h
sign_some false m u e p h t = absurd t

pub add_proper : (x y : Float) → T (fits binary32 x) → T (fits binary32 y) → T (proper x) → T (proper (add binary32 x y))
unfolding add proper
add_proper nan y f g p = tt
add_proper (inf s) nan f g p = tt
add_proper (inf true) (inf true) f g p = tt
add_proper (inf true) (inf false) f g p = tt
add_proper (inf false) (inf true) f g p = tt
add_proper (inf false) (inf false) f g p = tt
add_proper (inf s) (fin t n d) f g p = tt
add_proper (fin s m e) nan f g p = tt
add_proper (fin s m e) (inf t) f g p = tt
add_proper (fin s m e) (fin t n d) f g p =
    let x = whole_units s m e f in
    let y = whole_units t n d g in
    sum_proper (m * up e * down d) (n * up d * down e) (down e * down d) x.0 y.0 (mul-pos (down_pos e) (down_pos d)) (in_whole (m * up e) x.0 (down e) (down d) x.1)
    (in_whole (n * up d) y.0 (down d) (down e) y.1 ∙ ap (λ (z : ℕ). y.0 * z) (mul_comm (down d) (down e))) s t (sign_some s m x.0 e p x.1)

-- ---- a zero added
some_right : (s t u : Bool) (b c : ℕ) → 0 < b → sum binary32 u b s 0 c ≡ sum binary32 u b t 0 c
some_right s t u zero c p = absurd (not-suc-le-zero p)
some_right s t u (suc b) c p = sum_right s u b c ∙ sym (sum_right t u b c)

none_right : (s t : Bool) (c : ℕ) → sum binary32 false 0 s 0 c ≡ sum binary32 false 0 t 0 c
unfolding sum
none_right true true c = refl
none_right true false c = refl
none_right false true c = refl
none_right false false c = refl

unseen : (s t : Bool) (x : Float) → T (proper x) → add binary32 x (null s) ≡ add binary32 x (null t)
unfolding add proper
unseen s t nan p = refl
unseen s t (inf u) p = refl
unseen s t (fin true zero d) p = absurd p
unseen s t (fin false zero d) p = rw (gone (up d) 1, zero-mul (down d)) (none_right s t (down d * 1))
unseen s t (fin u (suc n) d) p = rw (zero-mul (down d)) (some_right s t u (suc n * up d * 1) (down d * 1) (mul-pos (mul-pos (zero-lt-suc n) (up_pos d)) (zero-lt-suc 0)))

add_unseen : {y y' : Float} (x : Float) → T (proper x) → Same y y' → add binary32 x y ≡ add binary32 x y'
add_unseen x p same = refl
add_unseen x p (zeros s t) = unseen s t x p

-- ---- so of terms that are the same but for a zero's sign the sum is one
module _ (i : Input Float) (f g : ℕ → Float) where
  total_proper : (k : ℕ) → ((m : ℕ) → T (fits binary32 (g m))) → T (fits binary32 (total rounded i g k)) × T (proper (total rounded i g k))
  unfolding total rounded lit of_int round proper fits
  total_proper zero h = (tt, tt)
  total_proper (suc k) h = let p = total_proper k h in (add-fits binary32 (total rounded i g k) (g k), add_proper (total rounded i g k) (g k) p.0 (h k) p.1)

  pub total_unseen : (k : ℕ) → ((m : ℕ) → m < k → Same (f m) (g m)) → ((m : ℕ) → T (fits binary32 (g m))) → total rounded i f k ≡ total rounded i g k
  unfolding total rounded
  total_unseen zero e h = refl
  total_unseen (suc k) e h =
      ap (λ (x : Float). add binary32 x (f k)) (total_unseen k (λ m l. e m (omega arith)) h) ∙ add_unseen (total rounded i g k) (total_proper k h).1 (e k (omega arith))
