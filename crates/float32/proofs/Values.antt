-- What a bit pattern of binary32 is worth, as a fraction. Assumes nothing.
use mathlib.Core.Path.{◌≡◌, refl, sym, ap, ◌∙◌, subst}
use Prim.Native.Nat.{ℕ, suc, ◌+◌, ◌-◌, ◌*◌, ◌/◌, ◌%◌, ◌^◌, ◌≤◌, ◌<◌}
use native.Mathlib.Nat.{le_of_eq, lt_of_lt_of_le, mod-eq_of_lt, le_of_mul-le-mul_right, mul-le-mul, pow-le-pow_right, pow-suc, mul-one, zero-add}
use native.Mathlib.Omega.{arith}
use mathlib.Core.Bool.{Bool, true, false, not}
use lib.Dec.{ltb, lit≤, lit<}
use lib.Pow.{pow-add}
use borrow.Author.Tests.{ltb-true, ltb-false}
use lib.Ieee.{Float, nan, inf, fin, binary32, of_bits, up, down, neg}
use lib.Ieee.Fits.{down_pos}
use lib.Ieee.Exact.{HasValue, odd_sign}
use Rattle.float32.proofs.Patterns.{pattern, subnormal}

pub cancel : (x y c : ℕ) → 0 < c → x * c ≡ y * c → x ≡ y
cancel x y c h e = let a : x ≤ y = le_of_mul-le-mul_right (le_of_eq e) h in let b : y ≤ x = le_of_mul-le-mul_right (le_of_eq (sym e)) h in omega arith

pub rescale : (x : Float) (s : Bool) (a c a' c' : ℕ) → 0 < c → a * c' ≡ a' * c → HasValue x s a c → HasValue x s a' c'
rescale nan s a c a' c' h e v = v
rescale (inf t) s a c a' c' h e v = v
rescale (fin t m k) s a c a' c' h e v = (v.0, cancel _ _ c h (swap (m * up k) c' c ∙ ap (λ (y : ℕ). y * c') v.1 ∙ swap a (down k) c' ∙ ap (λ (y : ℕ). y * down k) e ∙ swap a' c (down k)))
  where
    swap : (x y z : ℕ) → x * y * z ≡ x * z * y
    swap x y z = omega arith

pub powers : (i k n : ℕ) → i + k ≡ n → 2 ^ i * 2 ^ k ≡ 2 ^ n
powers i k n e = sym (pow-add 2 i k) ∙ ap (λ (x : ℕ). 2 ^ x) e

-- 24 digits and fewer than 32 places more
pub shift_fits : (m k : ℕ) → m < 16777216 → k < 32 → m * 2 ^ k < 72057594037927936
shift_fits m k h l =
    let a : 2 ^ k ≤ 2 ^ 31 = pow-le-pow_right (lit< tt) {i = k} {j = 31} (omega arith) in
    let few : m ≤ 16777215 = omega arith in
    let b : m * 2 ^ k ≤ 16777215 * 2147483648 = mul-le-mul few a in
    omega arith

-- so a u64 shifted by them keeps every digit
pub shift_whole : (m k : ℕ) → m < 16777216 → k < 32 → m * 2 ^ k % 18446744073709551616 ≡ m * 2 ^ k
shift_whole m k h l = mod-eq_of_lt (lt_of_lt_of_le (shift_fits m k h l) (lit≤ tt))

-- ---- one value, two fractions
pub same : (x : Float) (s : Bool) (a d b c : ℕ) → HasValue x s a d → HasValue x s b c → a * c ≡ b * d
same nan s a d b c v w = absurd v
same (inf t) s a d b c v w = absurd v
same (fin t m e) s a d b c v w = cancel (a * c) (b * d) (down e) (down_pos e) (swap a c (down e) ∙ ap (λ (x : ℕ). x * c) (sym v.1) ∙ swap (m * up e) d c ∙ ap (λ (x : ℕ). x * d) w.1 ∙ swap b (down e) d)
  where
    swap : (x y z : ℕ) → x * y * z ≡ x * z * y
    swap x y z = omega arith

-- the same with a q that was rounded up to one digit more
pub pattern_up : (j q : ℕ) → j < 253 → 2 ^ 23 ≤ q → q ≤ 2 ^ 24 → HasValue (of_bits binary32 (j * 2 ^ 23 + q)) false (q * 2 ^ j) (2 ^ 149)
pattern_up j q h k l = go (ltb q (2 ^ 24)) refl
  where
    go : (b : Bool) → ltb q (2 ^ 24) ≡ b → HasValue (of_bits binary32 (j * 2 ^ 23 + q)) false (q * 2 ^ j) (2 ^ 149)
    go true e = rw (pattern j q (omega arith) k (ltb-true q (2 ^ 24) e)) (odd_sign 24 false q j 149)
    go false e =
        let s : q ≡ 16777216 = (let w = ltb-false q (2 ^ 24) e in omega arith) in
        let a : j * 2 ^ 23 + q ≡ suc j * 2 ^ 23 + 2 ^ 23 = omega arith in
        let p : q * 2 ^ j ≡ 2 ^ 23 * 2 ^ suc j = (let x = pow-suc 2 j in rw (s, pow-suc) (omega arith)) in
        rw (a, p, pattern (suc j) (2 ^ 23) (omega arith) (lit≤ tt) (lit< tt)) (odd_sign 24 false (2 ^ 23) (suc j) 149)

-- a number below 2 ^ 24 of the smallest ones
pub few : (u : ℕ) → u < 2 ^ 24 → HasValue (of_bits binary32 u) false u (2 ^ 149)
few u h = go (ltb u (2 ^ 23)) refl
  where
    one : (x : ℕ) → x * 2 ^ 0 ≡ x
    one x = mul-one x

    go : (b : Bool) → ltb u (2 ^ 23) ≡ b → HasValue (of_bits binary32 u) false u (2 ^ 149)
    go true e = subst (λ (x : ℕ). HasValue (of_bits binary32 u) false x (2 ^ 149)) (one u) (rw (subnormal u (ltb-true u (2 ^ 23) e)) (odd_sign 24 false u 0 149))
    go false e =
        let w = ltb-false u (2 ^ 23) e in
        subst (λ (x : ℕ). HasValue (of_bits binary32 u) false x (2 ^ 149)) (one u) (subst (λ (b : ℕ). HasValue (of_bits binary32 b) false (u * 2 ^ 0) (2 ^ 149)) (zero-add u) (rw (pattern 0 u (lit< tt) w h) (odd_sign 24 false u 0 149)))

-- a number from the smallest normal one on
pub normal : (b : ℕ) → 0 < b / 8388608 → b < 2139095040 → HasValue (of_bits binary32 b) false ((b % 8388608 + 8388608) * 2 ^ (b / 8388608 - 1)) (2 ^ 149)
normal b h l =
    let j = b / 8388608 - 1 in
    let q = b % 8388608 + 8388608 in
    let e : b ≡ j * 2 ^ 23 + q = omega arith in
    subst (λ (x : ℕ). HasValue (of_bits binary32 x) false (q * 2 ^ j) (2 ^ 149)) (sym e) (rw (pattern j q (omega arith) (omega arith) (omega arith)) (odd_sign 24 false q j 149))

-- the value with its sign turned
pub negated : (x : Float) (s : Bool) (a c : ℕ) → HasValue x s a c → HasValue (neg x) (not s) a c
unfolding neg
negated nan s a c v = v
negated (inf t) s a c v = v
negated (fin t m e) s a c v = (ap not v.0, v.1)
