-- The entry's angle: its sign and its bit pattern, and which are accepted. Assumes nothing.
use mathlib.Core.Path.{◌≡◌, refl}
use Prim.Native.Nat.{ℕ, zero, suc, ◌+◌, ◌-◌, ◌*◌, ◌/◌, ◌%◌, ◌^◌, ◌≤◌, ◌<◌}
use native.Mathlib.Nat.{mul-le-mul, mul-le-mul_right, pow-le-pow_right}
use native.Mathlib.Omega.{arith}
use mathlib.Core.Bool.{Bool, true, false, ◌&&◌, ◌||◌}
use lib.Dec.{T, leb, ltb, eqb, lit<}
use lib.IntN.{ℤ}
use lib.Ieee.{Float, nan, inf, fin, binary32, of_bits, to_bits, fits, le, lt, eq, up, down}
use lib.Ieee.Fits.{down_pos, and_i, and_l, and_r}
use lib.Ieee.Exact.{HasValue}
use lib.Ieee.Scale.{finite}
use borrow.Author.Tests.{ltb-false, lt-ltb, eq-eqb, leb-true, leb-false}
use Rattle.exact.proofs.Sizes.{or_le, or_ge}
use Rattle.float32.proofs.Bits.{float_back}
use Rattle.trig.specs.Fixed.{accepted}
use Rattle.float32.proofs.Unsigned.{top_none, unsigned}
use Rattle.trig.proofs.Turn.{at_large}

-- at most 45 degrees
pub normal_most : (b : ℕ) → b ≤ 1110704128 → b % 8388608 + 8388608 ≤ 11796480 * 2 ^ (132 - b / 8388608)
normal_most b h = go (132 - b / 8388608) refl
  where
    go : (k : ℕ) → 132 - b / 8388608 ≡ k → b % 8388608 + 8388608 ≤ 11796480 * 2 ^ k
    go zero e = omega arith
    go (suc k) e = let x : 2 ^ 1 ≤ 2 ^ suc k = pow-le-pow_right (lit< tt) {i = 1} {j = suc k} (omega arith) in omega arith

-- ---- at most 180 degrees
pub too_far : (n a d : ℕ) → 0 < d → 1127481344 < n → n < 2147483648 → HasValue (of_bits binary32 n) false a d → 180 * d < a
too_far n a d g h l v = go (leb 2139095040 n) refl
  where
    go : (b : Bool) → leb 2139095040 n ≡ b → 180 * d < a
    go true e = absurd (top_none n a d (leb-true 2139095040 n e) l v)
    go false e =
        let k = leb-false 2139095040 n e in
        let y = (n % 8388608 + 8388608) * 2 ^ (n / 8388608 - 132) in
        let s = at_large n a d v (omega arith) k in
        last y s (far (n / 8388608 - 132) refl)
      where
        last : (y : ℕ) → a * 262144 ≡ y * d → 47185921 ≤ y → 180 * d < a
        last y s f = let x : 47185921 * d ≤ y * d = mul-le-mul_right d f in omega arith

        far : (j : ℕ) → n / 8388608 - 132 ≡ j → 47185921 ≤ (n % 8388608 + 8388608) * 2 ^ (n / 8388608 - 132)
        far zero f = absurd (omega arith)
        far (suc zero) f = absurd (omega arith)
        far (suc (suc zero)) f = rw f (omega arith)
        far (suc (suc (suc j))) f =
            let x : 2 ^ 3 ≤ 2 ^ (n / 8388608 - 132) = pow-le-pow_right (lit< tt) {i = 3} {j = n / 8388608 - 132} (omega arith) in
            let y : 8388608 ≤ n % 8388608 + 8388608 = omega arith in
            let w : 8388608 * 8 ≤ (n % 8388608 + 8388608) * 2 ^ (n / 8388608 - 132) = mul-le-mul y x in
            omega arith

-- ---- accepted
pub accepted_size : (s : Bool) (m : ℕ) (e : ℤ) → T (accepted (fin s m e)) → m * up e ≤ 180 * down e
unfolding accepted le lt eq of_bits
accepted_size false m e t = let w = or_le (m * up e * 1) (180 * down e) _ (and_r (le (of_bits binary32 0xc3340000) (fin false m e)) (le (fin false m e) (of_bits binary32 0x43340000)) t) in omega arith
accepted_size true m e t = let w = or_ge (180 * down e) (m * up e * 1) _ (and_l (le (of_bits binary32 0xc3340000) (fin true m e)) (le (fin true m e) (of_bits binary32 0x43340000)) t) in omega arith

-- and no other is refused
le_or : (a b : ℕ) (z : Bool) → (a ≡ b → T z) → a ≤ b → T (ltb a b || (eqb a b && z))
le_or a b z w h = go (ltb a b) refl
  where
    go : (p : Bool) → ltb a b ≡ p → T (ltb a b || (eqb a b && z))
    go true e = rw e tt
    go false e = let s : a ≡ b = (let k = ltb-false a b e in omega arith) in rw (e, eq-eqb a b s) (w s)

ge_or : (a b : ℕ) (z : Bool) → (a ≡ b → T z) → b ≤ a → T (ltb b a || (eqb a b && z))
ge_or a b z w h = go (ltb b a) refl
  where
    go : (p : Bool) → ltb b a ≡ p → T (ltb b a || (eqb a b && z))
    go true e = rw e tt
    go false e = let s : a ≡ b = (let k = ltb-false b a e in omega arith) in rw (e, eq-eqb a b s) (w s)

above_zero : (a : ℕ) (z : Bool) → 0 < a → T (ltb 0 a || z)
above_zero a z h = rw (lt-ltb 0 a h) tt

pub all_accepted : (s : Bool) (m : ℕ) (e : ℤ) → m * up e ≤ 180 * down e → T (accepted (fin s m e))
unfolding accepted le lt eq of_bits
all_accepted false m e h =
    and_i (le (of_bits binary32 0xc3340000) (fin false m e)) (le (fin false m e) (of_bits binary32 0x43340000))
    (above_zero (180 * down e + m * up e * 1) _ (let p = down_pos e in omega arith)) (le_or (m * up e * 1) (180 * down e) _ (λ q. tt) (omega arith))
all_accepted true m e h =
    and_i (le (of_bits binary32 0xc3340000) (fin true m e)) (le (fin true m e) (of_bits binary32 0x43340000))
    (ge_or (180 * down e) (m * up e * 1) _ (λ q. tt) (omega arith)) (above_zero (m * up e * 1 + 180 * down e) _ (let p = down_pos e in omega arith))

pub accepted_finite : (x : Float) → T (accepted x) → T (finite x)
unfolding accepted le lt eq of_bits
accepted_finite nan t = t
accepted_finite (inf true) t = t
accepted_finite (inf false) t = t
accepted_finite (fin s m e) t = tt

-- the pattern of an accepted angle, without its sign, is at most that of 180
pub accepted_bits : (x : Float) → T (fits binary32 x) → T (accepted x) → to_bits binary32 x % 2147483648 ≤ 1127481344
accepted_bits x held t = go x (float_back x held) (accepted_finite x t) t
  where
    go : (y : Float) → of_bits binary32 (to_bits binary32 x) ≡ y → T (finite y) → T (accepted y) → to_bits binary32 x % 2147483648 ≤ 1127481344
    go nan e f t = absurd f
    go (inf s) e f t = absurd f
    go (fin s m k) e f t = cut (leb (to_bits binary32 x % 2147483648) 1127481344) refl
      where
        cut : (b : Bool) → leb (to_bits binary32 x % 2147483648) 1127481344 ≡ b → to_bits binary32 x % 2147483648 ≤ 1127481344
        cut true p = leb-true (to_bits binary32 x % 2147483648) 1127481344 p
        cut false p =
            let l = leb-false (to_bits binary32 x % 2147483648) 1127481344 p in
            let far = too_far (to_bits binary32 x % 2147483648) (m * up k) (down k) (down_pos k) l (omega arith) (unsigned (to_bits binary32 x) s m k e).1 in
            let near = accepted_size s m k t in
            absurd (omega arith)
