-- A bit pattern of binary32 without its sign. Assumes nothing.
use mathlib.Core.Path.{◌≡◌, sym, ◌∙◌, subst}
use Prim.Native.Nat.{ℕ, zero, suc, ◌+◌, ◌*◌, ◌/◌, ◌%◌, ◌^◌, ◌≤◌, ◌<◌}
use native.Mathlib.Omega.{arith}
use mathlib.Core.Bool.{Bool, true, false, cond}
use lib.Dec.{T, leb, eqb}
use lib.Pow.{pow_pos}
use lib.IntN.{ℤ}
use lib.Ieee.{Float, nan, inf, fin, binary32, of_bits, of_fields, odd, up, down}
use lib.Ieee.Exact.{HasValue, odd_sign}
use lib.Ieee.Scale.{finite}
use borrow.Author.Tests.{lt-leb}
use Rattle.float32.proofs.Patterns.{of_bits_is}
use Rattle.float32.proofs.Values.{rescale}

not_finite : (b s : Bool) → T (finite (cond b (inf s) nan)) → ⊥
not_finite true s p = p
not_finite false s p = p

is_finite : (x : Float) (s : Bool) (m : ℕ) (e : ℤ) → x ≡ fin s m e → T (finite x)
is_finite x s m e p = subst (λ (y : Float). T (finite y)) (sym p) tt

-- a value of the sign S, without its sign
lose : (d' q j l : ℕ) (S s : Bool) (m : ℕ) (e : ℤ) → odd d' S q j l ≡ fin s m e → (s ≡ S) × HasValue (odd d' false q j l) false (m * up e) (down e)
lose d' q j l S s m e p =
    let v : HasValue (fin s m e) S (q * 2 ^ j) (2 ^ l) = subst (λ (x : Float). HasValue x S (q * 2 ^ j) (2 ^ l)) p (odd_sign d' S q j l) in
    (v.0, rescale (odd d' false q j l) false (q * 2 ^ j) (2 ^ l) (m * up e) (down e) (pow_pos l) (sym v.1) (odd_sign d' false q j l))

fields : (S s : Bool) (m : ℕ) (e : ℤ) (E F : ℕ) → of_fields binary32 S E F ≡ fin s m e → (s ≡ S) × HasValue (of_fields binary32 false E F) false (m * up e) (down e)
unfolding of_fields
fields S s m e zero F p = lose 24 F 0 149 S s m e p
fields S s m e (suc E) F p = go (eqb (suc E) 255) p
  where
    go : (b : Bool) → cond b (cond (eqb F 0) (inf S) nan) (odd 24 S (8388608 + F) E 149) ≡ fin s m e
        → (s ≡ S) × HasValue (cond b (cond (eqb F 0) (inf false) nan) (odd 24 false (8388608 + F) E 149)) false (m * up e) (down e)
    go true q = absurd (not_finite (eqb F 0) S (is_finite _ s m e q))
    go false q = lose 24 (8388608 + F) E 149 S s m e q

-- the value of a finite float, and that of its pattern without the sign
pub unsigned : (b : ℕ) (s : Bool) (m : ℕ) (e : ℤ) → of_bits binary32 b ≡ fin s m e → (s ≡ leb (2 ^ 31) b) × HasValue (of_bits binary32 (b % 2147483648)) false (m * up e) (down e)
unsigned b s m e p =
    let n = b % 2147483648 in
    let f = fields (leb (2 ^ 31) b) s m e (n / 8388608) (b % 8388608) (sym (of_bits_is b) ∙ p) in
    let a : n % 2147483648 ≡ n = omega arith in
    let c : n % 8388608 ≡ b % 8388608 = omega arith in
    (f.0, rw (of_bits_is n, a, c, lt-leb (2 ^ 31) n (omega arith)) f.1)

-- the patterns above the largest finite one have no value
pub top_none : (n a d : ℕ) → 2139095040 ≤ n → n < 2147483648 → HasValue (of_bits binary32 n) false a d → ⊥
unfolding of_fields
top_none n a d h l v =
    let e : n % 2147483648 / 8388608 ≡ 255 = omega arith in
    go (eqb (n % 8388608) 0) (leb (2 ^ 31) n) (rw (of_bits_is n, e) at v)
  where
    go : (b s : Bool) → HasValue (cond b (inf s) nan) false a d → ⊥
    go true s w = w
    go false s w = w
