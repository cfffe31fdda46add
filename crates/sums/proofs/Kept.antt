-- A number that the format holds is kept: by a product with 1, and, but for a zero's sign, where a zero is added or taken away.
use mathlib.Core.Path.{◌≡◌, refl, sym, ap, ap₂, ◌∙◌}
use Prim.Native.Nat.{ℕ, zero, suc, ◌+◌, ◌-◌, ◌*◌, ◌/◌, ◌%◌, ◌^◌, ◌≤◌, ◌<◌}
use native.Mathlib.Nat.{mul-one, one-mul, mul_assoc, mul_comm, mul_right_comm, mul-lt-mul_of_pos_right, add-zero, mul-pos, zero-lt-suc, zero-mul, zero-add, mul-zero, div-eq_of_eq-mul_left, eq_of_mul-eq-mul_right, lt_of_lt_of_le}
use native.Mathlib.Omega.{arith}
use mathlib.Core.Bool.{Bool, true, false, not, ◌&&◌, cond}
use lib.Dec.{T, eqb, ltb, leb, ltb→lt, leb→le}
use lib.Pow.{pow-add, pow_mono, pow_pos, shl_lt}
use lib.IntN.{ℤ, pos, negsuc}
use lib.Ieee.{Float, nan, inf, fin, binary32, of_bits, up, down, round, sum, add, sub, mul, neg, fits, size, to_bits, of_int, unlike}
use lib.Ieee.Fits.{and_l, and_r, down_pos, neg-fits, round-fits}
use lib.Ieee.Bits.{of_bits-to_bits}
use lib.Ieee.Exact.{HasValue, round_exact}
use lib.Ieee.Scale.{finite}
use Rattle.exact.proofs.Round.{digits, in_units_lem, low_enough, whole_units}
use Rattle.sums.specs.Recurrence.{lit}
use Rattle.sums.specs.Same.{Same, null, same}
use Rattle.exact.proofs.Range.{round_null}
use Rattle.sums.proofs.SameLaws.{add_left, add_right, by_same, gone}

-- ---- two numbers of the format with one sign and one value are one
-- the pattern of a value of n units
bits_of : Bool → ℕ → ℕ
unfolding size
bits_of s n = let k = size n - 24 in cond s 2147483648 0 + k * 8388608 + n / 2 ^ k

bits_are : (s : Bool) (m : ℕ) (e : ℤ) → to_bits binary32 (fin s m e) ≡ bits_of s (m * up e * 2 ^ 149 / down e)
unfolding to_bits bits_of
bits_are s m e = refl

cross : (a b u v e d p : ℕ) → a * p ≡ u * e → b * p ≡ v * d → a * d ≡ b * e → u * (e * d) ≡ v * (e * d)
cross a b u v e d p f g h =
    sym (mul_assoc u e d) ∙ ap (λ (z : ℕ). z * d) (sym f) ∙ mul_right_comm a p d ∙ ap (λ (z : ℕ). z * p) h ∙ mul_right_comm b e p ∙ ap (λ (z : ℕ). z * e) g ∙ mul_assoc v d e ∙ ap (λ (z : ℕ). v * z) (mul_comm d e)

one_value : (s : Bool) (m n : ℕ) (e d : ℤ) → T (fits binary32 (fin s m e)) → T (fits binary32 (fin s n d)) → m * up e * down d ≡ n * up d * down e → fin s m e ≡ fin s n d
one_value s m n e d f g h =
    let u = whole_units s m e f in
    let v = whole_units s n d g in
    let i : u.0 ≡ v.0 = eq_of_mul-eq-mul_right (down e * down d) (mul-pos (down_pos e) (down_pos d)) u.0 v.0 (cross (m * up e) (n * up d) u.0 v.0 (down e) (down d) (2 ^ 149) u.1 v.1 h) in
    let p : m * up e * 2 ^ 149 / down e ≡ u.0 = div-eq_of_eq-mul_left (down_pos e) u.1 in
    let q : n * up d * 2 ^ 149 / down d ≡ v.0 = div-eq_of_eq-mul_left (down_pos d) v.1 in
    sym (of_bits-to_bits binary32 (fin s m e) f) ∙ ap (of_bits binary32) (bits_are s m e ∙ ap (bits_of s) (p ∙ i ∙ sym q) ∙ sym (bits_are s n d)) ∙ of_bits-to_bits binary32 (fin s n d) g

-- ---- so a number of the format rounds to itself
-- its digits and its place in units
placed : (s : Bool) (m : ℕ) (e : ℤ) → T (fits binary32 (fin s (suc m) e)) → (j : ℕ) × (suc m < 2 ^ 24) × (suc m * 2 ^ j < 2 ^ (149 + 128)) × (suc m * up e * 2 ^ 149 ≡ suc m * 2 ^ j * down e)
unfolding fits
placed s m (pos k) t =
    let a : Bool = eqb (suc m % 2) 1 in
    let b : Bool = ltb (suc m) (2 ^ 24) in
    let c : Bool = leb 1 (2 ^ 149) in
    let d : Bool = ltb (suc m * 2 ^ k) (2 ^ 128 * 1) in
    let e : suc m * 2 ^ k * 2 ^ 149 ≡ suc m * 2 ^ (k + 149) = mul_assoc (suc m) (2 ^ k) (2 ^ 149) ∙ ap (λ (z : ℕ). suc m * z) (sym (pow-add 2 k 149)) in
    let h : suc m * 2 ^ k < 2 ^ 128 * 1 = ltb→lt (suc m * 2 ^ k) (2 ^ 128 * 1) (and_r (a && b && c) d t) in
    let g : suc m * 2 ^ k * 2 ^ 149 < 2 ^ (149 + 128) = mul-lt-mul_of_pos_right h (pow_pos 149) in
    (k + 149, digits s (suc m) (pos k) t, rw e at g, e ∙ sym (mul-one (suc m * 2 ^ (k + 149))))
placed s m (negsuc k) t =
    let a : Bool = eqb (suc m % 2) 1 in
    let b : Bool = ltb (suc m) (2 ^ 24) in
    let c : Bool = leb (2 ^ suc k) (2 ^ 149) in
    let d : Bool = ltb (suc m * 1) (2 ^ 128 * 2 ^ suc k) in
    let l : suc k ≤ 149 = low_enough (suc k) (leb→le (2 ^ suc k) (2 ^ 149) (and_r (a && b) c (and_l (a && b && c) d t))) in
    let h = digits s (suc m) (negsuc k) t in
    (149 - suc k, h, lt_of_lt_of_le (shl_lt 24 (149 - suc k) h) (pow_mono {j = 149 + 128} (omega arith)), in_units_lem (suc m) (suc k) l)

rounds : (s : Bool) (m : ℕ) (e : ℤ) → T (fits binary32 (fin s m e)) → HasValue (round binary32 s (m * up e) (down e)) s (m * up e) (down e)
rounds s zero e f = rw (round_null s (0 * up e) (down e) (zero-mul (up e)) (down_pos e)) (refl, omega arith)
rounds s (suc m) e f = let p = placed s m e f in round_exact binary32 s (suc m * up e) (down e) (suc m) p.0 (down_pos e) p.1 p.2 p.3

by_value : (x : Float) (s : Bool) (m : ℕ) (e : ℤ) → T (fits binary32 x) → T (fits binary32 (fin s m e)) → HasValue x s (m * up e) (down e) → x ≡ fin s m e
by_value nan s m e f g h = absurd h
by_value (inf t) s m e f g h = absurd h
by_value (fin t n d) s m e f g h = let a : fin t n d ≡ fin s n d = ap (λ (u : Bool). fin u n d) h.0 in a ∙ one_value s n m d e (rw a at f) g h.1

pub round_own : (s : Bool) (m : ℕ) (e : ℤ) → T (fits binary32 (fin s m e)) → round binary32 s (m * up e) (down e) ≡ fin s m e
round_own s m e f = by_value (round binary32 s (m * up e) (down e)) s m e (round-fits binary32 s (m * up e) (down e)) f (rounds s m e f)

-- ---- what keeps a number
-- a zero
abbrev pub Null : Float → Type 0
Null x = (s : Bool) × (x ≡ null s)

pub one_times : (x : Float) → T (fits binary32 x) → mul binary32 (lit 1) x ≡ x
unfolding mul lit of_int round
one_times nan f = refl
one_times (inf true) f = refl
one_times (inf false) f = refl
one_times (fin true m e) f = ap₂ (round binary32 true) (one-mul (m * up e)) (one-mul (down e)) ∙ round_own true m e f
one_times (fin false m e) f = ap₂ (round binary32 false) (one-mul (m * up e)) (one-mul (down e)) ∙ round_own false m e f

pub times_one : (x : Float) → T (fits binary32 x) → mul binary32 x (lit 1) ≡ x
unfolding mul lit of_int round
times_one nan f = refl
times_one (inf true) f = refl
times_one (inf false) f = refl
times_one (fin true m e) f = ap₂ (round binary32 true) (mul-one (m * up e)) (mul-one (down e)) ∙ round_own true m e f
times_one (fin false m e) f = ap₂ (round binary32 false) (mul-one (m * up e)) (mul-one (down e)) ∙ round_own false m e f

-- a zero of x's own sign, added
add_own : (s : Bool) (m : ℕ) (e : ℤ) → T (fits binary32 (fin s m e)) → add binary32 (fin s m e) (null s) ≡ fin s m e
unfolding add sum
add_own true m e f = ap₂ (round binary32 true) (ap₂ (λ (a b : ℕ). a + b) (mul-one (m * up e)) (gone 1 (down e)) ∙ add-zero (m * up e)) (mul-one (down e)) ∙ round_own true m e f
add_own false m e f = ap₂ (round binary32 false) (ap₂ (λ (a b : ℕ). a + b) (mul-one (m * up e)) (gone 1 (down e)) ∙ add-zero (m * up e)) (mul-one (down e)) ∙ round_own false m e f

plus_null : (s : Bool) (x : Float) → T (fits binary32 x) → Same (add binary32 x (null s)) x
unfolding add
plus_null s nan f = same
plus_null s (inf t) f = same
plus_null s (fin t m e) f = by_same refl (sym (add_own t m e f)) (add_right s t (fin t m e))

null_plus : (s : Bool) (x : Float) → T (fits binary32 x) → Same (add binary32 (null s) x) x
unfolding add sum
null_plus s nan f = same
null_plus s (inf t) f = same
null_plus s (fin true m e) f =
    by_same refl (sym (ap₂ (round binary32 true) (ap₂ (λ (a b : ℕ). a + b) (gone 1 (down e)) (mul-one (m * up e)) ∙ zero-add (m * up e)) (one-mul (down e)) ∙ round_own true m e f)) (add_left s true (fin true m e))
null_plus s (fin false m e) f =
    by_same refl (sym (ap₂ (round binary32 false) (ap₂ (λ (a b : ℕ). a + b) (gone 1 (down e)) (mul-one (m * up e)) ∙ zero-add (m * up e)) (one-mul (down e)) ∙ round_own false m e f)) (add_left s false (fin false m e))

-- a zero taken away, and a number taken from a zero
pub less_null : (x z : Float) → T (fits binary32 x) → Null z → Same (sub binary32 x z) x
unfolding sub neg
less_null x z f n = rw n.1 (plus_null (not n.0) x f)

pub null_less : (z x : Float) → Null z → T (fits binary32 x) → Same (sub binary32 z x) (neg x)
unfolding sub
null_less z x n f = rw n.1 (null_plus n.0 (neg x) (neg-fits binary32 x f))

-- a zero times a finite number
pub null_mul : (z x : Float) → Null z → T (finite x) → Null (mul binary32 z x)
unfolding mul
null_mul z nan n f = absurd f
null_mul z (inf s) n f = absurd f
null_mul z (fin t m e) n f = rw n.1 (unlike n.0 t, round_null (unlike n.0 t) _ _ (gone 1 (m * up e)) (mul-pos (zero-lt-suc 0) (down_pos e)))

pub mul_null : (x z : Float) → T (finite x) → Null z → Null (mul binary32 x z)
unfolding mul
mul_null nan z f n = absurd f
mul_null (inf s) z f n = absurd f
mul_null (fin t m e) z f n = rw n.1 (unlike t n.0, round_null (unlike t n.0) _ _ (mul-zero (m * up e)) (mul-pos (down_pos e) (zero-lt-suc 0)))
