-- From the tests of the inputs to the sizes that the bound asks for.
use mathlib.Core.Path.{◌≡◌, refl, sym, subst}
use Prim.Native.Nat.{ℕ, zero, suc, ◌+◌, ◌*◌, ◌≤◌, ◌<◌}
use native.Mathlib.Nat.{le_trans, le_of_eq, le_of_lt, lt_of_lt_of_le, lt_irrefl, zero-lt-suc, zero-mul, add-zero, zero-add, mul_right_comm, mul-le-mul_left, mul-le-mul_right, le_of_mul-le-mul_right, mul-pos}
use native.Mathlib.Omega.{arith}
use mathlib.Core.Bool.{Bool, true, false, ◌&&◌, ◌||◌}
use lib.IntN.{ℤ}
use lib.Dec.{T, ltb, eqb, ltb→lt, eqb→eq}
use lib.Ieee.{Float, nan, inf, fin, up, down, lt, eq, le}
use lib.Ieee.Fits.{down_pos, and_l, and_r}
use lib.Ieee.Positive.{num, den}
use Rattle.exact.specs.Tests.{abs, between}
use lib.Ieee.Scale.{finite}
use Rattle.exact.specs.Exact.{own, inv_e}
use Rattle.exact.proofs.Near.{Near, near_own}

abbrev pub AtMost : ℕ → Float → Type 0
AtMost B x = (own x).plus + (own x).minus ≤ B * (own x).over

-- the parts of a float's own number, by its size as the fraction num / den
pub own_size : (f : Float) → (own f).plus + (own f).minus ≡ num f
unfolding own
own_size nan = refl
own_size (inf s) = refl
own_size (fin false m e) = add-zero (m * up e)
own_size (fin true m e) = zero-add (m * up e)

pub own_over : (f : Float) → (own f).over ≡ den f
unfolding own
own_over nan = refl
own_over (inf s) = refl
own_over (fin false m e) = refl
own_over (fin true m e) = refl

-- a test of order between numbers of the same sign
pub or_le : (a b : ℕ) (c : Bool) → T (ltb a b || (eqb a b && c)) → a ≤ b
or_le a b c t = go (ltb a b) (eqb a b) (ltb→lt a b) (eqb→eq a b) t
  where
    go : (p q : Bool) → (T p → a < b) → (T q → a ≡ b) → T (p || (q && c)) → a ≤ b
    go true q l e t = le_of_lt (l tt)
    go false true l e t = le_of_eq (e tt)
    go false false l e t = absurd t

pub or_ge : (a b : ℕ) (c : Bool) → T (ltb b a || (eqb a b && c)) → b ≤ a
or_ge a b c t = go (ltb b a) (eqb a b) (ltb→lt b a) (eqb→eq a b) t
  where
    go : (p q : Bool) → (T p → b < a) → (T q → a ≡ b) → T (p || (q && c)) → b ≤ a
    go true q l e t = le_of_lt (l tt)
    go false true l e t = le_of_eq (sym (e tt))
    go false false l e t = absurd t

same : (a b : ℕ) (c : Bool) → T (eqb a b && c) → a ≡ b
same a b c t = eqb→eq a b (and_l (eqb a b) c t)

scale_down : (B a d n c : ℕ) → 0 < c → a * c ≤ n * d → n ≤ B * c → a ≤ B * d
scale_down B a d n c C h k = le_of_mul-le-mul_right (le_trans h (le_trans (mul-le-mul_right d k) (le_of_eq (mul_right_comm B c d)))) C

-- between two floats of size at most B
pub size_between : (B : ℕ) (s t : Bool) (m n : ℕ) (e d : ℤ) (x : Float) → m * up e ≤ B * down e → n * up d ≤ B * down d → T (le (fin s m e) x) → T (le x (fin t n d)) → T (finite x) × AtMost B x
unfolding le lt eq own
size_between B s t m n e d nan a b p q = absurd q
size_between B s t m n e d (inf false) a b p q = absurd q
size_between B s t m n e d (inf true) a b p q = absurd p
size_between B s false m n e d (fin false k c) a b p q =
    (tt, le_trans (le_of_eq (add-zero (k * up c))) (scale_down B (k * up c) (down c) (n * up d) (down d) (down_pos d) (or_le (k * up c * down d) (n * up d * down c) true q) b))
size_between B s true m n e d (fin false k c) a b p q =
    (tt, le_trans (le_of_eq (add-zero (k * up c))) (scale_down B (k * up c) (down c) (n * up d) (down d) (down_pos d) (le_of_eq (same (k * up c * down d) (n * up d * down c) (eqb (k * up c * down d) 0) q)) b))
size_between B false t m n e d (fin true k c) a b p q =
    (tt, le_trans (le_of_eq (zero-add (k * up c))) (scale_down B (k * up c) (down c) (m * up e) (down e) (down_pos e) (le_of_eq (sym (same (m * up e * down c) (k * up c * down e) (eqb (m * up e * down c) 0) p))) a))
size_between B true t m n e d (fin true k c) a b p q =
    (tt, le_trans (le_of_eq (zero-add (k * up c))) (scale_down B (k * up c) (down c) (m * up e) (down e) (down_pos e) (or_ge (m * up e * down c) (k * up c * down e) true p) a))

pub between_size : (B : ℕ) (s t : Bool) (m n : ℕ) (e d : ℤ) (x : Float) → m * up e ≤ B * down e → n * up d ≤ B * down d → T (between (fin s m e) (fin t n d) x) → T (finite x) × AtMost B x
between_size B s t m n e d x a b h = size_between B s t m n e d x a b (and_l (le (fin s m e) x) (le x (fin t n d)) h) (and_r (le (fin s m e) x) (le x (fin t n d)) h)

pub leaf : (B : ℕ) (s t : Bool) (m n : ℕ) (e d : ℤ) (x : Float) → m * up e ≤ B * down e → n * up d ≤ B * down d → T (between (fin s m e) (fin t n d) x) → Near 0 B 0 x (own x)
leaf B s t m n e d x a b h = let k = between_size B s t m n e d x a b h in near_own k.0 k.1

-- of size at most B, by a test of its size
pub size_leaf : (B n : ℕ) (d : ℤ) (x : Float) → n * up d ≤ B * down d → T (le (abs x) (fin false n d)) → Near 0 B 0 x (own x)
unfolding le lt eq own
size_leaf B n d nan b q = absurd q
size_leaf B n d (inf s) b q = absurd q
size_leaf B n d (fin false k c) b q =
    near_own tt (le_trans (le_of_eq (add-zero (k * up c))) (scale_down B (k * up c) (down c) (n * up d) (down d) (down_pos d) (or_le (k * up c * down d) (n * up d * down c) true q) b))
size_leaf B n d (fin true k c) b q =
    near_own tt (le_trans (le_of_eq (zero-add (k * up c))) (scale_down B (k * up c) (down c) (n * up d) (down d) (down_pos d) (or_le (k * up c * down d) (n * up d * down c) true q) b))

-- ---- one over a float that is b or more, or -b or less: at most B, where b is at least 1 / B
inv_bound : (B a c n u : ℕ) → 0 < u → n * c ≤ a * u → u ≤ B * n → a * c ≤ B * (a * a)
inv_bound B a c n u U h k = by (le_of_mul-le-mul_right (le_trans (mul-le-mul_left c k) (le_trans (le_of_eq (r1 B c n)) (le_trans (mul-le-mul_left B h) (le_of_eq (r2 B a u))))) U)
  where
    r1 : (B c n : ℕ) → c * (B * n) ≡ B * (n * c)
    r1 B c n = omega arith

    r2 : (B a u : ℕ) → B * (a * u) ≡ B * a * u
    r2 B a u = omega arith

    by : c ≤ B * a → a * c ≤ B * (a * a)
    by l = omega (arith, mul-le-mul_left a l)

inv_pos : (B a c n u : ℕ) → 0 < n → 0 < c → n * c ≤ a * u → 0 < a * a
inv_pos B zero c n u N C h = absurd (lt_irrefl 0 (lt_of_lt_of_le (mul-pos N C) (le_trans h (le_of_eq (zero-mul u)))))
inv_pos B (suc a) c n u N C h = mul-pos (zero-lt-suc a) (zero-lt-suc a)

pub inverse : (B n : ℕ) (d : ℤ) (x : Float) → 0 < n * up d → down d ≤ B * (n * up d) → T (finite x) → n * up d * (own x).over ≤ ((own x).plus + (own x).minus) * down d
    → (0 < (inv_e (own x)).over) × ((inv_e (own x)).plus + (inv_e (own x)).minus ≤ B * (inv_e (own x)).over)
unfolding own inv_e
inverse B n d nan N k t h = absurd t
inverse B n d (inf s) N k t h = absurd t
inverse B n d (fin false m e) N k t h =
    let g : n * up d * down e ≤ m * up e * down d = subst (λ (z : ℕ). n * up d * down e ≤ z * down d) (add-zero (m * up e)) h in
    let p = inv_pos B (m * up e) (down e) (n * up d) (down d) N (down_pos e) g in
    let q = inv_bound B (m * up e) (down e) (n * up d) (down d) (down_pos d) g k in
    (omega arith, omega arith)
inverse B n d (fin true m e) N k t h =
    let g : n * up d * down e ≤ m * up e * down d = subst (λ (z : ℕ). n * up d * down e ≤ z * down d) (zero-add (m * up e)) h in
    let p = inv_pos B (m * up e) (down e) (n * up d) (down d) N (down_pos e) g in
    let q = inv_bound B (m * up e) (down e) (n * up d) (down d) (down_pos d) g k in
    (omega arith, omega arith)
