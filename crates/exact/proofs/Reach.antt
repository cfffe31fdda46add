-- What nearness comes to: rank 127 and a slack of 2 ^ 128 lie within the distance of demand 3; and a float near a number of size B is itself of size at most 2 * (B + 1).
use mathlib.Core.Path.{◌≡◌, refl, sym, ap}
use Prim.Native.Nat.{ℕ, suc, ◌+◌, ◌*◌, ◌^◌, ◌≤◌, ◌<◌}
use native.Mathlib.Nat.{le-add_left, le-add_right, le_refl, le_trans, le_of_eq, add_comm, add-zero, zero-add, mul-pos, mul_right_comm, mul-le-mul_left, mul-le-mul_right, le_of_mul-le-mul_right, add-le-add}
use native.Mathlib.Omega.{arith}
use mathlib.Core.Bool.{Bool, true, false}
use lib.Dec.{T}
use lib.Pow.{pow_pos}
use lib.IntN.{ℤ}
use lib.Ieee.{Float, nan, inf, fin, up, down}
use lib.Ieee.Scale.{finite}
use Rattle.exact.proofs.Frac.{Lower, Upper, by_le}
use Rattle.exact.specs.Exact.{Exact, own, size}
use Rattle.exact.proofs.Ops.{Rep, Is, size_of}
use Rattle.exact.specs.Within.{FINE, Within, distance}
use Rattle.exact.proofs.Near.{lo, hi, lo_pos, twice, rank_bound, PartsNear, Near, Fine, bound, finite_is}

pub is_cross : (f : Float) (p q d : ℕ) → Is f p q d → p * (own f).over + (own f).minus * d ≡ q * (own f).over + (own f).plus * d
unfolding own
is_cross nan p q d i = absurd i
is_cross (inf s) p q d i = absurd i
is_cross (fin false m e) p q d i = omega arith
is_cross (fin true m e) p q d i = omega arith

-- without the rank
pub flat_lower : (v w a c x d : ℕ) → 0 < v → w * 131072 ≤ 131073 * v → Lower v w a c x d → 131072 * (x * c) ≤ 131073 * (a * d)
flat_lower v w a c x d vp h l = le_of_mul-le-mul_right (le_trans (by_le (mul-le-mul_left 131072 l) (p v a c x d) (q w a d)) (by_le (mul-le-mul_right (a * d) h) refl (r v a d))) vp
  where
    p : (v a c x d : ℕ) → 131072 * (x * c) * v ≡ 131072 * (x * c * v)
    p v a c x d = omega arith

    q : (w a d : ℕ) → 131072 * (w * (a * d)) ≡ w * 131072 * (a * d)
    q w a d = omega arith

    r : (v a d : ℕ) → 131073 * v * (a * d) ≡ 131073 * (a * d) * v
    r v a d = omega arith

flat_upper : (v w h E a c x d : ℕ) → 0 < v → 0 < h → w * 131072 ≤ 131073 * v → E * 4194304 ≤ h → Upper v w h E a c x d
    → 131072 * 4194304 * (a * d) ≤ 131073 * (4194304 * (x * c) + d * c)
flat_upper v w h E a c x d vp H l e u =
    le_of_mul-le-mul_right
    (le_trans (by_le (mul-le-mul_left (131072 * 4194304) u) (s1 v h a d) (s2 w (x * h + E * d) c))
    (le_trans (mul-le-mul_left (4194304 * ((x * h + E * d) * c)) l)
    (le_trans (le_of_eq (s3 v h E x d c)) (le_trans (mul-le-mul_left (131073 * v) (add-le-add (le_refl (4194304 * (x * h) * c)) (mul-le-mul_right (d * c) e))) (le_of_eq (s4 v h x d c))))))
    (mul-pos H vp)
  where
    s1 : (v h a d : ℕ) → 131072 * 4194304 * (a * d) * (h * v) ≡ 131072 * 4194304 * (a * d * (h * v))
    s1 v h a d = omega arith

    s2 : (w X c : ℕ) → 131072 * 4194304 * (w * (X * c)) ≡ 4194304 * (X * c) * (w * 131072)
    s2 w X c = omega arith

    s3 : (v h E x d c : ℕ) → 4194304 * ((x * h + E * d) * c) * (131073 * v) ≡ 131073 * v * (4194304 * (x * h) * c + E * 4194304 * (d * c))
    s3 v h E x d c = omega arith

    s4 : (v h x d c : ℕ) → 131073 * v * (4194304 * (x * h) * c + h * (d * c)) ≡ 131073 * (4194304 * (x * c) + d * c) * (h * v)
    s4 v h x d c = omega arith

-- the parts' bounds, added up, come to the promised distance
linear : (A P Q C K : ℕ) → 131072 * 4194304 * A ≤ 131073 * (4194304 * P + K) → 131072 * Q ≤ 131073 * C → (A + Q) * FINE ≤ (C + P) * FINE + distance (P + Q) K
linear A P Q C K a b = omega arith

-- from (p - q) / d to (a - b) / c
carry : (a b c p q d P Q D : ℕ) → 0 < d → p * c + b * d ≡ q * c + a * d → (p * D + Q * d) * FINE ≤ (q * D + P * d) * FINE + distance (P * d + Q * d) (D * d)
    → (a * D + Q * c) * FINE ≤ (b * D + P * c) * FINE + distance (P + Q) D * c
carry a b c p q d P Q D dp e h = le_of_mul-le-mul_right (mid (ap (λ (x : ℕ). x * D * FINE) e) (mul-le-mul_right c h)) dp
  where
    mid : (p * c + b * d) * D * FINE ≡ (q * c + a * d) * D * FINE → (p * D + Q * d) * FINE * c ≤ ((q * D + P * d) * FINE + distance (P * d + Q * d) (D * d)) * c
        → (a * D + Q * c) * FINE * d ≤ ((b * D + P * c) * FINE + distance (P + Q) D * c) * d
    mid x y = omega arith

one_side : (k E p q d a b c P Q D : ℕ) → k ≤ 127 → E ≤ 2 ^ 128 → 0 < d → p * c + b * d ≡ q * c + a * d
    → Upper (lo k) (hi k) (2 ^ 150) E p d P D → Lower (lo k) (hi k) q d Q D → (a * D + Q * c) * FINE ≤ (b * D + P * c) * FINE + distance (P + Q) D * c
one_side k E p q d a b c P Q D l e dp i u w =
    carry a b c p q d P Q D dp i
    (linear (p * D) (P * d) (Q * d) (q * D) (D * d) (flat_upper (lo k) (hi k) (2 ^ 150) E p d P D (lo_pos k) (pow_pos 150) (rank_bound k l) (mul-le-mul_right 4194304 e) u)
    (flat_lower (lo k) (hi k) q d Q D (lo_pos k) (rank_bound k l) w))

pub within : {k B E : ℕ} {f : Float} {x : Exact} → Near k B E f x → k ≤ 127 → E ≤ 2 ^ 128 → Within f x (size x)
within {k} {B} {E} {f} {x} m l e =
    let c = m.close in
    let i = is_cross f m.p m.q m.d m.is in
    record {
      is_finite = finite_is f m.p m.q m.d m.is;
      some_over = c.over;
      same_over = refl;
      above = one_side k E m.p m.q m.d (own f).plus (own f).minus (own f).over x.plus x.minus x.over l e c.pos i c.phi c.qlo;
      below = rw (add_comm x.plus x.minus) (one_side k E m.q m.p m.d (own f).minus (own f).plus (own f).over x.minus x.plus x.over l e c.pos (sym i) c.qhi c.plo);
    }

-- ---- a float that is near a number of size at most B is itself of size at most 2 * (B + 1), so it can stand as an input of a further sum
cut_size : (L n c p q d : ℕ) → 0 < d → n * d ≤ (p + q) * c → p + q ≤ L * d → n ≤ L * c
cut_size L n c p q d D h k = le_of_mul-le-mul_right (le_trans h (le_trans (mul-le-mul_right c k) (le_of_eq (mul_right_comm L d c)))) D

own_size : (s : Bool) (L m p q d : ℕ) (e : ℤ) → 0 < d → Rep s (m * up e) (down e) p q d → p + q ≤ L * d → (own (fin s m e)).plus + (own (fin s m e)).minus ≤ L * (own (fin s m e)).over
unfolding own
own_size false L m p q d e D i h = le_trans (le_of_eq (add-zero (m * up e))) (cut_size L (m * up e) (down e) p q d D (size_of false L (m * up e) (down e) p q d i) h)
own_size true L m p q d e D i h = le_trans (le_of_eq (zero-add (m * up e))) (cut_size L (m * up e) (down e) p q d D (size_of true L (m * up e) (down e) p q d i) h)

pub near_size : {k B E : ℕ} {f : Float} {x : Exact} → Near k B E f x → Fine k B E → T (finite f) × ((own f).plus + (own f).minus ≤ 2 * suc B * (own f).over)
near_size {k} {B} {E} {f} {x} m fine = (finite_is f m.p m.q m.d m.is, go f m.p m.q m.d m.close.pos m.is top)
  where
    c : PartsNear k B E m.p m.q m.d x
    c = m.close

    top : m.p + m.q ≤ 2 * suc B * m.d
    top = bound (lo k) (hi k) (2 ^ 150) E B m.p m.q m.d x.plus x.minus x.over c.over (pow_pos 150) (lo_pos k) (twice k fine.rank) (mul-le-mul_left 2 fine.slack) c.size c.phi c.qhi

    go : (f : Float) (p q d : ℕ) → 0 < d → Is f p q d → p + q ≤ 2 * suc B * d → (own f).plus + (own f).minus ≤ 2 * suc B * (own f).over
    go nan p q d D i h = absurd i
    go (inf s) p q d D i h = absurd i
    go (fin s n e) p q d D i h = own_size s (2 * suc B) n p q d e D i h

-- ---- and a float within the promised distance of a number whose majorant is at most T / 2 ^ 20 is hardly larger than that
size_cut : (f x m o d T : ℕ) → 0 < o → f * o * FINE ≤ x * d * FINE + distance m o * d → x ≤ m → m * FINE ≤ T * o → f * (FINE * FINE) ≤ (T * (FINE + 8) + FINE) * d
size_cut f x m o d T O h l k = le_of_mul-le-mul_right (mid (mul-le-mul_right FINE h) (mul-le-mul_right (d * FINE * FINE) l) (mul-le-mul_right (d * (FINE + 8)) k)) O
  where
    mid : f * o * FINE * FINE ≤ (x * d * FINE + distance m o * d) * FINE → x * (d * FINE * FINE) ≤ m * (d * FINE * FINE) → m * FINE * (d * (FINE + 8)) ≤ T * o * (d * (FINE + 8))
        → f * (FINE * FINE) * o ≤ (T * (FINE + 8) + FINE) * d * o
    mid a b c = omega arith

pub within_size : (f : Float) (x : Exact) (T : ℕ) → Within f x (size x) → (x.plus + x.minus) * FINE ≤ T * x.over → ((own f).plus + (own f).minus) * (FINE * FINE) ≤ (T * (FINE + 8) + FINE) * (own f).over
unfolding own
within_size nan x T w k = absurd w.is_finite
within_size (inf s) x T w k = absurd w.is_finite
within_size (fin false m e) x T w k =
    rw (add-zero (m * up e)) (size_cut (m * up e) x.plus (x.plus + x.minus) x.over (down e) T w.some_over (one (m * up e) x.minus (down e) x.over x.plus w.above) (le-add_right x.plus x.minus) k)
  where
    one : (f q d o p : ℕ) → (f * o + q * d) * FINE ≤ (0 * o + p * d) * FINE + distance (p + q) o * d → f * o * FINE ≤ p * d * FINE + distance (p + q) o * d
    one f q d o p h = omega arith
within_size (fin true m e) x T w k =
    rw (zero-add (m * up e)) (size_cut (m * up e) x.minus (x.plus + x.minus) x.over (down e) T w.some_over (one (m * up e) x.plus (down e) x.over x.minus w.below) (le-add_left x.minus x.plus) k)
  where
    one : (f p d o q : ℕ) → (f * o + p * d) * FINE ≤ (0 * o + q * d) * FINE + distance (p + q) o * d → f * o * FINE ≤ q * d * FINE + distance (p + q) o * d
    one f p d o q h = omega arith
