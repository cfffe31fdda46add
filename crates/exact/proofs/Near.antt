-- `Near k B E f x`: the float f is finite and is a difference (p - q) / d, whose two parts are those of the exact x up to k roundings and a slack E:
-- plus / over ≤ (1 + u) ^ k * (p / d)   and   p / d ≤ (1 + u) ^ k * (plus / over + E / 2 ^ 150), and so for q and minus, with u = 2 ^ -24.
-- And x is at most B in size: (plus + minus) / over ≤ B. Below it, its rules for + - · / and negation.
use mathlib.Core.Path.{◌≡◌, sym, ap, ◌∙◌, subst}
use Prim.Native.Nat.{ℕ, suc, ◌+◌, ◌-◌, ◌*◌, ◌^◌, ◌≤◌, ◌<◌}
use native.Mathlib.Nat.{le_trans, le_of_eq, lt_of_le_of_lt, add_comm, mul-one, add-sub_of_le, mul-pos, mul_assoc, mul_right_comm, mul-le-mul, mul-le-mul_left, mul-le-mul_right, mul-lt-mul_of_pos_right, le_of_mul-le-mul_right, add-le-add, pow-suc, pow-le-pow_left, one-le-pow, le_dest}
use native.Mathlib.Omega.{arith}
use mathlib.Core.Bool.{true, false}
use lib.Dec.{T, lit≤, lit<}
use lib.Pow.{pow_pos, pow-add}
use lib.Ieee.{Float, nan, inf, fin, binary32, neg, add, mul, div}
use lib.Ieee.Fits.{down_pos}
use lib.Ieee.Scale.{finite}
use Rattle.exact.proofs.Frac.{Lower, Upper, by_le, lower_more, upper_more, upper_slack, lower_add, upper_add, lower_mul, upper_mul, lower_trans, upper_trans}
use Rattle.exact.specs.Exact.{Exact, add_e, mul_e, neg_e, inv_e, own}
use Rattle.exact.proofs.Ops.{Is, Rounded, mul_rounded, add_rounded, div_rounded}

unfoldable pub lo : ℕ → ℕ
lo k = 16777216 ^ k

unfoldable pub hi : ℕ → ℕ
hi k = 16777217 ^ k

lo_suc : (k : ℕ) → lo (suc k) ≡ lo k * 16777216
unfolding lo
lo_suc k = pow-suc 16777216 k

hi_suc : (k : ℕ) → hi (suc k) ≡ hi k * 16777217
unfolding hi
hi_suc k = pow-suc 16777217 k

lo_add : (j k : ℕ) → lo (j + k) ≡ lo j * lo k
unfolding lo
lo_add j k = pow-add 16777216 j k

hi_add : (j k : ℕ) → hi (j + k) ≡ hi j * hi k
unfolding hi
hi_add j k = pow-add 16777217 j k

lo_hi : (k : ℕ) → lo k ≤ hi k
unfolding lo hi
lo_hi k = pow-le-pow_left (lit≤ tt) k

pub lo_pos : (k : ℕ) → 0 < lo k
unfolding lo
lo_pos k = one-le-pow k 16777216 (lit< tt)

-- what holds of the ratio at rank 127 holds below
ratio : (N D k : ℕ) → hi 127 * D ≤ N * lo 127 → k ≤ 127 → hi k * D ≤ N * lo k
ratio N D k h l = le_of_mul-le-mul_right (le_trans (mul-le-mul_left (hi k * D) (lo_hi (127 - k))) (by_le h (left (add-sub_of_le l)) (right (add-sub_of_le l)))) (lo_pos (127 - k))
  where
    left : k + (127 - k) ≡ 127 → hi k * D * hi (127 - k) ≡ hi 127 * D
    left e = mul_right_comm (hi k) D (hi (127 - k)) ∙ ap (λ (x : ℕ). x * D) (sym (hi_add k (127 - k)) ∙ ap hi e)

    right : k + (127 - k) ≡ 127 → N * lo 127 ≡ N * lo k * lo (127 - k)
    right e = ap (λ (x : ℕ). N * x) (ap lo (sym e) ∙ lo_add k (127 - k)) ∙ sym (mul_assoc N (lo k) (lo (127 - k)))

top_2 : hi 127 * 1 ≤ 2 * lo 127
unfolding hi lo
top_2 = lit≤ tt

pub twice : (k : ℕ) → k ≤ 127 → hi k ≤ 2 * lo k
twice k l = le_trans (le_of_eq (sym (mul-one (hi k)))) (ratio 2 1 k top_2 l)

-- 128 units of roundoff: 1 / 131072
top_17 : hi 127 * 131072 ≤ 131073 * lo 127
unfolding hi lo
top_17 = lit≤ tt

pub rank_bound : (k : ℕ) → k ≤ 127 → hi k * 131072 ≤ 131073 * lo k
rank_bound k l = ratio 131073 131072 k top_17 l

-- ---- a difference (p - q) / d that is close to an exact number
pub record PartsNear (k B E p q d : ℕ) (x : Exact) : Type 0 where
  pub pos : 0 < d
  pub over : 0 < x.over
  pub size : x.plus + x.minus ≤ B * x.over
  pub plo : Lower (lo k) (hi k) p d x.plus x.over
  pub phi : Upper (lo k) (hi k) (2 ^ 150) E p d x.plus x.over
  pub qlo : Lower (lo k) (hi k) q d x.minus x.over
  pub qhi : Upper (lo k) (hi k) (2 ^ 150) E q d x.minus x.over

pub record Near (k B E : ℕ) (f : Float) (x : Exact) : Type 0 where
  pub p : ℕ
  pub q : ℕ
  pub d : ℕ
  pub is : Is f p q d
  pub close : PartsNear k B E p q d x

size_mul : (a b c d B B' o o' : ℕ) → a + b ≤ B * o → c + d ≤ B' * o' → a * c + b * d + (a * d + b * c) ≤ B * B' * (o * o')
size_mul a b c d B B' o o' h k = by_le (mul-le-mul h k) (l a b c d) (r B B' o o')
  where
    l : (a b c d : ℕ) → a * c + b * d + (a * d + b * c) ≡ (a + b) * (c + d)
    l a b c d = omega arith

    r : (B B' o o' : ℕ) → B * o * (B' * o') ≡ B * B' * (o * o')
    r B B' o o' = omega arith

size_add : (a b c d B B' o o' : ℕ) → a + b ≤ B * o → c + d ≤ B' * o' → a * o' + c * o + (b * o' + d * o) ≤ (B + B') * (o * o')
size_add a b c d B B' o o' h k = omega (arith, mul-le-mul_right o' h, mul-le-mul_right o k)

-- ---- sums and products before the rounding
parts_mul : {k B E p q d k' B' E' p' q' d' : ℕ} {x y : Exact} → PartsNear k B E p q d x → PartsNear k' B' E' p' q' d' y
    → PartsNear (k + k') (B * B') (E * B' + E' * B + 2 * E * E') (p * p' + q * q') (p * q' + q * p') (d * d') (mul_e x y)
unfolding mul_e
parts_mul {k} {B} {E} {p} {q} {d} {k'} {B'} {E'} {p'} {q'} {d'} {x} {y} c c' =
    record {
      pos = mul-pos c.pos c'.pos;
      over = mul-pos c.over c'.over;
      size = size_mul x.plus x.minus y.plus y.minus B B' x.over y.over c.size c'.size;
      plo = rw (lo_add, hi_add) (lower_mul (lo k) (hi k) (lo k') (hi k') p q d x.plus x.minus x.over p' q' d' y.plus y.minus y.over c.plo c.qlo c'.plo c'.qlo);
      phi = rw (lo_add, hi_add) (upper_mul (lo k) (hi k) (lo k') (hi k') (2 ^ 150) E E' p q d x.plus x.minus x.over p' q' d' y.plus y.minus y.over B B'
          (pow_pos 150) c.size c'.size c.phi c.qhi c'.phi c'.qhi);
      qlo = rw (lo_add, hi_add) (lower_mul (lo k) (hi k) (lo k') (hi k') p q d x.plus x.minus x.over q' p' d' y.minus y.plus y.over c.plo c.qlo c'.qlo c'.plo);
      qhi = rw (lo_add, hi_add) (upper_mul (lo k) (hi k) (lo k') (hi k') (2 ^ 150) E E' p q d x.plus x.minus x.over q' p' d' y.minus y.plus y.over B B'
          (pow_pos 150) c.size (le_trans (le_of_eq (add_comm y.minus y.plus)) c'.size) c.phi c.qhi c'.qhi c'.phi);
    }

parts_add : {k B E p q d B' E' p' q' d' : ℕ} {x y : Exact} → PartsNear k B E p q d x → PartsNear k B' E' p' q' d' y
    → PartsNear k (B + B') (E + E') (p * d' + p' * d) (q * d' + q' * d) (d * d') (add_e x y)
unfolding add_e
parts_add {k} {B} {E} {p} {q} {d} {B'} {E'} {p'} {q'} {d'} {x} {y} c c' =
    record {
      pos = mul-pos c.pos c'.pos;
      over = mul-pos c.over c'.over;
      size = size_add x.plus x.minus y.plus y.minus B B' x.over y.over c.size c'.size;
      plo = lower_add (lo k) (hi k) p d x.plus x.over p' d' y.plus y.over c.plo c'.plo;
      phi = upper_add (lo k) (hi k) (2 ^ 150) E E' p d x.plus x.over p' d' y.plus y.over c.phi c'.phi;
      qlo = lower_add (lo k) (hi k) q d x.minus x.over q' d' y.minus y.over c.qlo c'.qlo;
      qhi = upper_add (lo k) (hi k) (2 ^ 150) E E' q d x.minus x.over q' d' y.minus y.over c.qhi c'.qhi;
    }

-- ---- one rounding more
parts_round : {k B E p q d : ℕ} {x : Exact} {z : Float} → PartsNear k B E p q d x → Rounded z p q d → Near (suc k) B (E + 1) z x
parts_round {k} {B} {E} {p} {q} {d} {x} {z} c r =
    record {
      p = r.p;
      q = r.q;
      d = r.d;
      is = r.is;
      close = record {
        pos = r.pos;
        over = c.over;
        size = c.size;
        plo = rw (lo_suc, hi_suc) (lower_trans (lo k) (hi k) 16777216 16777217 p d x.plus x.over r.p r.d c.pos c.plo r.plo);
        phi = rw (lo_suc, hi_suc) (upper_trans (lo k) (hi k) 16777216 16777217 (2 ^ 150) E 1 p d x.plus x.over r.p r.d c.pos (lo_hi k) c.phi r.phi);
        qlo = rw (lo_suc, hi_suc) (lower_trans (lo k) (hi k) 16777216 16777217 q d x.minus x.over r.q r.d c.pos c.qlo r.qlo);
        qhi = rw (lo_suc, hi_suc) (upper_trans (lo k) (hi k) 16777216 16777217 (2 ^ 150) E 1 q d x.minus x.over r.q r.d c.pos (lo_hi k) c.qhi r.qhi);
      };
    }

-- ---- no overflow: what is within these limits is below 2 ^ 127 in size
pub record Fine (k B E : ℕ) : Type 0 where
  pub rank : k ≤ 127
  pub size : B < 2 ^ 125
  pub slack : E ≤ 2 ^ 149

bound_l : (h v p q o : ℕ) → (p + q) * (o * (h * v)) ≡ p * o * (h * v) + q * o * (h * v)
bound_l h v p q o = omega arith

bound_m : (w h E d x y o : ℕ) → w * ((x * h + E * o) * d) + w * ((y * h + E * o) * d) ≡ w * (((x + y) * h + 2 * E * o) * d)
bound_m w h E d x y o = omega arith

bound_r : (v h B d o : ℕ) → 2 * v * ((B * o * h + h * o) * d) ≡ 2 * suc B * d * (o * (h * v))
bound_r v h B d o = omega arith

pub bound : (v w h E B p q d x y o : ℕ) → 0 < o → 0 < h → 0 < v → w ≤ 2 * v → 2 * E ≤ h → x + y ≤ B * o → Upper v w h E p d x o → Upper v w h E q d y o → p + q ≤ 2 * suc B * d
bound v w h E B p q d x y o O H vp l e s u t =
    le_of_mul-le-mul_right (le_trans (by_le (add-le-add u t) (bound_l h v p q o) (bound_m w h E d x y o))
    (le_trans (mul-le-mul l (mul-le-mul_right d (add-le-add (mul-le-mul_right h s) (mul-le-mul_right o e)))) (le_of_eq (bound_r v h B d o)))) (mul-pos O (mul-pos H vp))

parts_bound : {k B E p q d : ℕ} {x : Exact} → PartsNear k B E p q d x → Fine k B E → p + q < 2 ^ 127 * d
parts_bound {k} {B} {E} {p} {q} {d} {x} c f =
    lt_of_le_of_lt (bound (lo k) (hi k) (2 ^ 150) E B p q d x.plus x.minus x.over c.over (pow_pos 150) (lo_pos k) (twice k f.rank) (mul-le-mul_left 2 f.slack) c.size c.phi c.qhi)
    (mul-lt-mul_of_pos_right (lt_of_le_of_lt (mul-le-mul_left 2 f.size) (lit< tt)) c.pos)

-- ---- the rules
pub near_mul : {k B E k' B' E' : ℕ} {f g : Float} {x y : Exact} → Near k B E f x → Near k' B' E' g y → Fine (k + k') (B * B') (E * B' + E' * B + 2 * E * E')
    → Near (suc (k + k')) (B * B') (E * B' + E' * B + 2 * E * E' + 1) (mul binary32 f g) (mul_e x y)
near_mul {f = f} {g = g} m n fine =
    let c = parts_mul m.close n.close in
    parts_round c (mul_rounded f g m.p m.q m.d n.p n.q n.d m.close.pos n.close.pos m.is n.is (parts_bound c fine))

pub near_add : {k B E B' E' : ℕ} {f g : Float} {x y : Exact} → Near k B E f x → Near k B' E' g y → Fine k (B + B') (E + E')
    → Near (suc k) (B + B') (E + E' + 1) (add binary32 f g) (add_e x y)
near_add {f = f} {g = g} m n fine =
    let c = parts_add m.close n.close in
    parts_round c (add_rounded f g m.p m.q m.d n.p n.q n.d m.close.pos n.close.pos m.is n.is (parts_bound c fine))

is_neg : (f : Float) (p q d : ℕ) → Is f p q d → Is (neg f) q p d
unfolding neg
is_neg nan p q d i = i
is_neg (inf s) p q d i = i
is_neg (fin false m e) p q d i = i
is_neg (fin true m e) p q d i = i

pub near_neg : {k B E : ℕ} {f : Float} {x : Exact} → Near k B E f x → Near k B E (neg f) (neg_e x)
unfolding neg_e
near_neg {f = f} {x = x} m =
    let c = m.close in
    record {
      p = m.q;
      q = m.p;
      d = m.d;
      is = is_neg f m.p m.q m.d m.is;
      close = record { pos = c.pos; over = c.over; size = le_trans (le_of_eq (add_comm x.minus x.plus)) c.size; plo = c.qlo; phi = c.qhi; qlo = c.plo; qhi = c.phi };
    }

-- a higher rank, a wider bound, more slack
more_rank : {k B E p q d : ℕ} {x : Exact} (j : ℕ) → PartsNear k B E p q d x → PartsNear (k + j) B E p q d x
more_rank {k} {B} {E} {p} {q} {d} {x} j c =
    record {
      pos = c.pos;
      over = c.over;
      size = c.size;
      plo = rw (lo_add, hi_add) (lower_more (lo k) (hi k) (lo j) (hi j) p d x.plus x.over (lo_hi j) c.plo);
      phi = rw (lo_add, hi_add) (upper_more (lo k) (hi k) (lo j) (hi j) (2 ^ 150) E p d x.plus x.over (lo_hi j) c.phi);
      qlo = rw (lo_add, hi_add) (lower_more (lo k) (hi k) (lo j) (hi j) q d x.minus x.over (lo_hi j) c.qlo);
      qhi = rw (lo_add, hi_add) (upper_more (lo k) (hi k) (lo j) (hi j) (2 ^ 150) E q d x.minus x.over (lo_hi j) c.qhi);
    }

more_slack : {k B E B' E' p q d : ℕ} {x : Exact} → B ≤ B' → E ≤ E' → PartsNear k B E p q d x → PartsNear k B' E' p q d x
more_slack {k} {B} {E} {B'} {E'} {p} {q} {d} {x} b e c =
    record {
      pos = c.pos;
      over = c.over;
      size = le_trans c.size (mul-le-mul_right x.over b);
      plo = c.plo;
      phi = upper_slack (lo k) (hi k) (2 ^ 150) E E' p d x.plus x.over e c.phi;
      qlo = c.qlo;
      qhi = upper_slack (lo k) (hi k) (2 ^ 150) E E' q d x.minus x.over e c.qhi;
    }

pub weaken : {k B E k' B' E' : ℕ} {f : Float} {x : Exact} → k ≤ k' → B ≤ B' → E ≤ E' → Near k B E f x → Near k' B' E' f x
weaken {k} {B} {E} {k'} {B'} {E'} {f} {x} l b e m =
    let j = le_dest l in
    subst (λ (z : ℕ). Near z B' E' f x) j.1
    (record { p = m.p; q = m.q; d = m.d; is = m.is; close = more_slack b e (more_rank j.0 m.close) })

-- ---- a float is itself
exact_lower : (p d : ℕ) → Lower 1 1 p d p d
exact_lower p d = omega arith

exact_upper : (h p d : ℕ) → Upper 1 1 h 0 p d p d
exact_upper h p d = omega arith

is_own : (f : Float) → T (finite f) → Is f (own f).plus (own f).minus (own f).over
unfolding own
is_own nan t = t
is_own (inf s) t = t
is_own (fin false m e) t = omega arith
is_own (fin true m e) t = omega arith

pub own_pos : (f : Float) → 0 < (own f).over
unfolding own
own_pos nan = lit< tt
own_pos (inf s) = lit< tt
own_pos (fin false m e) = down_pos e
own_pos (fin true m e) = down_pos e

pub near_own : {B : ℕ} {f : Float} → T (finite f) → (own f).plus + (own f).minus ≤ B * (own f).over → Near 0 B 0 f (own f)
unfolding lo hi
near_own {B} {f} t s =
    record {
      p = (own f).plus;
      q = (own f).minus;
      d = (own f).over;
      is = is_own f t;
      close = record {
        pos = own_pos f;
        over = own_pos f;
        size = s;
        plo = exact_lower (own f).plus (own f).over;
        phi = exact_upper (2 ^ 150) (own f).plus (own f).over;
        qlo = exact_lower (own f).minus (own f).over;
        qhi = exact_upper (2 ^ 150) (own f).minus (own f).over;
      };
    }

-- ---- a quotient by a float that is not zero, B' at least one over it in size
close_inv : (B : ℕ) (g : Float) → 0 < (inv_e (own g)).over → (inv_e (own g)).plus + (inv_e (own g)).minus ≤ B * (inv_e (own g)).over
    → PartsNear 0 B 0 (inv_e (own g)).plus (inv_e (own g)).minus (inv_e (own g)).over (inv_e (own g))
unfolding lo hi
close_inv B g o s =
    record {
      pos = o;
      over = o;
      size = s;
      plo = exact_lower (inv_e (own g)).plus (inv_e (own g)).over;
      phi = exact_upper (2 ^ 150) (inv_e (own g)).plus (inv_e (own g)).over;
      qlo = exact_lower (inv_e (own g)).minus (inv_e (own g)).over;
      qhi = exact_upper (2 ^ 150) (inv_e (own g)).minus (inv_e (own g)).over;
    }

pub near_div : {k B E : ℕ} {f : Float} {x : Exact} (B' : ℕ) (g : Float) → Near k B E f x → T (finite g) → 0 < (inv_e (own g)).over
    → (inv_e (own g)).plus + (inv_e (own g)).minus ≤ B' * (inv_e (own g)).over → Fine (k + 0) (B * B') (E * B' + 0 * B + 2 * E * 0)
    → Near (suc (k + 0)) (B * B') (E * B' + 0 * B + 2 * E * 0 + 1) (div binary32 f g) (mul_e x (inv_e (own g)))
near_div {f = f} B' g m t o s fine =
    let c = parts_mul m.close (close_inv B' g o s) in
    parts_round c (div_rounded f g m.p m.q m.d m.close.pos m.is (is_own g t) o (parts_bound c fine))

pub finite_is : (f : Float) (p q d : ℕ) → Is f p q d → T (finite f)
finite_is nan p q d i = i
finite_is (inf s) p q d i = i
finite_is (fin s m e) p q d i = tt
