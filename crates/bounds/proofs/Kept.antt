-- Sizes in f32 keep near exact sizes, by the same rules of nearness as the sums themselves.
use mathlib.Core.Path.{◌≡◌, refl, sym, ◌∙◌}
use Prim.Native.Nat.{ℕ, ◌+◌}
use native.Mathlib.Omega.{arith}
use mathlib.Core.Bool.{true, false}
use lib.Dec.{T}
use lib.Ieee.{Float, nan, inf, fin}
use lib.Ieee.Positive.{num, den}
use lib.Ieee.Scale.{finite}
use Rattle.exact.specs.Tests.{abs}
use Rattle.exact.specs.Exact.{inv_e, own}
use Rattle.exact.proofs.Near.{finite_is, near_own}
use Rattle.exact.proofs.Ranks.{Leaf, nr_add, nr_mul}
use Rattle.exact.proofs.Sizes.{AtMost, own_over, own_size}
use Rattle.sums.specs.Arithmetic.{rounded, unrounded}
use Rattle.sums.proofs.Keeps.{Divides, Keeps, nr_div}
use Rattle.bounds.specs.Bounds.{absolutes, bounds}

-- ---- the size of a float: finite where the float is, and as large
abs_finite : (f : Float) → T (finite f) → T (finite (abs f))
abs_finite nan t = t
abs_finite (inf s) t = t
abs_finite (fin s m e) t = t

abs_num : (f : Float) → num (abs f) ≡ num f
abs_num nan = refl
abs_num (inf s) = refl
abs_num (fin s m e) = refl

abs_den : (f : Float) → den (abs f) ≡ den f
abs_den nan = refl
abs_den (inf s) = refl
abs_den (fin s m e) = refl

pub abs_size : (f : Float) → (own (abs f)).plus + (own (abs f)).minus ≡ (own f).plus + (own f).minus
abs_size f = own_size (abs f) ∙ abs_num f ∙ sym (own_size f)

pub abs_over : (f : Float) → (own (abs f)).over ≡ (own f).over
abs_over f = own_over (abs f) ∙ abs_den f ∙ sym (own_over f)

abs_leaf : {B : ℕ} {f : Float} → Leaf B f → Leaf B (abs f)
abs_leaf {B} {f} l =
    let s : AtMost B f = l.close.size in
    near_own (abs_finite f (finite_is f l.p l.q l.d l.is)) (rw (abs_size f, abs_over f) s)

-- ---- one over it
inv_size : (f : Float) → (inv_e (own (abs f))).plus + (inv_e (own (abs f))).minus ≡ (inv_e (own f)).plus + (inv_e (own f)).minus
unfolding own inv_e
inv_size nan = refl
inv_size (inf s) = refl
inv_size (fin false m e) = refl
inv_size (fin true m e) = omega arith

inv_over : (f : Float) → (inv_e (own (abs f))).over ≡ (inv_e (own f)).over
unfolding own inv_e
inv_over nan = refl
inv_over (inf s) = refl
inv_over (fin false m e) = refl
inv_over (fin true m e) = omega arith

abs_divides : {B : ℕ} {g : Float} → Divides B g → Divides B (abs g)
abs_divides {B} {g} d = record { is_finite = abs_finite g d.is_finite; over = rw (inv_over g) d.over; size = rw (inv_size g, inv_over g) d.size }

-- ---- the operations
pub bounds_keep : Keeps bounds absolutes
unfolding bounds absolutes rounded unrounded
bounds_keep =
    record {
      num = λ {B} {f} l. abs_leaf l;
      plus = λ {a} {b} {f} {g} {x} {y} m n F. nr_add {a = a} {b = b} m n F;
      less = λ {a} {b} {f} {g} {x} {y} m n F. nr_add {a = a} {b = b} m n F;
      times = λ {a} {b} {f} {g} {x} {y} m n F. nr_mul {a = a} {b = b} m n F;
      opp = λ {a} {f} {x} m. m;
      over = λ {a} {f} {x} B g m d F. nr_div {a = a} B (abs g) m (abs_divides d) F;
    }
