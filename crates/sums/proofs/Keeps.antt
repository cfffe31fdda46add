-- `Keeps o o'`: each operation of o, on floats, stays near the same operation of o', on exact numbers, by the rules of nearness.
-- The laws of the recurrences ask for no more, so they hold for every such pair.
use Prim.Native.Nat.{ℕ, ◌+◌, ◌*◌, ◌≤◌, ◌<◌}
use native.Mathlib.Nat.{le-suc, le_refl, le-add_right}
use lib.Dec.{T}
use lib.Ieee.{Float}
use lib.Ieee.Scale.{finite}
use Rattle.exact.specs.Exact.{Exact, inv_e, own}
use Rattle.exact.proofs.Near.{near_div, near_neg}
use Rattle.exact.proofs.Ranks.{Abs, FineA, Leaf, Nr, add_a, fine_below, leaf_a, mul_a, nr_add, nr_mul, nr_sub}
use Rattle.sums.specs.Arithmetic.{Arithmetic, rounded, unrounded}

-- 1 / g is at most B in size, and g is a float other than 0
pub record Divides (B : ℕ) (g : Float) : Type 0 where
  pub is_finite : T (finite g)
  pub over : 0 < (inv_e (own g)).over
  pub size : (inv_e (own g)).plus + (inv_e (own g)).minus ≤ B * (inv_e (own g)).over

pub record Keeps (o : Arithmetic Float) (o' : Arithmetic Exact) : Type 0 where
  -- a float of size at most B, as it is read
  pub num : {B : ℕ} {f : Float} → Leaf B f → Nr (leaf_a B) (o.num f) (o'.num f)
  -- sums, differences, products: one rank more than their parts
  pub plus : {a b : Abs} {f g : Float} {x y : Exact} → Nr a f x → Nr b g y → FineA (add_a a b) → Nr (add_a a b) (o.plus f g) (o'.plus x y)
  pub less : {a b : Abs} {f g : Float} {x y : Exact} → Nr a f x → Nr b g y → FineA (add_a a b) → Nr (add_a a b) (o.less f g) (o'.less x y)
  pub times : {a b : Abs} {f g : Float} {x y : Exact} → Nr a f x → Nr b g y → FineA (mul_a a b) → Nr (mul_a a b) (o.times f g) (o'.times x y)
  -- the opposite: nothing is rounded
  pub opp : {a : Abs} {f : Float} {x : Exact} → Nr a f x → Nr a (o.opp f) (o'.opp x)
  -- a quotient is a product by 1 / g, of size at most B
  pub over : {a : Abs} {f : Float} {x : Exact} (B : ℕ) (g : Float) → Nr a f x → Divides B g → FineA (mul_a a (leaf_a B)) → Nr (mul_a a (leaf_a B)) (o.over f g) (o'.over x g)

-- a rounded quotient
pub nr_div : {a : Abs} {f : Float} {x : Exact} (B : ℕ) (g : Float) → Nr a f x → Divides B g → FineA (mul_a a (leaf_a B)) → Nr (mul_a a (leaf_a B)) (rounded.over f g) (unrounded.over x g)
unfolding rounded unrounded
nr_div {a} B g m d F =
    near_div B g m d.is_finite d.over d.size (fine_below F (le-suc (a.rank + 0)) (le_refl (a.size * B)) (le-add_right (a.slack * B + 0 * a.size + 2 * a.slack * 0) 1))

-- f32 against exact numbers
pub rounded_keeps : Keeps rounded unrounded
unfolding rounded unrounded
rounded_keeps =
    record {
      num = λ {B} {f} l. l;
      plus = λ {a} {b} {f} {g} {x} {y} m n F. nr_add {a = a} {b = b} m n F;
      less = λ {a} {b} {f} {g} {x} {y} m n F. nr_sub {a = a} {b = b} m n F;
      times = λ {a} {b} {f} {g} {x} {y} m n F. nr_mul {a = a} {b = b} m n F;
      opp = λ {a} {f} {x} m. near_neg m;
      over = λ {a} {f} {x} B g m d F. nr_div {a = a} B g m d F;
    }
