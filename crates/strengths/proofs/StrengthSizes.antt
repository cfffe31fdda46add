-- H and F of a record that passes the test of refusal 12 are finite: H is at most 2 ^ 62, F at most 2 ^ 63. Assumes nothing.
use mathlib.Core.Path.{◌≡◌, refl, sym, subst}
use Prim.Native.Nat.{ℕ, suc, ◌+◌, ◌*◌, ◌^◌, ◌≤◌}
use native.Mathlib.Nat.{le_trans, mul-le-mul_right}
use native.Mathlib.Omega.{arith}
use mathlib.Core.Bool.{Bool, true, false, not, ◌&&◌}
use lib.Dec.{T, lit<, lit≤}
use lib.IntN.{pos}
use lib.Ieee.{Float, nan, inf, fin, binary32, up, down, is_nan, fits, of_bits, add, mul, le}
use lib.Ieee.Fits.{add-fits, and_l, and_r, down_pos}
use lib.Ieee.Order.{le_of_values}
use lib.Ieee.Scale.{finite}
use Rattle.exact.specs.Exact.{own}
use Rattle.exact.proofs.Near.{finite_is}
use Rattle.exact.proofs.Ranks.{Abs, Leaf, leaf_a, add_a, mul_a, ok_a, fine_ok, nr_mul, nr_add}
use Rattle.exact.proofs.Reach.{near_size}
use Rattle.exact.proofs.Sizes.{size_leaf}
use Rattle.exact.specs.Tests.{capped}
use Rattle.roots.specs.Root.{clear, IsRoot}
use Rattle.roots.proofs.Signs.{abs_clear, clear_square, clear_add}
use Rattle.roots.proofs.Laws.{exact_root, root_kept, root_le}
use Rattle.strengths.specs.declared.GeomagneticField.{GeomagneticField}
use Rattle.strengths.specs.Strengths.{max_component, usable, hypot_of, h_of, f_of}

abbrev power : ℕ → Float
power k = fin false 1 (pos k)

-- finite, not below zero, and at most 2 ^ k
record Fit (k : ℕ) (f : Float) : Type 0 where
  is_finite : T (finite f)
  is_clear : T (clear f)
  most : T (le f (power k))

fit_leaf : {k : ℕ} {f : Float} → Fit k f → Leaf (2 ^ k) f
fit_leaf {k} {f} t = size_leaf (2 ^ k) 1 (pos k) f (omega arith) (subst (λ (a : Float). T (le a (power k))) (sym (abs_clear f t.is_clear)) t.most)

no_nan : (f : Float) → T (finite f) → T (not (is_nan f))
unfolding is_nan
no_nan nan t = absurd t
no_nan (inf s) t = tt
no_nan (fin s m e) t = tt

at_most : (k : ℕ) (f : Float) → T (clear f) → T (finite f) → (own f).plus + (own f).minus ≤ 2 ^ k * (own f).over → T (le f (power k))
unfolding clear own
at_most k nan c t h = absurd c
at_most k (inf s) c t h = absurd t
at_most k (fin true m e) c t h = absurd c
at_most k (fin false m e) c t h = le_of_values (fin false m e) (power k) (m * up e) (down e) (2 ^ k) 1 (down_pos e) (lit< tt) (refl, refl) (refl, omega arith) (omega arith)

abbrev square_a : ℕ → Abs
square_a B = mul_a (leaf_a B) (leaf_a B)

-- the root of a · a + b · b, for an a of size at most A and a b of size at most 2 ^ 60; the sum is at most 2 ^ j, whose root is 2 ^ k
module _ (A j k : ℕ) (t : T (ok_a (square_a A))) (u : T (ok_a (add_a (square_a A) (square_a (2 ^ 60))))) (l : 2 * suc (A * A + 2 ^ 60 * 2 ^ 60) ≤ 2 ^ j) (g : T (fits binary32 (power j))) (r : IsRoot (power j) (power k)) where
  hypot_fit : (a b : Float) → Leaf A a → Leaf (2 ^ 60) b → Fit k (hypot_of a b)
  hypot_fit a b m n =
      let s = add binary32 (mul binary32 a a) (mul binary32 b b) in
      let F = fine_ok (add_a (square_a A) (square_a (2 ^ 60))) u in
      let z = near_size (nr_add (nr_mul m m (fine_ok (square_a A) t)) (nr_mul n n (fine_ok (square_a (2 ^ 60)) tt)) F) F in
      let c : T (clear s) = clear_add binary32 (mul binary32 a a) (mul binary32 b b) (clear_square binary32 a (no_nan a (finite_is a m.p m.q m.d m.is))) (clear_square binary32 b (no_nan b (finite_is b n.p n.q n.d n.is))) in
      let h : T (fits binary32 s) = add-fits binary32 (mul binary32 a a) (mul binary32 b b) in
      let x = at_most j s c z.0 (le_trans z.1 (mul-le-mul_right (own s).over l)) in
      let o = root_kept s h c z.0 in
      record { is_finite = o.1; is_clear = o.0; most = root_le s (power j) (power k) h c z.0 g tt r x }

root_124 : IsRoot (power 124) (power 62)
unfolding fits
root_124 = exact_root (power 124) (power 62) tt tt refl

root_126 : IsRoot (power 126) (power 63)
unfolding fits
root_126 = exact_root (power 126) (power 63) tt tt refl

component : (x : Float) → T (capped max_component x) → Leaf (2 ^ 60) x
unfolding capped of_bits
component x t = size_leaf (2 ^ 60) _ _ x (lit≤ tt) t

leaf_finite : (x : Float) → Leaf (2 ^ 60) x → T (finite x)
leaf_finite x l = finite_is x l.p l.q l.d l.is

pub component_finite : (x : Float) → T (capped max_component x) → T (finite x)
component_finite x t = leaf_finite x (component x t)

module _ (v : GeomagneticField) (u : usable v ≡ true) where
  pub components : Leaf (2 ^ 60) v.x × Leaf (2 ^ 60) v.y × Leaf (2 ^ 60) v.z
  unfolding usable
  components =
      let c : Float → Bool = capped max_component in
      let t : T (usable v) = subst T (sym u) tt in
      let xy = and_l (c v.x && c v.y) (c v.z) t in
      (component v.x (and_l (c v.x) (c v.y) xy), component v.y (and_r (c v.x) (c v.y) xy), component v.z (and_r (c v.x && c v.y) (c v.z) t))

  h_fit : Fit 62 (h_of v)
  unfolding h_of fits
  h_fit = hypot_fit (2 ^ 60) 124 62 tt tt (lit≤ tt) tt root_124 v.x v.y components.0 components.1

  f_fit : Fit 63 (f_of v)
  unfolding f_of fits
  f_fit = hypot_fit (2 ^ 62) 126 63 tt tt (lit≤ tt) tt root_126 (h_of v) v.z (fit_leaf h_fit) components.2

  pub h_finite : T (finite (h_of v))
  h_finite = h_fit.is_finite

  -- it has no minus
  pub h_clear : T (clear (h_of v))
  h_clear = h_fit.is_clear

  pub components_finite : T (finite v.x) × T (finite v.y) × T (finite v.z)
  components_finite = (leaf_finite v.x components.0, leaf_finite v.y components.1, leaf_finite v.z components.2)

  pub h_most : T (le (h_of v) (of_bits binary32 0x5e800000))
  unfolding of_bits
  h_most = h_fit.most

  pub f_finite : T (finite (f_of v))
  f_finite = f_fit.is_finite

  pub f_most : T (le (f_of v) (of_bits binary32 0x5f000000))
  unfolding of_bits
  f_most = f_fit.most
