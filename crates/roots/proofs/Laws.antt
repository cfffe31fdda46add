-- The laws of `sqrt_of`, for an x that an `f32` holds, finite and above zero. Assumes nothing.
-- `is_root`: it is the `f32` nearest to the root. `one_root`: no other is. `relative`, `squared`: how far off it is. At the end what holds at zero too.
use mathlib.Core.Path.{◌≡◌, refl, sym, ap, ◌∙◌, subst}
use Prim.Native.Nat.{ℕ, zero, suc, ◌+◌, ◌-◌, ◌*◌, ◌/◌, ◌%◌, ◌^◌, ◌≤◌, ◌<◌, zero-le}
use native.Mathlib.Nat.{mul-pos, add_comm, mul-le-mul_right, mul-mul-mul_comm, lt_of_lt_of_le, le_of_mul-le-mul_right, zero-mul, zero-lt-suc}
use native.Mathlib.Omega.{arith}
use mathlib.Core.Bool.{true, false}
use lib.Dec.{T, lt→ltb, lit<}
use lib.Pow.{pow_pos, pow-add, pow_mono, shl_lt}
use lib.Ieee.{Float, nan, inf, fin, binary32, odd, size, to_bits, fits, le}
use lib.Ieee.Fits.{odd-fits}
use lib.Ieee.Exact.{HasValue, odd_sign}
use lib.Ieee.Order.{le_of_values}
use lib.Ieee.Positive.{positive, positive-finite, positive_of_value, value_pos, values_of_le}
use lib.Ieee.Scale.{finite}
use Rattle.exact.specs.Exact.{units_of}
use Rattle.float32.specs.Bits.{float_of}
use Rattle.roots.specs.Root.{sqrt_of, rootable, clear, nearest_root, IsRoot}
use Rattle.roots.specs.Parts.{Nearest, Lifted, spread, shift}
use Rattle.float32.proofs.Bits.{float_back}
use Rattle.roots.proofs.Powers.{placed, lift, M, F}
use Rattle.roots.proofs.Whole.{nearest_is, spread_even, spread_odd}
use Rattle.float32.proofs.Patterns.{pattern, subnormal, not_positive}
use Rattle.roots.proofs.Floats.{keeps, value, units_is, root_written}
use Rattle.roots.proofs.Spacing.{up_is_farther, down_is_farther, square_lt, relative_up, relative_down, square_up, square_down}

-- ---- an `f32` that is finite and above zero is m * 2 ^ k units, m with 24 digits at most
pub record Grid (y : Float) : Type 0 where
  pub m : ℕ
  pub k : ℕ
  pub some : 0 < m
  pub few : m < 2 ^ 24
  pub high : k ≤ 253
  pub has : HasValue y false (m * 2 ^ k) (2 ^ 149)

pub grid_of : (y : Float) → T (fits binary32 y) → T (positive y) → Grid y
grid_of y held p = go (to_bits binary32 y / 2 ^ 23) refl
  where
    finite : 0x7f80_0000 ≤ to_bits binary32 y → ⊥
    finite h = not_positive (to_bits binary32 y) h (subst (λ (z : Float). T (positive z)) (sym (float_back y held)) p)

    go : (e : ℕ) → to_bits binary32 y / 2 ^ 23 ≡ e → Grid y
    go zero e =
        let v : HasValue y false (to_bits binary32 y * 2 ^ 0) (2 ^ 149) = value y held (to_bits binary32 y) 0 (subnormal (to_bits binary32 y) (omega arith)) in
        let s = value_pos y (to_bits binary32 y * 2 ^ 0) (2 ^ 149) p (pow_pos 149) v in
        record { m = to_bits binary32 y; k = 0; some = omega arith; few = omega arith; high = omega arith; has = v }
    go (suc j) e =
        let q = to_bits binary32 y % 2 ^ 23 + 2 ^ 23 in
        let f = finite in
        let i : j * 2 ^ 23 + q ≡ to_bits binary32 y = omega arith in
        record { m = q; k = j; some = omega arith; few = omega arith; high = omega arith; has = value y held q j (rw i at (pattern j q (omega arith) (omega arith) (omega arith))) }

-- ---- the root's parts
pub record Shape (x : Float) : Type 0 where
  pub q : ℕ
  pub j : ℕ
  pub X : ℕ
  pub near : Nearest X q
  pub least : 2 ^ 46 ≤ X
  pub small : j ≤ 189
  pub same : units_of x * 2 ^ 149 ≡ X * (2 ^ j * 2 ^ j)
  pub root : sqrt_of x ≡ odd 24 false q j 149

shape_of_lifted : (x : Float) (n m f : ℕ) → HasValue x false n (2 ^ 149) → 0 < n → Lifted n m f → Shape x
shape_of_lifted x n m f v p l = go (f % 2) refl
  where
    squared : (i : ℕ) → f + 84 ≡ i + 2 * shift f → units_of x * 2 ^ 149 ≡ m * 2 ^ i * (2 ^ shift f * 2 ^ shift f)
    squared i h =
        let e : 2 * shift f ≡ shift f + shift f = omega arith in
        ap (λ (z : ℕ). z * 2 ^ 149) (units_is x n v) ∙ placed n m f i (2 * shift f) l.same h ∙ ap (λ (z : ℕ). m * 2 ^ i * z) (ap (λ (z : ℕ). 2 ^ z) e ∙ pow-add 2 (shift f) (shift f))

    made : (X : ℕ) → X ≡ spread m f → 2 ^ 46 ≤ X → X ≤ 2 ^ 48 - 2 ^ 24 → units_of x * 2 ^ 149 ≡ X * (2 ^ shift f * 2 ^ shift f) → Shape x
    made X e low top s =
        let t = l.to in
        record { q = nearest_root X; j = shift f; X = X; near = nearest_is X low top; least = low; small = omega arith; same = s; root = rw e (root_written n m f l x v p) }

    go : (r : ℕ) → f % 2 ≡ r → Shape x
    go zero e = let a = l.least in let b = l.most in made (m * 2 ^ 24) (spread_even m f e) (omega arith) (omega arith) (squared 24 (omega arith))
    go (suc r) e = let a = l.least in let b = l.most in made (m * 2 ^ 23) (spread_odd m f (λ z. omega arith)) (omega arith) (omega arith) (squared 23 (omega arith))

pub shape : (x : Float) → T (fits binary32 x) → T (positive x) → Shape x
shape x held p =
    let g = grid_of x held p in
    let n = g.m * 2 ^ g.k in
    shape_of_lifted x n (M n g.m g.k refl g.some g.few g.high) (F n g.m g.k refl g.some g.few g.high) g.has (mul-pos g.some (pow_pos g.k)) (lift n g.m g.k refl g.some g.few g.high)

-- ---- the laws
module _ (x : Float) (held : T (fits binary32 x)) (p : T (positive x)) where
  S : Shape x
  S = shape x held p

  root_has : HasValue (sqrt_of x) false (S.q * 2 ^ S.j) (2 ^ 149)
  root_has = subst (λ (y : Float). HasValue y false (S.q * 2 ^ S.j) (2 ^ 149)) (sym S.root) (odd_sign 24 false S.q S.j 149)

  root_units_lem : units_of (sqrt_of x) ≡ S.q * 2 ^ S.j
  root_units_lem = units_is (sqrt_of x) (S.q * 2 ^ S.j) root_has

  root_fits : T (fits binary32 (sqrt_of x))
  root_fits =
      let m = S.near.most in
      let t = S.small in
      let o : S.q * 2 ^ S.j < 2 ^ (149 + 128) = lt_of_lt_of_le (shl_lt 24 S.j m) (pow_mono {j = 149 + 128} (omega arith)) in
      subst (λ (y : Float). T (fits binary32 y)) (sym S.root) (odd-fits binary32 24 false S.q S.j m (omega arith) o)

  root_positive : T (positive (sqrt_of x))
  root_positive = let l = S.near.least in positive_of_value (sqrt_of x) (S.q * 2 ^ S.j) (2 ^ 149) root_has (mul-pos (omega arith) (pow_pos S.j))

  pub is_root : IsRoot x (sqrt_of x)
  is_root = record {
    held = root_fits;
    above_zero = root_positive;
    below_others = λ y h k. (let g = grid_of y h k in rw (S.same, root_units_lem, units_is y (g.m * 2 ^ g.k) g.has) (up_is_farther S.X S.q S.j S.near S.least g.m g.k g.few));
    above_others = λ y h k. (let g = grid_of y h k in rw (S.same, root_units_lem, units_is y (g.m * 2 ^ g.k) g.has) (down_is_farther S.X S.q S.j S.near S.least g.m g.k g.few));
  }

  -- √x / r is within 2 ^ -24 of 1: (1 - 2 ^ -24) ^ 2 ≤ x / r ^ 2 ≤ (1 + 2 ^ -24) ^ 2
  pub relative :
      (2 ^ 48 * (units_of x * 2 ^ 149) ≤ (2 ^ 24 + 1) * (2 ^ 24 + 1) * (units_of (sqrt_of x) * units_of (sqrt_of x)))
      × ((2 ^ 24 - 1) * (2 ^ 24 - 1) * (units_of (sqrt_of x) * units_of (sqrt_of x)) ≤ 2 ^ 48 * (units_of x * 2 ^ 149))
  relative =
      rw (S.same, root_units_lem, mul-mul-mul_comm S.q (2 ^ S.j) S.q (2 ^ S.j))
      (relative_up S.X S.q (2 ^ S.j * 2 ^ S.j) S.near, relative_down S.X S.q (2 ^ S.j * 2 ^ S.j) S.near)

  -- r * r is within 2 ^ -23 of itself of x
  pub squared :
      (2 ^ 23 * (units_of x * 2 ^ 149) ≤ (2 ^ 23 + 1) * (units_of (sqrt_of x) * units_of (sqrt_of x)))
      × ((2 ^ 23 - 1) * (units_of (sqrt_of x) * units_of (sqrt_of x)) ≤ 2 ^ 23 * (units_of x * 2 ^ 149))
  squared =
      rw (S.same, root_units_lem, mul-mul-mul_comm S.q (2 ^ S.j) S.q (2 ^ S.j))
      (square_up S.X S.q (2 ^ S.j * 2 ^ S.j) S.near, square_down S.X S.q (2 ^ S.j * 2 ^ S.j) S.near)

-- ---- no other is the root
-- the bits of a value above zero, by its size
bits_of : ℕ → ℕ
unfolding size
bits_of n = let k = size n - 24 in 0 + k * 2 ^ 23 + n / 2 ^ k

bits_by_units : (y : Float) → T (positive y) → to_bits binary32 y ≡ bits_of (units_of y)
unfolding to_bits bits_of
bits_by_units nan p = absurd p
bits_by_units (inf s) p = absurd p
bits_by_units (fin true m e) p = absurd p
bits_by_units (fin false m e) p = refl

same_units : (y z : Float) → T (fits binary32 y) → T (fits binary32 z) → T (positive y) → T (positive z) → units_of y ≡ units_of z → y ≡ z
same_units y z f g p q e = sym (float_back y f) ∙ ap float_of (bits_by_units y p ∙ ap bits_of e ∙ sym (bits_by_units z q)) ∙ float_back z g

-- two numbers of which neither is less
no_order : (a b n : ℕ) → (a < b → n < (b + a) * (b + a)) → (a < b → (a + b) * (a + b) < n) → a < b → ⊥
no_order a b n f g h =
    let k : (a + b) * (a + b) < n = g h in
    let l : (b + a) * (b + a) < n = rw (add_comm a b) at k in
    omega (arith, f h)

pub one_root : (x r s : Float) → IsRoot x r → IsRoot x s → r ≡ s
one_root x r s u v =
    let a : units_of r < units_of s → ⊥ = no_order (units_of r) (units_of s) (4 * (units_of x * 2 ^ 149)) (u.below_others s v.held v.above_zero) (v.above_others r u.held u.above_zero) in
    let b : units_of s < units_of r → ⊥ = no_order (units_of s) (units_of r) (4 * (units_of x * 2 ^ 149)) (v.below_others r u.held u.above_zero) (u.above_others s v.held v.above_zero) in
    same_units r s u.held v.held u.above_zero v.above_zero (omega arith)

-- ---- more of it
-- nothing is cut off where a size is taken in units
pub own_units : (y : Float) → T (fits binary32 y) → T (positive y) → HasValue y false (units_of y) (2 ^ 149)
own_units y h p = let g = grid_of y h p in rw (units_is y (g.m * 2 ^ g.k) g.has) g.has

-- a larger x has no smaller root
pub root_mono : (x y r s : Float) → IsRoot x r → IsRoot y s → units_of x ≤ units_of y → units_of r ≤ units_of s
root_mono x y r s u v h =
    let k : units_of x * 2 ^ 149 ≤ units_of y * 2 ^ 149 = mul-le-mul_right (2 ^ 149) h in
    let c : units_of s < units_of r → ⊥ = λ l. crossed (units_of x * 2 ^ 149) (units_of y * 2 ^ 149) (units_of r) (units_of s) k (u.above_others s v.held v.above_zero l) (v.below_others r u.held u.above_zero l) in
    omega arith
  where
    crossed : (n o a b : ℕ) → n ≤ o → (b + a) * (b + a) < 4 * n → 4 * o < (a + b) * (a + b) → ⊥
    crossed n o a b i f g = let j : 4 * o < (b + a) * (b + a) = rw (add_comm a b) at g in omega arith

-- an x that is the square of an `f32` has that for its root
pub exact_root : (x r : Float) → T (fits binary32 r) → T (positive r) → units_of x * 2 ^ 149 ≡ units_of r * units_of r → IsRoot x r
exact_root x r f p e = record {
  held = f;
  above_zero = p;
  below_others = λ y h k l. rw e (omega (arith, square_lt (2 * units_of r) (units_of y + units_of r) (omega arith), mul-mul-mul_comm 2 (units_of r) 2 (units_of r)));
  above_others = λ y h k l. rw e (omega (arith, square_lt (units_of y + units_of r) (2 * units_of r) (omega arith), mul-mul-mul_comm 2 (units_of r) 2 (units_of r)));
}

-- ---- for an x that may be zero
-- the root of a finite number that is not below zero is one
pub root_kept : (x : Float) → T (fits binary32 x) → T (clear x) → T (finite x) → T (clear (sqrt_of x)) × T (finite (sqrt_of x))
unfolding clear rootable
root_kept nan f c t = absurd c
root_kept (inf s) f c t = absurd t
root_kept (fin true m e) f c t = absurd c
root_kept (fin false zero e) f c t = subst (λ (r : Float). T (clear r) × T (finite r)) (keeps (fin false zero e) tt (λ z. z)) (tt, tt)
root_kept (fin false (suc m) e) f c t =
    let p : T (positive (sqrt_of (fin false (suc m) e))) = root_positive (fin false (suc m) e) f (lt→ltb 0 (suc m) (zero-lt-suc m)) in
    (clear_positive (sqrt_of (fin false (suc m) e)) p, positive-finite (sqrt_of (fin false (suc m) e)) p)
  where
    clear_positive : (y : Float) → T (positive y) → T (clear y)
    clear_positive nan p = absurd p
    clear_positive (inf s) p = absurd p
    clear_positive (fin true m e) p = absurd p
    clear_positive (fin false m e) p = tt

-- and it is at most s, where x is at most a y that has the root s
pub root_le : (x y s : Float) → T (fits binary32 x) → T (clear x) → T (finite x) → T (fits binary32 y) → T (positive y) → IsRoot y s → T (le x y) → T (le (sqrt_of x) s)
unfolding clear rootable
root_le nan y s f c t g p i l = absurd c
root_le (inf b) y s f c t g p i l = absurd t
root_le (fin true m e) y s f c t g p i l = absurd c
root_le (fin false zero e) y s f c t g p i l =
    subst (λ (r : Float). T (le r s)) (keeps (fin false zero e) tt (λ z. z))
    (le_of_values (fin false zero e) s 0 1 (units_of s) (2 ^ 149) (lit< tt) (pow_pos 149) (refl, simp zero-mul) (own_units s i.held i.above_zero) (simp zero-mul zero-le))
root_le (fin false (suc m) e) y s f c t g p i l =
    let x = fin false (suc m) e in
    let q : T (positive x) = lt→ltb 0 (suc m) (zero-lt-suc m) in
    let r = is_root x f q in
    let h : units_of x * 2 ^ 149 ≤ units_of y * 2 ^ 149 = values_of_le x y (units_of x) (2 ^ 149) (units_of y) (2 ^ 149) q p (own_units x f q) (own_units y g p) l in
    le_of_values (sqrt_of x) s (units_of (sqrt_of x)) (2 ^ 149) (units_of s) (2 ^ 149) (pow_pos 149) (pow_pos 149) (own_units (sqrt_of x) r.held r.above_zero) (own_units s i.held i.above_zero)
    (mul-le-mul_right (2 ^ 149) (root_mono x y (sqrt_of x) s r i (le_of_mul-le-mul_right h (pow_pos 149))))
