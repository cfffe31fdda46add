-- The root of an `f32`: what `rounded_root` returns on each of its ways is `sqrt_of`. Assumes nothing.
use mathlib.Core.Path.{◌≡◌, refl, sym, ap, ◌∙◌, subst}
use Prim.Native.Nat.{ℕ, zero, suc, ◌+◌, ◌-◌, ◌*◌, ◌/◌, ◌%◌, ◌^◌, ◌≤◌, ◌<◌}
use native.Mathlib.Nat.{div-eq_of_eq-mul_left, mul-one, mul_assoc, mul-pos}
use native.Mathlib.Omega.{arith}
use mathlib.Core.Bool.{true, false, not}
use mathlib.Core.Logic.{◌⊎◌, ⊎_elim}
use lib.Dec.{T, eqb→eq, lt→ltb}
use lib.Pow.{pow_pos, pow-add}
use lib.Ieee.{Float, nan, inf, fin, binary32, odd, size, of_bits, to_bits, fits, is_nan, nan_bits}
use lib.Ieee.Fits.{down_pos}
use lib.Ieee.Exact.{HasValue, odd_sign}
use lib.Ieee.Positive.{positive, positive_of_value}
use Rattle.exact.specs.Exact.{units_of}
use Rattle.roots.specs.Root.{root_units, sqrt_of, rootable, nearest_root}
use Rattle.roots.specs.Parts.{Lifted, Packed, spread, shift}
use Rattle.float32.proofs.Bits.{float_back, low_no_nan}
use Rattle.roots.proofs.Powers.{digits, places}
use Rattle.roots.proofs.Whole.{spread_even, spread_odd}
use Rattle.float32.proofs.Patterns.{pattern, subnormal, not_positive}

pub is_no_nan : (x : Float) → T (rootable x) → T (not (is_nan x))
unfolding rootable is_nan
is_no_nan nan p = absurd p
is_no_nan (inf s) p = tt
is_no_nan (fin s m e) p = tt

never : (m : ℕ) → suc m ≡ 0 → ⊥
never m e = omega arith

-- a value that is not above zero and finite is its own root
pub keeps : (x : Float) → T (rootable x) → (T (positive x) → ⊥) → x ≡ sqrt_of x
unfolding rootable sqrt_of
keeps nan p n = refl
keeps (inf true) p n = absurd p
keeps (inf false) p n = refl
keeps (fin s zero e) p n = refl
keeps (fin true (suc m) e) p n = absurd (never m (eqb→eq (suc m) 0 p))
keeps (fin false (suc m) e) p n = absurd (n (lt→ltb 0 (suc m) (omega arith)))

-- ---- above zero and finite
pub units_is : (x : Float) (n : ℕ) → HasValue x false n (2 ^ 149) → units_of x ≡ n
units_is nan n h = absurd h
units_is (inf s) n h = absurd h
units_is (fin s m e) n h = div-eq_of_eq-mul_left (down_pos e) h.1

root_is : (x : Float) → T (positive x) → sqrt_of x ≡ root_units (units_of x)
unfolding sqrt_of
root_is nan p = absurd p
root_is (inf s) p = absurd p
root_is (fin true m e) p = absurd p
root_is (fin false zero e) p = absurd p
root_is (fin false (suc m) e) p = refl

root_units_is : (n : ℕ) → root_units n ≡ odd 24 false (nearest_root (n * 2 ^ 149 / 2 ^ (2 * ((size n + 102) / 2)))) ((size n + 102) / 2) 149
unfolding root_units
root_units_is n = refl

module _ (n m f : ℕ) (l : Lifted n m f) where
  size_is : size n ≡ f - 41
  size_is =
      let a : f ≡ (f - 42) + 42 = (let b = l.from in omega arith) in
      let d = digits n m (f - 42) l.least l.most (l.same ∙ ap (λ (z : ℕ). m * 2 ^ z) a) in
      omega arith

  pub shift_is : (size n + 102) / 2 ≡ shift f
  shift_is = let a = size_is in let b = l.from in omega arith

  pub spread_is : n * 2 ^ 149 / 2 ^ (2 * shift f) ≡ spread m f
  spread_is = go (f % 2) refl
    where
      go : (r : ℕ) → f % 2 ≡ r → n * 2 ^ 149 / 2 ^ (2 * shift f) ≡ spread m f
      go zero e = places n m f 24 (2 * shift f) l.same (omega arith) ∙ spread_even m f e
      go (suc r) e = places n m f 23 (2 * shift f) l.same (omega arith) ∙ spread_odd m f (λ z. omega arith)

  -- the root of a value of n units
  pub root_written : (x : Float) → HasValue x false n (2 ^ 149) → 0 < n → sqrt_of x ≡ odd 24 false (nearest_root (spread m f)) (shift f) 149
  root_written x v p = root_is x (positive_of_value x n (2 ^ 149) v p) ∙ ap root_units (units_is x n v) ∙ root_units_is n ∙ rw (shift_is, spread_is)

  pub root_of_lifted : (x : Float) (r : ℕ) → HasValue x false n (2 ^ 149) → 0 < n → Packed m f r → of_bits binary32 r ≡ sqrt_of x
  root_of_lifted x r v p k =
      let q = nearest_root (spread m f) in
      let j = shift f in
      let t = l.to in
      ap (of_bits binary32) k.is ∙ pattern j q (omega arith) k.near.least k.near.most ∙ sym (root_written x v p)

-- what is packed is the pattern of a finite value
pub packed_no_nan : (m f r : ℕ) → f ≤ 318 → Packed m f r → T (not (nan_bits binary32 r))
packed_no_nan m f r h k =
    let e = k.is in
    let q = k.near.most in
    low_no_nan r (omega arith)

-- ---- the ways of `rounded_root`, by x's bit pattern
module _ (x : Float) (held : T (fits binary32 x)) where
  pub at_zero : T (rootable x) → to_bits binary32 x ≡ 0 → x ≡ sqrt_of x
  unfolding of_bits
  at_zero p e = keeps x p (subst (λ (y : Float). T (positive y) → ⊥) (ap (of_bits binary32) (sym e) ∙ float_back x held) (λ z. z))

  pub at_top : T (rootable x) → 0x7f80_0000 ≤ to_bits binary32 x → x ≡ sqrt_of x
  at_top p h = keeps x p (λ k. not_positive (to_bits binary32 x) h (subst (λ (y : Float). T (positive y)) (sym (float_back x held)) k))

  -- the two tests of one
  pub of_own : T (rootable x) → (to_bits binary32 x ≡ 0) ⊎ ((to_bits binary32 x ≡ 0 → ⊥) × (0x7f80_0000 ≤ to_bits binary32 x)) → x ≡ sqrt_of x
  of_own p e = ⊎_elim (λ z. at_zero p z) (λ z. at_top p z.1) e

  -- a value by its written form
  pub value : (q j : ℕ) → of_bits binary32 (to_bits binary32 x) ≡ odd 24 false q j 149 → HasValue x false (q * 2 ^ j) (2 ^ 149)
  value q j e = subst (λ (y : Float). HasValue y false (q * 2 ^ j) (2 ^ 149)) (sym e ∙ float_back x held) (odd_sign 24 false q j 149)

  pub at_small : (m f r : ℕ) → to_bits binary32 x < 2 ^ 23 → (to_bits binary32 x ≡ 0 → ⊥) → Lifted (to_bits binary32 x) m f → Packed m f r → of_bits binary32 r ≡ sqrt_of x
  at_small m f r h p l k =
      let b = to_bits binary32 x in
      let v : HasValue x false (b * 2 ^ 0) (2 ^ 149) = value b 0 (subnormal b h) in
      let w : HasValue x false b (2 ^ 149) = rw mul-one at v in
      root_of_lifted b m f l x r w (omega arith) k

  pub at_normal : (r : ℕ) → 2 ^ 23 ≤ to_bits binary32 x → to_bits binary32 x < 0x7f80_0000 → Packed (to_bits binary32 x % 2 ^ 23 + 2 ^ 23) (to_bits binary32 x / 2 ^ 23 + 64) r → of_bits binary32 r ≡ sqrt_of x
  at_normal r h t k =
      let b = to_bits binary32 x in
      let j = b / 2 ^ 23 - 1 in
      let q = b % 2 ^ 23 + 2 ^ 23 in
      let e : j * 2 ^ 23 + q ≡ b = omega arith in
      let g : j + 65 ≡ b / 2 ^ 23 + 64 = omega arith in
      let v : HasValue x false (q * 2 ^ j) (2 ^ 149) = value q j (rw e at (pattern j q (omega arith) (omega arith) (omega arith))) in
      let s : q * 2 ^ j * 2 ^ 65 ≡ q * 2 ^ (b / 2 ^ 23 + 64) = mul_assoc q (2 ^ j) (2 ^ 65) ∙ ap (λ (z : ℕ). q * z) (sym (pow-add 2 j 65) ∙ ap (λ (z : ℕ). 2 ^ z) g) in
      let l : Lifted (q * 2 ^ j) q (b / 2 ^ 23 + 64) = record { least = omega arith; most = omega arith; from = omega arith; to = omega arith; same = s } in
      root_of_lifted (q * 2 ^ j) q (b / 2 ^ 23 + 64) l x r v (mul-pos (omega arith) (pow_pos j)) k
