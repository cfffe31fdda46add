-- The pair of a small angle is near the exact one. Assumes nothing.
use mathlib.Core.Path.{◌≡◌, refl, sym, ap, ◌∙◌}
use Prim.Native.Nat.{ℕ, zero, suc, ◌*◌, ◌^◌, ◌≤◌, ◌<◌}
use native.Mathlib.Nat.{mul_comm, mul-pos, mul-le-mul, zero-mul, zero-div}
use native.Mathlib.Omega.{arith}
use mathlib.Core.Bool.{false}
use lib.Dec.{lit<}
use lib.Pow.{pow_pos}
use lib.Ieee.{Float, nan, inf, fin, binary32, of_bits, up, down}
use lib.Ieee.Fits.{up_pos}
use lib.Ieee.Exact.{HasValue}
use Rattle.trig.specs.Circle.{fine, IsSine, IsCosine}
use Rattle.trig.specs.Fixed.{square_of, cosine_part, in_units, step_of, sine_bits, cosine_top, cosine_bits}
use Rattle.trig.proofs.Fractions.{move_about}
use Rattle.trig.proofs.Ends.{is_sine, is_cosine}
use Rattle.float32.proofs.Values.{cancel}
use Rattle.trig.proofs.Whole.{sine_at, cosine_at}
use Rattle.trig.specs.Angle.{SineOf, CosineOf}

none : (x y : ℕ) → 0 < y → x * y ≡ 0 → x ≡ 0
none zero y p e = refl
none (suc x) y p e = absurd (shape (suc x) y (omega arith) p e)
  where
    shape : (x y : ℕ) → 1 ≤ x → 0 < y → x * y ≡ 0 → ⊥
    shape x y a b e = let k : 1 * 1 ≤ x * y = mul-le-mul a b in omega arith

to_sine : (n d a b : ℕ) (r : Float) → 0 < b → HasValue r false a b → IsSine n d a b → (n ≡ 0 → a ≡ 0) → SineOf false n d r
to_sine n d a b nan p v i z = v
to_sine n d a b (inf t) p v i z = v
to_sine n d a b (fin t m e) p v i z =
    (v.0, move_about fine a b (m * up e) (down e) p v.1 i, λ y. none m (up e) (up_pos e) (none (m * up e) b p (v.1 ∙ ap (λ (x : ℕ). x * down e) (z y) ∙ zero-mul (down e))))

to_cosine : (n d a b : ℕ) (r : Float) → 0 < b → HasValue r false a b → IsCosine n d a b → (n ≡ 0 → a ≡ b) → CosineOf false n d r
to_cosine n d a b nan p v i z = v
to_cosine n d a b (inf t) p v i z = v
to_cosine n d a b (fin t m e) p v i z =
    (v.0, move_about fine a b (m * up e) (down e) p v.1 i, λ y. cancel (m * up e) (down e) b p (v.1 ∙ ap (λ (x : ℕ). x * down e) (z y) ∙ mul_comm b (down e)))

cosine_zero : (m k : ℕ) → m ≡ 0 → cosine_top m k ≡ 2 ^ 24
unfolding cosine_top square_of cosine_part in_units step_of
cosine_zero m k e = rw (e, zero-div)

module _ (m k n d : ℕ) (e : n * (2 ^ k * 262144) ≡ m * d) (h : m < 2 ^ 24) (l : m ≤ 11796480 * 2 ^ k) (g : 0 < d) where
  m_zero : n ≡ 0 → m ≡ 0
  m_zero z = none m d g (sym e ∙ ap (λ (x : ℕ). x * (2 ^ k * 262144)) z ∙ zero-mul (2 ^ k * 262144))

  pub small_sine : k ≤ 131 → (k ≤ 125 → 2 ^ 23 ≤ m) → SineOf false n d (of_bits binary32 (sine_bits m k))
  small_sine t u =
      let a = sine_at m k h l t u in
      to_sine n d a.top (2 ^ k * 2 ^ 24) (of_bits binary32 (sine_bits m k)) (mul-pos (pow_pos k) (lit< tt)) a.value (is_sine m k n d e l g a.top a.high a.low) (λ z. a.none (m_zero z))

  pub small_cosine : CosineOf false n d (of_bits binary32 (cosine_bits m k))
  small_cosine =
      to_cosine n d (cosine_top m k) (2 ^ 24) (of_bits binary32 (cosine_bits m k)) (lit< tt) (cosine_at m k l) (is_cosine m k n d e l g) (λ z. cosine_zero m k (m_zero z))
