-- A rounded fraction of size at most B is of size at most B, for a B that the format holds, and so is a rounded sum; nought rounds to a zero.
use mathlib.Core.Path.{◌≡◌, refl, sym, ap, ◌∙◌, subst}
use Prim.Native.Nat.{ℕ, zero, suc, ◌+◌, ◌-◌, ◌*◌, ◌^◌, ◌≤◌, ◌<◌, zero-le}
use native.Mathlib.Nat.{le_trans, le_of_eq, add_comm, add-mul, mul-one, zero-mul, zero-lt-suc, mul-pos, mul-le-mul_right}
use native.Mathlib.Omega.{arith}
use mathlib.Core.Bool.{Bool, true, false, cond, ◌&&◌, beq}
use lib.IntN.{ℤ, pos}
use lib.Dec.{T, ltb, lit≤, lit<}
use lib.Ieee.{Float, nan, inf, fin, binary32, up, down, odd, units, round, neg, sum, add, le}
use lib.Ieee.Fits.{down_pos, round_is}
use lib.Ieee.Order.{drop, kept, round_mono}
use lib.Ieee.Scale.{finite, round_same}
use Rattle.exact.specs.Exact.{own}
use Rattle.exact.proofs.Sizes.{AtMost, size_between}

-- finite, and of size at most B
abbrev pub Fit : ℕ → Float → Type 0
Fit B x = T (finite x) × AtMost B x

odd_neg : (d q k l : ℕ) → odd d true q k l ≡ neg (odd d false q k l)
unfolding odd neg
odd_neg d zero k l = refl
odd_neg d (suc q) k l = refl

units_neg : (q k : ℕ) → units binary32 true q k ≡ neg (units binary32 false q k)
unfolding units
units_neg q k = go (ltb (q * 2 ^ k) (2 ^ 277))
  where
    go : (b : Bool) → cond b (odd 25 true q k 149) (inf true) ≡ neg (cond b (odd 25 false q k 149) (inf false))
    go true = odd_neg 25 q k 149
    go false = unfold neg in refl

pub round_neg : (num den : ℕ) → round binary32 true num den ≡ neg (round binary32 false num den)
round_neg num den =
    round_is binary32 true num den ∙ units_neg (kept 24 (num * 2 ^ 149) den) (drop 24 (num * 2 ^ 149) den) ∙ ap neg (sym (round_is binary32 false num den))

pub fit_neg : (B : ℕ) (x : Float) → Fit B x → Fit B (neg x)
unfolding neg own
fit_neg B nan h = h
fit_neg B (inf s) h = absurd h.0
fit_neg B (fin false m e) h = (tt, le_trans (le_of_eq (add_comm 0 (m * up e))) h.1)
fit_neg B (fin true m e) h = (tt, le_trans (le_of_eq (add_comm (m * up e) 0)) h.1)

-- nought rounds to a zero
pub round_null : (s : Bool) (a c : ℕ) → a ≡ 0 → 0 < c → round binary32 s a c ≡ fin s 0 (pos 0)
unfolding round
round_null s a c e C = ap (λ (z : ℕ). round binary32 s z c) e ∙ round_same binary32 s 0 c 0 1 C (zero-lt-suc 0) (omega arith)

-- the format holds B, as m * 2 ^ e
pub record Holds (B m : ℕ) (e : ℤ) : Type 0 where
  pub is : round binary32 false B 1 ≡ fin false m e
  pub at_most : m * up e ≤ B * down e

pub holds_one : Holds 1 1 (pos 0)
unfolding round
holds_one = record { is = refl; at_most = lit≤ tt }

round_fit_pos : (B m : ℕ) (e : ℤ) (num den : ℕ) → Holds B m e → 0 < den → num ≤ B * den → Fit B (round binary32 false num den)
round_fit_pos B m e num den b D h =
    size_between B false false 0 m (pos 0) e (round binary32 false num den) zero-le b.at_most
    (subst (λ (z : Float). T (le z (round binary32 false num den))) (round_null false 0 1 refl (lit< tt)) (round_mono binary32 0 1 num den (lit< tt) D (le_trans (le_of_eq (zero-mul den)) zero-le)))
    (subst (λ (z : Float). T (le (round binary32 false num den) z)) b.is (round_mono binary32 num den B 1 D (lit< tt) (le_trans (le_of_eq (mul-one num)) h)))

pub round_fit : (B m : ℕ) (e : ℤ) (s : Bool) (num den : ℕ) → Holds B m e → 0 < den → num ≤ B * den → Fit B (round binary32 s num den)
round_fit B m e false num den b D h = round_fit_pos B m e num den b D h
round_fit B m e true num den b D h = subst (λ (z : Float). Fit B z) (sym (round_neg num den)) (fit_neg B (round binary32 false num den) (round_fit_pos B m e num den b D h))

pub most : (B : ℕ) (s : Bool) (m : ℕ) (e : ℤ) → Fit B (fin s m e) → m * up e ≤ B * down e
unfolding own
most B false m e f = omega (arith, f.1)
most B true m e f = omega (arith, f.1)

-- the rounded sum of two floats of size at most B and C, for a B + C that the format holds
module _ (B C m : ℕ) (e : ℤ) (b : Holds (B + C) m e) where
  sum_fit : (s t : Bool) (x y c : ℕ) → 0 < c → x ≤ B * c → y ≤ C * c → Fit (B + C) (sum binary32 s x t y c)
  unfolding sum
  sum_fit s t x y c P h k = go (beq s t) (ltb x y)
    where
      rounded : (u : Bool) (n : ℕ) → n ≤ x + y → Fit (B + C) (round binary32 u n c)
      rounded u n l = round_fit (B + C) m e u n c b P (omega (arith, add-mul B C c))

      go : (p q : Bool) → Fit (B + C) (cond p (round binary32 s (x + y) c) (cond q (round binary32 t (y - x) c) (round binary32 (s && ltb y x) (x - y) c)))
      go true q = rounded s (x + y) (omega arith)
      go false true = rounded t (y - x) (omega arith)
      go false false = rounded (s && ltb y x) (x - y) (omega arith)

  pub add_fit : (x y : Float) → Fit B x → Fit C y → Fit (B + C) (add binary32 x y)
  unfolding add
  add_fit nan y f g = absurd f.0
  add_fit (inf s) y f g = absurd f.0
  add_fit (fin s i k) nan f g = absurd g.0
  add_fit (fin s i k) (inf t) f g = absurd g.0
  add_fit (fin s i k) (fin t n d) f g =
      sum_fit s t (i * up k * down d) (n * up d * down k) (down k * down d) (mul-pos (down_pos k) (down_pos d)) (omega (arith, mul-le-mul_right (down d) (most B s i k f))) (omega (arith, mul-le-mul_right (down k) (most C t n d g)))
