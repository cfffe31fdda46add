-- What the functions of `src/lib.rt` return, on each of their ways. Assumes nothing.
use mathlib.Core.Path.{◌≡◌, refl, sym, ap, ◌∙◌, subst}
use Prim.Native.Nat.{ℕ, ◌+◌, ◌-◌, ◌*◌, ◌/◌, ◌%◌, ◌^◌, ◌≤◌, ◌<◌}
use native.Mathlib.Omega.{arith}
use native.Mathlib.Nat.{le_trans}
use mathlib.Core.Bool.{Bool, true, false, not, cond}
use lib.Dec.{T, leb, ltb, leb→le, le→leb, lit≤}
use lib.Ieee.{Float, binary32, of_bits, fits, neg}
use borrow.Author.Tests.{not-true, not-false, lt-leb, le-leb, eq-eqb, ne_eqb}
use Rattle.exact.specs.Tests.{between}
use Rattle.float32.specs.Bits.{bits_of, float_of}
use Rattle.trig.specs.declared.Pair.{Pair}
use Rattle.trig.specs.Fixed.{sine_bits, cosine_bits, small_pair, lift_by, near_pair, left_of, far_pair, pair_of, pair_at, less90, more90, less180, below, accepted}
use Rattle.trig.proofs.Entry.{accepted_bits}

pub small_is : (m k s c : ℕ) (x y : Float) → x ≡ float_of s → s ≡ sine_bits m k → y ≡ float_of c → c ≡ cosine_bits m k → ◌≡◌ {A = Pair} (record { sine = x; cosine = y }) (small_pair m k)
unfolding small_pair
small_is m k s c x y e f g h = rw (e, f, g, h)

pub near_is : (y m k : ℕ) (p : Pair) → p ≡ small_pair m k → m ≡ y * 2 ^ lift_by y → k ≡ lift_by y → p ≡ near_pair y
unfolding near_pair
near_is y m k p e f g = e ∙ rw (f, g)

pub of_tiny : (b : ℕ) (p : Pair) → b / 8388608 ≡ 0 → p ≡ small_pair (b % 8388608) 131 → p ≡ pair_of b
unfolding pair_of
of_tiny b p h e = e ∙ rw (eq-eqb (b / 8388608) 0 h)

pub of_small : (b : ℕ) (p : Pair) → (b / 8388608 ≡ 0 → ⊥) → b ≤ 1110704128 → p ≡ small_pair (b % 8388608 + 8388608) (132 - b / 8388608) → p ≡ pair_of b
unfolding pair_of
of_small b p h l e = e ∙ rw (ne_eqb (b / 8388608) 0 h, le-leb b 1110704128 l)

-- from 45 degrees on
pub of_far : (b y : ℕ) (p : Pair) → 1110704128 < b → y ≡ (b % 8388608 + 8388608) * 2 ^ (b / 8388608 - 132) → p ≡ far_pair y → p ≡ pair_of b
unfolding pair_of
of_far b y p l e f = f ∙ rw (ne_eqb (b / 8388608) 0 (λ z. omega arith), lt-leb b 1110704128 l) (ap far_pair e)

-- the sine and the cosine, each chosen by itself: a is y ≤ 90 degrees, b y ≤ 135
quadrant : (p : Pair) (a b : Bool) → (T a → T b)
    → ◌≡◌ {A = Pair} (record { sine = cond b p.cosine p.sine; cosine = cond b (cond a p.sine (neg p.sine)) (neg p.cosine) }) (cond a (less90 p) (cond b (more90 p) (less180 p)))
quadrant p true true h = refl
quadrant p true false h = absurd (h tt)
quadrant p false true h = refl
quadrant p false false h = refl

pub far_is : (y l m k : ℕ) (p : Pair) (s c : Float) → l ≡ left_of y → m ≡ l * 2 ^ lift_by l → k ≡ lift_by l → p ≡ small_pair m k → s ≡ cond (leb y 35389440) p.cosine p.sine
    → c ≡ cond (leb y 35389440) (cond (leb y 23592960) p.sine (neg p.sine)) (neg p.cosine) → ◌≡◌ {A = Pair} (record { sine = s; cosine = c }) (far_pair y)
unfolding far_pair
far_is y l m k p s c a d e f g h =
    let n : p ≡ near_pair (left_of y) = near_is l m k p f d e ∙ ap near_pair a in
    rw (g, h, sym n)
    (quadrant p (leb y 23592960) (leb y 35389440) (λ t. le→leb y 35389440 (le_trans {m = 23592960} (leb→le y 23592960 t) (lit≤ tt))))

-- ---- the entry
module _ (x : Float) (r : Bool) (e : r ≡ not (between (neg (of_bits binary32 0x43340000)) (of_bits binary32 0x43340000) x)) where
  pub out : r ≡ true → accepted x ≡ false
  unfolding accepted of_bits neg
  out f = not-true _ (sym e ∙ f)

  pub inside : r ≡ false → accepted x ≡ true
  unfolding accepted of_bits neg
  inside f = not-false _ (sym e ∙ f)

pub bits_in : (x : Float) (b : ℕ) → fits binary32 x ≡ true → accepted x ≡ true → b ≡ bits_of x → b % 2147483648 ≤ 1127481344
bits_in x b h a e = rw e (accepted_bits x (subst T (sym h) tt) (subst T (sym a) tt))

-- only the sine has the sign
signed : (p : Pair) (b : Bool) → ◌≡◌ {A = Pair} (record { sine = cond b p.sine (neg p.sine); cosine = p.cosine }) (cond b p (below p))
signed p true = refl
signed p false = refl

pub at_is : (x : Float) (b : ℕ) (p : Pair) (s : Float) → b ≡ bits_of x → p ≡ pair_of (b % 2147483648) → s ≡ cond (ltb b 2147483648) p.sine (neg p.sine)
    → ◌≡◌ {A = Pair} (record { sine = s; cosine = p.cosine }) (pair_at x)
unfolding pair_at
at_is x b p s e f g = rw (g, sym e, sym f) (signed p (ltb b 2147483648))
