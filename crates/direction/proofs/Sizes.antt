-- A float's size by its bit pattern, and what the functions of `src/arc.rt` return. Assumes nothing.
use mathlib.Core.Path.{◌≡◌, refl, sym, ap, ap₂, ◌∙◌}
use Prim.Native.Nat.{ℕ, zero, suc, ◌+◌, ◌-◌, ◌*◌, ◌/◌, ◌%◌, ◌^◌, ◌≤◌, ◌<◌}
use native.Mathlib.Nat.{mul-pos, le_trans, le_of_eq, lt_of_lt_of_le, mul-one, mul_assoc, mul-le-mul, mul-le-mul_left, mul-le-mul_right, mul-lt-mul_of_pos_right, pow-le-pow_right, div-eq_of_lt, div-le_self, div-le_of_le-mul, div-eq_of_eq-mul_left, mul-div-mul_right}
use native.Mathlib.Omega.{arith}
use mathlib.Core.Bool.{Bool, true, false, cond}
use lib.Dec.{T, leb, ltb, lit≤, lit<}
use lib.Pow.{pow_pos}
use lib.Ieee.{Float, nan, inf, fin, binary32, of_bits, to_bits, fits, up, down}
use lib.Ieee.Fits.{down_pos}
use lib.Ieee.Exact.{HasValue}
use lib.Ieee.Scale.{finite}
use borrow.Author.Tests.{leb-true, leb-false, ltb-true, ltb-false, lt-ltb, le-ltb}
use Rattle.exact.specs.Exact.{units_of}
use Rattle.float32.proofs.Bits.{float_back}
use Rattle.trig.specs.Fixed.{step_of, in_units}
use Rattle.direction.specs.Direction.{arc_part, arc_of, ratio_of, octant_of, digits_of, place_of, units_at}
use Rattle.float32.proofs.Values.{shift_whole, powers, same, few, normal}
use Rattle.float32.proofs.Unsigned.{unsigned, top_none}
use Rattle.direction.proofs.Arcs.{arc_none}
use Rattle.direction.proofs.Quadrants.{octant_low, octant_high}

-- ---- the digits and the place of a pattern
pub record Fields (b m e : ℕ) : Type 0 where
  pub most : m < 16777216
  pub some : 1 ≤ e
  pub lead : 2 ≤ e → 8388608 ≤ m
  pub is : b + 8388608 ≡ e * 8388608 + m

pub digits_low : (b : ℕ) → b < 8388608 → b ≡ digits_of b
digits_low b h = rw (lt-ltb b 8388608 h)

pub digits_high : (b : ℕ) → 8388608 ≤ b → b % 8388608 + 8388608 ≡ digits_of b
digits_high b h = rw (le-ltb b 8388608 h)

pub place_low : (b : ℕ) → b < 8388608 → 1 ≡ place_of b
place_low b h = rw (lt-ltb b 8388608 h)

pub place_high : (b : ℕ) → 8388608 ≤ b → b / 8388608 ≡ place_of b
place_high b h = rw (le-ltb b 8388608 h)

pub fields : (b : ℕ) → Fields b (digits_of b) (place_of b)
fields b = go (ltb b 8388608) refl
  where
    go : (t : Bool) → ltb b 8388608 ≡ t → Fields b (cond t b (b % 8388608 + 8388608)) (cond t 1 (b / 8388608))
    go true e = let h = ltb-true b 8388608 e in record { most = omega arith; some = lit≤ tt; lead = λ l. absurd (omega arith); is = omega arith }
    go false e = let h = ltb-false b 8388608 e in record { most = omega arith; some = omega arith; lead = λ l. omega arith; is = omega arith }

-- the larger pattern is the larger number
module _ (p m e q n f : ℕ) (P : Fields p m e) (Q : Fields q n f) where
  pub place_order : q ≤ p → f ≤ e
  place_order l = go (leb f e) refl
    where
      go : (b : Bool) → leb f e ≡ b → f ≤ e
      go true h = leb-true f e h
      go false h =
          let k = leb-false f e h in
          let lead : 8388608 ≤ n = Q.lead (let s = P.some in omega arith) in
          let a = P.is in
          let b = Q.is in
          let c = P.most in
          absurd (omega arith)

  pub size_order : q ≤ p → n ≤ m * 2 ^ (e - f)
  size_order l = go (e - f) refl
    where
      go : (k : ℕ) → e - f ≡ k → n ≤ m * 2 ^ k
      go zero h = let o = place_order l in let s : e ≡ f = omega arith in let a = P.is in let b = Q.is in omega arith
      go (suc k) h =
          let o = place_order l in
          let s = Q.some in
          let lead : 8388608 ≤ m = P.lead (omega arith) in
          let two : 2 ^ 1 ≤ 2 ^ suc k = pow-le-pow_right (lit< tt) {i = 1} {j = suc k} (omega arith) in
          let big : 8388608 * 2 ≤ m * 2 ^ suc k = mul-le-mul lead two in
          let c = Q.most in
          omega arith

  pub strict_order : q < p → n < m * 2 ^ (e - f)
  strict_order l = go (e - f) refl
    where
      go : (k : ℕ) → e - f ≡ k → n < m * 2 ^ k
      go zero h = let o = place_order (omega arith) in let s : e ≡ f = omega arith in let a = P.is in let b = Q.is in omega arith
      go (suc k) h =
          let o = place_order (omega arith) in
          let s = Q.some in
          let lead : 8388608 ≤ m = P.lead (omega arith) in
          let two : 2 ^ 1 ≤ 2 ^ suc k = pow-le-pow_right (lit< tt) {i = 1} {j = suc k} (omega arith) in
          let big : 8388608 * 2 ≤ m * 2 ^ suc k = mul-le-mul lead two in
          let c = Q.most in
          omega arith

  -- the smaller one's place is the unit of both
  pub common : q ≤ p → m * 2 ^ (e - 1) ≡ m * 2 ^ (e - f) * 2 ^ (f - 1)
  common l =
      let o = place_order l in
      let s = Q.some in
      let a : 2 ^ (e - f) * 2 ^ (f - 1) ≡ 2 ^ (e - 1) = powers (e - f) (f - 1) (e - 1) (omega arith) in
      ap (λ (x : ℕ). m * x) (sym a) ∙ sym (mul_assoc m (2 ^ (e - f)) (2 ^ (f - 1)))

-- ---- an angle does not turn on the unit
ratio_scale : (n d c : ℕ) → 0 < c → ratio_of (n * c) (d * c) ≡ ratio_of n d
unfolding ratio_of
ratio_scale n d c p = ap (λ (x : ℕ). x / (d * c)) (swap n c 1073741824) ∙ mul-div-mul_right (n * 1073741824) d p
  where
    swap : (a b c : ℕ) → a * b * c ≡ a * c * b
    swap a b c = omega arith

octant_scale : (X Y c : ℕ) → Y ≤ X → 0 < c → octant_of (X * c) (Y * c) ≡ octant_of X Y
octant_scale X Y c l p = go (leb (12 * Y) (5 * X)) refl
  where
    low : 12 * Y ≤ 5 * X → 12 * (Y * c) ≤ 5 * (X * c)
    low h = let x = mul-le-mul_right c h in omega arith

    high : 5 * X < 12 * Y → 5 * (X * c) < 12 * (Y * c)
    high h = let x = mul-lt-mul_of_pos_right h p in omega arith

    less : (D : ℕ) → D + Y ≡ X → X * c - Y * c ≡ D * c
    less D e = let x : (D + Y) * c ≡ X * c = ap (λ (z : ℕ). z * c) e in omega arith

    go : (b : Bool) → leb (12 * Y) (5 * X) ≡ b → octant_of (X * c) (Y * c) ≡ octant_of X Y
    go true e = let h = leb-true (12 * Y) (5 * X) e in sym (octant_low (X * c) (Y * c) (low h)) ∙ ap arc_of (ratio_scale Y X c p) ∙ octant_low X Y h
    go false e =
        let h = leb-false (12 * Y) (5 * X) e in
        sym (octant_high (X * c) (Y * c) (high h))
        ∙ ap (λ (r : ℕ). 754974720 - arc_of r) (ap₂ ratio_of (less (X - Y) (omega arith)) (plus X Y c) ∙ ratio_scale (X - Y) (X + Y) c p) ∙ octant_high X Y h
      where
        plus : (x y c : ℕ) → x * c + y * c ≡ (x + y) * c
        plus x y c = omega arith

ratio_far : (n d : ℕ) → n * 1073741824 < d → ratio_of n d ≡ 0
unfolding ratio_of
ratio_far n d h = div-eq_of_lt h

-- ---- the functions
module _ (p q : ℕ) (l : q ≤ p) where
  pub places : place_of q ≤ place_of p
  places = place_order p (digits_of p) (place_of p) q (digits_of q) (place_of q) (fields p) (fields q) l

  pub sizes : digits_of q ≤ digits_of p * 2 ^ (place_of p - place_of q)
  sizes = size_order p (digits_of p) (place_of p) q (digits_of q) (place_of q) (fields p) (fields q) l

  pub octant_at : octant_of (digits_of p * 2 ^ (place_of p - place_of q)) (digits_of q) ≡ octant_of (units_at p) (units_at q)
  octant_at =
      sym (octant_scale (digits_of p * 2 ^ (place_of p - place_of q)) (digits_of q) (2 ^ (place_of q - 1)) sizes (pow_pos (place_of q - 1)))
      ∙ ap (λ (x : ℕ). octant_of x (units_at q)) (sym (common p (digits_of p) (place_of p) q (digits_of q) (place_of q) (fields p) (fields q) l))

  pub octant_far : 32 ≤ place_of p - place_of q → 0 ≡ octant_of (units_at p) (units_at q)
  octant_far h = sym (sym octant_at ∙ far (digits_of p) (2 ^ (place_of p - place_of q)) (digits_of q) ((fields p).lead (let o = (fields q).some in omega arith)) (pow-le-pow_right (lit< tt) h) (fields q).most)
    where
      far : (m K n : ℕ) → 8388608 ≤ m → 4294967296 ≤ K → n < 16777216 → octant_of (m * K) n ≡ 0
      far m K n a b c =
          let big : 8388608 * 4294967296 ≤ m * K = mul-le-mul a b in
          let z : ratio_of n (m * K) ≡ 0 = ratio_far n (m * K) (omega arith) in
          sym (octant_low (m * K) n (omega arith)) ∙ ap arc_of z ∙ arc_none

  -- the code's shift loses no digit, and what is shifted is the larger size
  pub shifted : place_of p - place_of q < 32 → digits_of p * 2 ^ (place_of p - place_of q) % 18446744073709551616 ≡ digits_of p * 2 ^ (place_of p - place_of q)
  shifted h = shift_whole (digits_of p) (place_of p - place_of q) (fields p).most h

  pub larger : place_of p - place_of q < 32 → digits_of q ≤ digits_of p * 2 ^ (place_of p - place_of q) % 18446744073709551616
  larger h = le_trans sizes (le_of_eq (sym (shifted h)))

  pub octant_is : (j : ℕ) → place_of p - place_of q < 32 → j ≡ octant_of (digits_of p * 2 ^ (place_of p - place_of q) % 18446744073709551616) (digits_of q) → j ≡ octant_of (units_at p) (units_at q)
  octant_is j h e = e ∙ ap (λ (x : ℕ). octant_of x (digits_of q)) (shifted h) ∙ octant_at

  pub units_order : units_at q ≤ units_at p
  units_order = le_trans (mul-le-mul_right (2 ^ (place_of q - 1)) sizes) (le_of_eq (sym (common p (digits_of p) (place_of p) q (digits_of q) (place_of q) (fields p) (fields q) l)))

pub units_strict : (p q : ℕ) → q < p → units_at q < units_at p
units_strict p q l =
    let k : q ≤ p = omega arith in
    lt_of_lt_of_le (mul-lt-mul_of_pos_right (strict_order p (digits_of p) (place_of p) q (digits_of q) (place_of q) (fields p) (fields q) l) (pow_pos (place_of q - 1)))
    (le_of_eq (sym (common p (digits_of p) (place_of p) q (digits_of q) (place_of q) (fields p) (fields q) k)))

-- a pattern above zero has digits
pub digits_some : (p : ℕ) → 0 < p → 0 < digits_of p
digits_some p h = go (ltb p 8388608) refl
  where
    go : (t : Bool) → ltb p 8388608 ≡ t → 0 < cond t p (p % 8388608 + 8388608)
    go true e = h
    go false e = omega arith

-- and so has what it is shifted to
pub shifted_some : (p q : ℕ) → q ≤ p → 0 < p → place_of p - place_of q < 32 → 0 < digits_of p * 2 ^ (place_of p - place_of q) % 18446744073709551616
shifted_some p q l h k = lt_of_lt_of_le (mul-pos (digits_some p h) (pow_pos (place_of p - place_of q))) (le_of_eq (sym (shifted p q l k)))

-- ---- a finite float
module _ (x : Float) (held : T (fits binary32 x)) (f : T (finite x)) where
  pub bits_finite : to_bits binary32 x % 2147483648 < 2139095040
  bits_finite = go x (float_back x held) f
    where
      go : (y : Float) → of_bits binary32 (to_bits binary32 x) ≡ y → T (finite y) → to_bits binary32 x % 2147483648 < 2139095040
      go nan e f = absurd f
      go (inf s) e f = absurd f
      go (fin s m k) e f = cut (leb 2139095040 (to_bits binary32 x % 2147483648)) refl
        where
          cut : (b : Bool) → leb 2139095040 (to_bits binary32 x % 2147483648) ≡ b → to_bits binary32 x % 2147483648 < 2139095040
          cut true p = absurd (top_none (to_bits binary32 x % 2147483648) (m * up k) (down k) (leb-true 2139095040 (to_bits binary32 x % 2147483648) p) (omega arith) (unsigned (to_bits binary32 x) s m k e).1)
          cut false p = leb-false 2139095040 (to_bits binary32 x % 2147483648) p

  pub units_at_lem : units_of x ≡ units_at (to_bits binary32 x % 2147483648)
  units_at_lem = go x (float_back x held) f
    where
      go : (y : Float) → of_bits binary32 (to_bits binary32 x) ≡ y → T (finite y) → units_of y ≡ units_at (to_bits binary32 x % 2147483648)
      go nan e f = absurd f
      go (inf s) e f = absurd f
      go (fin s m k) e f = cut (ltb (to_bits binary32 x % 2147483648) 8388608) refl
        where
          v : HasValue (of_bits binary32 (to_bits binary32 x % 2147483648)) false (m * up k) (down k)
          v = (unsigned (to_bits binary32 x) s m k e).1

          cut : (t : Bool) → ltb (to_bits binary32 x % 2147483648) 8388608 ≡ t → m * up k * 2 ^ 149 / down k ≡ cond t (to_bits binary32 x % 2147483648) (to_bits binary32 x % 2147483648 % 8388608 + 8388608) * 2 ^ (cond t 1 (to_bits binary32 x % 2147483648 / 8388608) - 1)
          cut true h =
              let l = ltb-true (to_bits binary32 x % 2147483648) 8388608 h in
              div-eq_of_eq-mul_left (down_pos k) (same (of_bits binary32 (to_bits binary32 x % 2147483648)) false (m * up k) (down k) (to_bits binary32 x % 2147483648) (2 ^ 149) v (few (to_bits binary32 x % 2147483648) (omega arith))) ∙ sym (mul-one (to_bits binary32 x % 2147483648))
          cut false h =
              let l = ltb-false (to_bits binary32 x % 2147483648) 8388608 h in
              let t = bits_finite in
              div-eq_of_eq-mul_left (down_pos k) (same (of_bits binary32 (to_bits binary32 x % 2147483648)) false (m * up k) (down k) _ (2 ^ 149) v (normal (to_bits binary32 x % 2147483648) (omega arith) t))

-- ---- what each function of `src/arc.rt` needs and returns
pub step_share : (z j : ℕ) → z ≤ 186413511 → j ≤ 13 → j * z / (j + 2) ≤ 2423375643
step_share z j a c = let x : j * z ≤ 13 * 186413511 = mul-le-mul c a in le_trans (div-le_self (j * z) (j + 2)) x

pub step_fits : (z h j : ℕ) → z ≤ 186413511 → h ≤ 1073741824 → j ≤ 13 → j * z / (j + 2) * h ≤ 2602079783151992832
step_fits z h j a b c = mul-le-mul (step_share z j a c) b

pub step_cut : (z h j : ℕ) → z ≤ 186413511 → h ≤ 1073741824 → j * z / (j + 2) * h / 1073741824 ≤ 1073741824
step_cut z h j a b = div-le_of_le-mul 1073741824 (mul-le-mul (div-le_of_le-mul (j + 2) (shape (mul-le-mul_left j a))) b)
  where
    shape : j * z ≤ j * 186413511 → j * z ≤ (j + 2) * 1073741824
    shape x = omega arith

pub part_is : (z a b c d e f r : ℕ) → a ≡ step_of 1073741824 13 15 z 1073741824 → b ≡ step_of 1073741824 11 13 z a → c ≡ step_of 1073741824 9 11 z b → d ≡ step_of 1073741824 7 9 z c → e ≡ step_of 1073741824 5 7 z d → f ≡ step_of 1073741824 3 5 z e → r ≡ step_of 1073741824 1 3 z f → r ≡ arc_part z
unfolding arc_part in_units
part_is z a b c d e f r h i j k l m n = n ∙ rw (m, l, k, j, i, h)

pub arc_is : (r h : ℕ) → h ≡ arc_part (r * r / 1073741824) → (r * h / 1073741824 * 961263669 + 536870912) / 1073741824 ≡ arc_of r
unfolding arc_of
arc_is r h e = rw e

pub ratio_is : (n d : ℕ) → n * 1073741824 / d ≡ ratio_of n d
unfolding ratio_of
ratio_is n d = refl

pub arc_square : (r : ℕ) → r ≤ 447392426 → r * r ≤ 200159982842165476
arc_square r h = mul-le-mul h h

pub arc_product : (r h : ℕ) → r ≤ 447392426 → h ≤ 1073741824 → r * h ≤ 480383959537025024
arc_product r h a b = mul-le-mul a b
