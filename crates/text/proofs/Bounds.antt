-- How large the number of a word is: nine digits at most, and one of them at least before the point. Assumes nothing.
use mathlib.Core.Path.{◌≡◌, refl, sym}
use mathlib.Core.Bool.{Bool, true, false, not, ◌&&◌, ◌||◌, cond, true≢false}
use mathlib.Core.List.{List, [], ◌∷◌, ◌++◌}
use Prim.Native.Nat.{ℕ, suc, ◌+◌, ◌-◌, ◌*◌, ◌^◌, ◌≤◌, ◌<◌}
use native.Mathlib.Nat.{le_refl, le_trans, pow-le-pow_right}
use native.Mathlib.Omega.{arith}
use borrow.Author.Tests.{leb-true}
use lib.Dec.{eqb, leb}
use lib.ListN.{length, length-append}
use Rattle.std.specs.Prelude.{Some, None}
use Rattle.text.specs.Bytes.{POINT, digit}
use Rattle.text.specs.Decimals.{unsigned, before, beyond, pointed, digits, numeral, value_of, plain, plain_of, decimal_of}
use Rattle.text.specs.declared.Decimal.{Decimal}
use Rattle.text.proofs.Scanned.{smaller}
use Rattle.text.proofs.Digits.{and_parts}

-- ---- digits write a number of so many digits
value_small : (v : ℕ) (ds : List ℕ) → digits ds ≡ true → value_of v ds + 1 ≤ (v + 1) * 10 ^ length ds
unfolding digits value_of
value_small v [] d = omega arith
value_small v (c ∷ ds) d =
    let p = and_parts (digit c) (digits ds) d in
    let q = leb-true c 57 (and_parts (leb 48 c) (leb c 57) p.0).1 in
    let e : suc (length ds) - 1 ≡ length ds = omega arith in
    le_trans (value_small (v * 10 + (c - 48)) ds p.1)
    (rw e at (smaller v (c - 48) (suc (length ds)) ((v + 1) * 10 ^ suc (length ds)) (le_refl ((v + 1) * 10 ^ suc (length ds))) (omega arith) (omega arith)))

digits_append : (a b : List ℕ) → digits a ≡ true → digits b ≡ true → digits (a ++ b) ≡ true
unfolding digits
digits_append [] b d e = e
digits_append (c ∷ a) b d e = let p = and_parts (digit c) (digits a) d in rw p.0 (digits_append a b p.1 e)

no_point_alone : (u : List ℕ) → pointed u ≡ false → beyond u ≡ []
unfolding pointed beyond
no_point_alone [] e = refl
no_point_alone (c ∷ u) e = go (eqb c POINT) e (no_point_alone u)
  where
    go : (b : Bool) → (b || pointed u) ≡ false → (pointed u ≡ false → beyond u ≡ []) → cond b u (beyond u) ≡ []
    go true h k = absurd (true≢false h)
    go false h k = k h

all_digits : (w : List ℕ) → numeral w ≡ true → (digits w ≡ true) × (0 < length w)
all_digits [] e = absurd (true≢false (sym e))
all_digits (c ∷ w) e = (e, omega arith)

-- ---- what is plain
module _ (u : List ℕ) (h : plain u ≡ true) where
  parts : (numeral (before u) ≡ true) × ((not (pointed u) || numeral (beyond u)) ≡ true) × (length (before u) + length (beyond u) ≤ 9)
  unfolding plain
  parts =
      let n = numeral (before u) in
      let p = not (pointed u) || numeral (beyond u) in
      let l = length (before u) + length (beyond u) in
      let a = and_parts (n && p) (leb l 9) h in
      let b = and_parts n p a.0 in
      (b.0, b.1, leb-true l 9 a.1)

  beyond_digits : digits (beyond u) ≡ true
  unfolding digits
  beyond_digits = go (pointed u) refl parts.1
    where
      go : (b : Bool) → pointed u ≡ b → (not b || numeral (beyond u)) ≡ true → digits (beyond u) ≡ true
      go true e f = (all_digits (beyond u) f).0
      go false e f = rw (no_point_alone u e)

  few_places : length (beyond u) ≤ 8
  few_places = let a = (all_digits (before u) parts.0).1 in let l = parts.2 in omega arith

  small_value : value_of 0 (before u ++ beyond u) < 10 ^ 9
  small_value =
      let a = value_small 0 (before u ++ beyond u) (digits_append (before u) (beyond u) (all_digits (before u) parts.0).0 beyond_digits) in
      let l : length (before u ++ beyond u) ≤ 9 = rw length-append parts.2 in
      let b : 10 ^ length (before u ++ beyond u) ≤ 10 ^ 9 = pow-le-pow_right (omega arith) l in
      omega arith

-- ---- the law
chosen : (b : Bool) (a d : Decimal) → (b ≡ true → (a.digits < 10 ^ 9) × (a.places ≤ 8)) → cond b (Some a) None ≡ Some d → (d.digits < 10 ^ 9) × (d.places ≤ 8)
chosen true a d h k = let i : a ≡ d = cc in rw (← i) (h refl)
chosen false a d h k = absurd (let z : ◌≡◌ {A = ℕ} 0 1 = cc in omega arith)

pub bounds : (w : List ℕ) (d : Decimal) → decimal_of w ≡ Some d → (d.digits < 10 ^ 9) × (d.places ≤ 8)
unfolding decimal_of plain_of
bounds w d e = chosen (plain (unsigned w)) _ d (λ h. (small_value (unsigned w) h, few_places (unsigned w) h)) e
