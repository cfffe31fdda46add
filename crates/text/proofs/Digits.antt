-- From a scan to the number of a word: one law for each way to an answer. Assumes nothing.
use mathlib.Core.Path.{◌≡◌, refl, sym, ap, subst, ◌∙◌}
use mathlib.Core.Bool.{Bool, true, false, not, ◌&&◌, ◌||◌, cond, true≢false, and-false}
use mathlib.Core.List.{List, [], ◌∷◌, ◌++◌, append-nil}
use mathlib.Core.Logic.{inl, inr, ⊎_elim}
use Prim.Native.Nat.{ℕ, ◌+◌, ◌-◌, ◌*◌, ◌≤◌, ◌<◌}
use native.Mathlib.Omega.{arith}
use borrow.Author.Tests.{ne_eqb, le-leb, lt-leb, leb-true}
use lib.Dec.{eqb, leb}
use lib.ListN.{length, take, drop, length-append}
use Rattle.std.specs.Prelude.{Some, None}
use Rattle.std.specs.Cmp.Lexicographic.{pointwise}
use Rattle.text.specs.Bytes.{MINUS, POINT, digit}
use Rattle.text.specs.Decimals.{before, beyond, pointed, digits, numeral, value_of, plain, plain_of, decimal_of}
use Rattle.text.specs.Scan.{Sign}
use Rattle.text.proofs.Scanned.{Split, Stops}

-- ---- the four tests of a number
module _ (m : Bool) (u : List ℕ) where
  no_numeral : numeral (before u) ≡ false → None ≡ plain_of m u
  unfolding plain_of plain
  no_numeral e = rw e

  no_places : pointed u ≡ true → numeral (beyond u) ≡ false → None ≡ plain_of m u
  unfolding plain_of plain
  no_places e f = rw (e, f, and-false (numeral (before u)))

  too_long : 9 < length (before u) + length (beyond u) → None ≡ plain_of m u
  unfolding plain_of plain
  too_long h = rw (lt-leb (length (before u) + length (beyond u)) 9 h, and-false (numeral (before u) && (not (pointed u) || numeral (beyond u))))

  accepted : numeral (before u) ≡ true → (not (pointed u) || numeral (beyond u)) ≡ true → length (before u) + length (beyond u) ≤ 9
      → Some (record { minus = m; digits = value_of 0 (before u ++ beyond u); places = length (beyond u) }) ≡ plain_of m u
  unfolding plain_of plain
  accepted e f h = rw (e, f, le-leb (length (before u) + length (beyond u)) 9 h)

-- ---- digits, and what follows them
pub and_parts : (a b : Bool) → a && b ≡ true → (a ≡ true) × (b ≡ true)
and_parts true b e = (refl, e)
and_parts false b e = absurd (true≢false (sym e))

no_point : (c : ℕ) → digit c ≡ true → eqb c POINT ≡ false
no_point c e = ne_eqb c POINT (λ h. let k = leb-true 48 c (and_parts (leb 48 c) (leb c 57) e).0 in omega arith)

before_all : (a : List ℕ) → digits a ≡ true → before a ≡ a
unfolding before digits
before_all [] d = refl
before_all (c ∷ a) d = let p = and_parts (digit c) (digits a) d in rw (no_point c p.0, before_all a p.1)

beyond_all : (a : List ℕ) → digits a ≡ true → beyond a ≡ []
unfolding beyond digits
beyond_all [] d = refl
beyond_all (c ∷ a) d = let p = and_parts (digit c) (digits a) d in rw (no_point c p.0, beyond_all a p.1)

pointed_all : (a : List ℕ) → digits a ≡ true → pointed a ≡ false
unfolding pointed digits
pointed_all [] d = refl
pointed_all (c ∷ a) d = let p = and_parts (digit c) (digits a) d in rw (no_point c p.0, pointed_all a p.1)

-- a point
before_point : (a t : List ℕ) → digits a ≡ true → before (a ++ POINT ∷ t) ≡ a
unfolding before digits
before_point [] t d = refl
before_point (c ∷ a) t d = let p = and_parts (digit c) (digits a) d in rw (no_point c p.0, before_point a t p.1)

beyond_point : (a t : List ℕ) → digits a ≡ true → beyond (a ++ POINT ∷ t) ≡ t
unfolding beyond digits
beyond_point [] t d = refl
beyond_point (c ∷ a) t d = let p = and_parts (digit c) (digits a) d in rw (no_point c p.0, beyond_point a t p.1)

pointed_point : (a t : List ℕ) → digits a ≡ true → pointed (a ++ POINT ∷ t) ≡ true
unfolding pointed digits
pointed_point [] t d = refl
pointed_point (c ∷ a) t d = let p = and_parts (digit c) (digits a) d in rw (no_point c p.0, pointed_point a t p.1)

-- another byte
before_other : (a : List ℕ) (c : ℕ) (t : List ℕ) → digits a ≡ true → eqb c POINT ≡ false → before (a ++ c ∷ t) ≡ a ++ c ∷ before t
unfolding before digits
before_other [] c t d e = rw e
before_other (b ∷ a) c t d e = let p = and_parts (digit b) (digits a) d in rw (no_point b p.0, before_other a c t p.1 e)

digits_other : (a : List ℕ) (c : ℕ) (t : List ℕ) → digit c ≡ false → digits (a ++ c ∷ t) ≡ false
unfolding digits
digits_other [] c t e = rw e
digits_other (b ∷ a) c t e = rw (digits_other a c t e, and-false (digit b))

no_digits : (w : List ℕ) → digits w ≡ false → numeral w ≡ false
no_digits [] e = refl
no_digits (c ∷ w) e = e

some_digits : (w : List ℕ) → digits w ≡ true → 0 < length w → numeral w ≡ true
some_digits [] e h = absurd (omega arith)
some_digits (c ∷ w) e h = e

value_append : (v : ℕ) (a b : List ℕ) → value_of v (a ++ b) ≡ value_of (value_of v a) b
unfolding value_of
value_append v [] b = refl
value_append v (c ∷ a) b = value_append (v * 10 + (c - 48)) a b

-- where none was taken none is there, also before a point
none_there : (w : List ℕ) (l : ℕ) → 0 < l → Stops l w → numeral w ≡ false
unfolding digits
none_there [] l h s = refl
none_there (c ∷ w) l h (inl e) = absurd (omega arith)
none_there (c ∷ w) l h (inr e) = rw e

none_before : (w : List ℕ) (l : ℕ) → 0 < l → Stops l w → numeral (before w) ≡ false
unfolding before digits
none_before [] l h s = refl
none_before (c ∷ w) l h (inl e) = absurd (omega arith)
none_before (c ∷ w) l h (inr e) = go (eqb c POINT)
  where
    go : (b : Bool) → numeral (cond b [] (c ∷ before w)) ≡ false
    go true = refl
    go false = rw e

empty : (w : List ℕ) → length w ≡ 0 → w ≡ []
empty [] e = refl
empty (c ∷ w) e = absurd (omega arith)

-- ---- the ways to an answer. The first run took a of the word u and left l places
module _ (m : Bool) (u : List ℕ) (most l v : ℕ) (rest : List ℕ) (run : Split most 0 u (record { left = l; value = v; ahead = rest })) (nine : most ≡ 9) where
  abbrev a : List ℕ
  a = run.front

  pub no_digit : l ≡ most → None ≡ plain_of m u
  no_digit e =
      let k = run.count in
      let w : u ≡ rest = run.whole ∙ ap (λ (z : List ℕ). z ++ rest) (empty a (omega arith)) in
      no_numeral m u (rw w (none_before rest l (omega arith) run.stops))

  pub ends : (l ≡ most → ⊥) → rest ≡ [] → Some (record { minus = m; digits = v; places = 0 }) ≡ plain_of m u
  ends n e =
      let k = run.count in
      let w : u ≡ a = run.whole ∙ ap (λ (z : List ℕ). a ++ z) e ∙ append-nil a in
      let b : before u ≡ a = ap before w ∙ before_all a run.all in
      let c : beyond u ≡ [] = ap beyond w ∙ beyond_all a run.all in
      let p : pointed u ≡ false = ap pointed w ∙ pointed_all a run.all in
      let i : v ≡ value_of 0 (a ++ []) = run.is ∙ ap (value_of 0) (sym (append-nil a)) in
      rw i (rw (b, c) at (accepted m u (rw b (some_digits a run.all (omega arith))) (rw p) (rw (b, c) (omega arith))))

  pub other : (c : ℕ) (t : List ℕ) → rest ≡ c ∷ t → (c ≡ POINT → ⊥) → None ≡ plain_of m u
  other c t e n = ⊎_elim (λ (z : l ≡ 0). too_long m u (rw (b, length-append) (omega arith))) (λ (z : digit c ≡ false). no_numeral m u (rw b (no_digits (a ++ c ∷ before t) (digits_other a c (before t) z)))) (subst (Stops l) e run.stops)
    where
      k : length a + l ≡ 9
      k = run.count ∙ nine

      b : before u ≡ a ++ c ∷ before t
      b = ap before (run.whole ∙ ap (λ (z : List ℕ). a ++ z) e) ∙ before_other a c t run.all (ne_eqb c POINT n)

  -- a point, and a second run
  module _ (t : List ℕ) (at : rest ≡ POINT ∷ t) (l2 v2 : ℕ) where
    word : u ≡ a ++ POINT ∷ t
    word = run.whole ∙ ap (λ (z : List ℕ). a ++ z) at

    front : before u ≡ a
    front = ap before word ∙ before_point a t run.all

    back : beyond u ≡ t
    back = ap beyond word ∙ beyond_point a t run.all

    point : pointed u ≡ true
    point = ap pointed word ∙ pointed_point a t run.all

    pub goes_on : (rest2 : List ℕ) → Split l v t (record { left = l2; value = v2; ahead = rest2 }) → (rest2 ≡ [] → ⊥) → None ≡ plain_of m u
    goes_on [] next n = absurd (n refl)
    goes_on (c ∷ w) next n =
        let k = run.count in
        let j = next.count in
        ⊎_elim (λ (z : l2 ≡ 0). too_long m u (rw (front, back, next.whole, length-append) (omega arith)))
        (λ (z : digit c ≡ false). no_places m u point (rw (back, next.whole) (no_digits (next.front ++ c ∷ w) (digits_other next.front c w z)))) next.stops

    pub no_place : (rest2 : List ℕ) → Split l v t (record { left = l2; value = v2; ahead = rest2 }) → l2 ≡ l → None ≡ plain_of m u
    no_place [] next e =
        let j = next.count in
        no_places m u point (rw (back, next.whole, empty next.front (omega arith)))
    no_place (c ∷ w) next e = goes_on (c ∷ w) next (λ z. let y = ap length z in omega arith)

    pub with_places : (rest2 : List ℕ) → Split l v t (record { left = l2; value = v2; ahead = rest2 }) → (l ≡ most → ⊥) → (l2 ≡ l → ⊥) → rest2 ≡ []
        → Some (record { minus = m; digits = v2; places = l - l2 }) ≡ plain_of m u
    with_places rest2 next n o e =
        let k = run.count in
        let j = next.count in
        let w : t ≡ next.front = next.whole ∙ ap (λ (z : List ℕ). next.front ++ z) e ∙ append-nil next.front in
        let b : beyond u ≡ next.front = back ∙ w in
        let i : v2 ≡ value_of 0 (a ++ next.front) = next.is ∙ ap (λ (z : ℕ). value_of z next.front) run.is ∙ sym (value_append 0 a next.front) in
        let p : l - l2 ≡ length next.front = omega arith in
        let g : (not (pointed u) || numeral (beyond u)) ≡ true = rw (point, b) (some_digits next.front next.all (omega arith)) in
        rw (i, p) (rw (front, b) at (accepted m u (rw front (some_digits a run.all (omega arith))) g (rw (front, b) (omega arith))))

-- ---- the sign
pub minus_first : (w : List ℕ) → pointwise eqb (take 1 w) (MINUS ∷ []) ≡ true → plain_of true (drop 1 w) ≡ decimal_of w
unfolding decimal_of
minus_first [] e = absurd (true≢false (sym e))
minus_first (c ∷ u) e = rw ((and_parts (eqb c MINUS) true e).0)

pub no_minus : (w : List ℕ) → pointwise eqb (take 1 w) (MINUS ∷ []) ≡ false → plain_of false w ≡ decimal_of w
unfolding decimal_of
no_minus [] e = refl
no_minus (c ∷ u) e = go (eqb c MINUS) e
  where
    go : (b : Bool) → b && true ≡ false → plain_of false (c ∷ u) ≡ plain_of b (cond b u (c ∷ u))
    go true e = absurd (true≢false e)
    go false e = refl

pub signed : (w : List ℕ) (r : ℕ) → Sign w r → plain_of (eqb r 1) (drop r w) ≡ decimal_of w
unfolding decimal_of
signed w r s = rw (s.is, s.rest)
