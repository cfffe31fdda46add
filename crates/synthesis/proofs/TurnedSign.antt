-- The sign of a product turns with the sign of either factor, to the bit. So a term that is stored with its sign turned and taken away is the term added.
use mathlib.Core.Path.{◌≡◌, refl, sym, ap, ◌∙◌}
use Prim.Native.Nat.{ℕ, ◌*◌}
use mathlib.Core.Bool.{Bool, true, false, not, cond, not-not}
use lib.Dec.{eqb}
use lib.Ieee.{Float, nan, inf, fin, binary32, up, down, unlike, round, add, sub, mul, neg}
use Rattle.exact.proofs.Range.{round_neg}

-- ---- the two signs of a result
neg_neg : (x : Float) → neg (neg x) ≡ x
unfolding neg
neg_neg nan = refl
neg_neg (inf s) = ap inf (not-not s)
neg_neg (fin s m e) = ap (λ (t : Bool). fin t m e) (not-not s)

turned_round : (s : Bool) {t : Bool} (a c : ℕ) → not s ≡ t → neg (round binary32 s a c) ≡ round binary32 t a c
turned_round s a c e = go s ∙ ap (λ (r : Bool). round binary32 r a c) e
  where
    go : (s : Bool) → neg (round binary32 s a c) ≡ round binary32 (not s) a c
    go true = ap neg (round_neg a c) ∙ neg_neg (round binary32 false a c)
    go false = sym (round_neg a c)

-- an infinity, or no number where the other factor is a zero
turned_inf : (s : Bool) {t : Bool} (b : Bool) → not s ≡ t → neg (cond b nan (inf s)) ≡ cond b nan (inf t)
unfolding neg
turned_inf s true e = refl
turned_inf s false e = ap inf e

-- ---- the sign of a product
left_sign : (s t : Bool) → not (unlike s t) ≡ unlike (not s) t
left_sign true true = refl
left_sign true false = refl
left_sign false true = refl
left_sign false false = refl

right_sign : (s t : Bool) → not (unlike s t) ≡ unlike s (not t)
right_sign true true = refl
right_sign true false = refl
right_sign false true = refl
right_sign false false = refl

turned_left : (x y : Float) → neg (mul binary32 x y) ≡ mul binary32 (neg x) y
unfolding mul neg
turned_left nan y = refl
turned_left (inf s) nan = refl
turned_left (inf s) (inf t) = ap inf (left_sign s t)
turned_left (inf s) (fin t n d) = turned_inf (unlike s t) (eqb n 0) (left_sign s t)
turned_left (fin s m e) nan = refl
turned_left (fin s m e) (inf t) = turned_inf (unlike s t) (eqb m 0) (left_sign s t)
turned_left (fin s m e) (fin t n d) = turned_round (unlike s t) (m * up e * (n * up d)) (down e * down d) (left_sign s t)

turned_right : (x y : Float) → neg (mul binary32 x y) ≡ mul binary32 x (neg y)
unfolding mul neg
turned_right nan y = refl
turned_right (inf s) nan = refl
turned_right (inf s) (inf t) = ap inf (right_sign s t)
turned_right (inf s) (fin t n d) = turned_inf (unlike s t) (eqb n 0) (right_sign s t)
turned_right (fin s m e) nan = refl
turned_right (fin s m e) (inf t) = turned_inf (unlike s t) (eqb m 0) (right_sign s t)
turned_right (fin s m e) (fin t n d) = turned_round (unlike s t) (m * up e * (n * up d)) (down e * down d) (right_sign s t)

-- ---- the term of X, from the one that is stored
pub turned_term : (g s d : Float) → neg (mul binary32 g (mul binary32 s d)) ≡ mul binary32 g (mul binary32 (neg s) d)
turned_term g s d = turned_right g (mul binary32 s d) ∙ ap (mul binary32 g) (turned_left s d)

-- so to take the stored one away is to add the term
pub less_term : (x g s d : Float) → sub binary32 x (mul binary32 g (mul binary32 s d)) ≡ add binary32 x (mul binary32 g (mul binary32 (neg s) d))
unfolding sub
less_term x g s d = ap (add binary32 x) (turned_term g s d)
