-- From the arctangent to the angle of a point, in units of 2 ^ -24 degree and within 2 ^ -16 degree. Assumes nothing.
use mathlib.Core.Path.{◌≡◌, refl, sym, ap, ◌∙◌, subst}
use Prim.Native.Nat.{ℕ, ◌+◌, ◌-◌, ◌*◌, ◌≤◌, ◌<◌}
use native.Mathlib.Nat.{le_trans, le_of_eq}
use native.Mathlib.Omega.{arith}
use mathlib.Core.Bool.{Bool, true, false}
use lib.Dec.{leb, lit≤}
use borrow.Author.Tests.{le-leb, lt-leb, leb-true, leb-false}
use Rattle.trig.specs.Circle.{IsArc}
use Rattle.direction.specs.Arc.{coarse, Quadrant, HalfTurn}
use Rattle.direction.specs.Direction.{arc_of, ratio_of, octant_of, quadrant_of, turn_of}
use Rattle.direction.proofs.Arcs.{is_arc, ratio_most, arc_most, arc_none, ratio_none}

-- ---- from 0 to 45 degrees
pub octant_low : (X Y : ℕ) → 12 * Y ≤ 5 * X → arc_of (ratio_of Y X) ≡ octant_of X Y
unfolding octant_of
octant_low X Y h = rw (le-leb (12 * Y) (5 * X) h)

pub octant_high : (X Y : ℕ) → 5 * X < 12 * Y → 754974720 - arc_of (ratio_of (X - Y) (X + Y)) ≡ octant_of X Y
unfolding octant_of
octant_high X Y h = rw (lt-leb (12 * Y) (5 * X) h)

turned : (X Y : ℕ) → 5 * X < 12 * Y → 12 * (X - Y) ≤ 5 * (X + Y)
turned X Y h = omega arith

module _ (X Y : ℕ) (l : Y ≤ X) (p : 0 < X) where
  pub octant_most : octant_of X Y ≤ 754974720
  octant_most = go (leb (12 * Y) (5 * X)) refl
    where
      go : (b : Bool) → leb (12 * Y) (5 * X) ≡ b → octant_of X Y ≤ 754974720
      go true e = let h = leb-true (12 * Y) (5 * X) e in le_trans (le_of_eq (sym (octant_low X Y h))) (arc_most (ratio_of Y X) (ratio_most Y X p h))
      go false e = le_trans (le_of_eq (sym (octant_high X Y (leb-false (12 * Y) (5 * X) e)))) (less 754974720 (arc_of (ratio_of (X - Y) (X + Y))))
        where
          less : (a b : ℕ) → a - b ≤ a
          less a b = omega arith

  arc_low : 12 * Y ≤ 5 * X → IsArc (2 * coarse) Y X (octant_of X Y) 16777216
  arc_low h = subst (λ (j : ℕ). IsArc (2 * coarse) Y X j 16777216) (octant_low X Y h) (is_arc Y X p h)

  arc_high : 5 * X < 12 * Y → IsArc (2 * coarse) (X - Y) (X + Y) (754974720 - octant_of X Y) 16777216
  arc_high h = subst (λ (j : ℕ). IsArc (2 * coarse) (X - Y) (X + Y) j 16777216) (back (arc_of (ratio_of (X - Y) (X + Y))) (octant_of X Y) (octant_high X Y h) (arc_most (ratio_of (X - Y) (X + Y)) (ratio_most (X - Y) (X + Y) some (turned X Y h)))) (is_arc (X - Y) (X + Y) some (turned X Y h))
    where
      some : 0 < X + Y
      some = omega arith

      back : (a o : ℕ) → 754974720 - a ≡ o → a ≤ 754974720 → a ≡ 754974720 - o
      back a o e m = omega arith

octant_half : (X : ℕ) → 0 < X → octant_of X X ≡ 754974720
octant_half X p = sym (octant_high X X (omega arith)) ∙ ap (λ (a : ℕ). 754974720 - a) (ap (λ (d : ℕ). arc_of (ratio_of d (X + X))) (none X) ∙ ap arc_of (ratio_none (X + X)) ∙ arc_none)
  where
    none : (X : ℕ) → X - X ≡ 0
    none X = omega arith

octant_none : (Y : ℕ) → octant_of Y 0 ≡ 0
octant_none Y = sym (octant_low Y 0 (omega arith)) ∙ ap arc_of (ratio_none Y) ∙ arc_none

-- ---- from 0 to 90 degrees
pub quadrant_low : (X Y : ℕ) → Y ≤ X → octant_of X Y ≡ quadrant_of X Y
unfolding quadrant_of
quadrant_low X Y h = rw (le-leb Y X h)

pub quadrant_high : (X Y : ℕ) → X < Y → 1509949440 - octant_of Y X ≡ quadrant_of X Y
unfolding quadrant_of
quadrant_high X Y h = rw (lt-leb Y X h)

module _ (X Y : ℕ) (q : 0 < Y) where
  pub quadrant_most : quadrant_of X Y ≤ 1509949440
  quadrant_most = go (leb Y X) refl
    where
      go : (b : Bool) → leb Y X ≡ b → quadrant_of X Y ≤ 1509949440
      go true e = let h = leb-true Y X e in let x = octant_most X Y h (omega arith) in let y = quadrant_low X Y h in omega arith
      go false e = let y = quadrant_high X Y (leb-false Y X e) in omega arith

  at_low : Y ≤ X → Quadrant (2 * coarse) X Y (octant_of X Y) 16777216
  at_low l =
      let p : 0 < X = omega arith in
      record {
        most = le_trans (octant_most X Y l p) (lit≤ tt);
        from0 = λ h. arc_low X Y l p h;
        to45 = λ h k. (octant_most X Y l p, arc_high X Y l p h);
        from45 = λ h k. absurd (omega arith);
        to90 = λ h. absurd (omega arith);
        half = λ e. subst (λ (z : ℕ). octant_of X z ≡ 754974720) e (octant_half X p);
        right = λ e. absurd (omega arith);
      }

  at_high : X < Y → Quadrant (2 * coarse) X Y (1509949440 - octant_of Y X) 16777216
  at_high l =
      let k : X ≤ Y = omega arith in
      let m = octant_most Y X k q in
      record {
        most = omega arith;
        from0 = λ h. absurd (omega arith);
        to45 = λ h k. absurd (omega arith);
        from45 = λ h g. (omega arith, subst (λ (j : ℕ). IsArc (2 * coarse) (Y - X) (Y + X) j 16777216) (mid (octant_of Y X) m) (arc_high Y X k q g));
        to90 = λ h. subst (λ (j : ℕ). IsArc (2 * coarse) X Y j 16777216) (end (octant_of Y X) m) (arc_low Y X k q h);
        half = λ e. absurd (omega arith);
        right = λ e. ap (λ (j : ℕ). 1509949440 - j) (subst (λ (z : ℕ). octant_of Y z ≡ 0) (sym e) (octant_none Y));
      }
    where
      mid : (o : ℕ) → o ≤ 754974720 → 754974720 - o ≡ 1509949440 - o - 754974720
      mid o h = omega arith

      end : (o : ℕ) → o ≤ 754974720 → o ≡ 1509949440 - (1509949440 - o)
      end o h = omega arith

  pub is_quadrant : Quadrant (2 * coarse) X Y (quadrant_of X Y) 16777216
  is_quadrant = go (leb Y X) refl
    where
      go : (b : Bool) → leb Y X ≡ b → Quadrant (2 * coarse) X Y (quadrant_of X Y) 16777216
      go true e = let h = leb-true Y X e in subst (λ (j : ℕ). Quadrant (2 * coarse) X Y j 16777216) (quadrant_low X Y h) (at_low h)
      go false e = let h = leb-false Y X e in subst (λ (j : ℕ). Quadrant (2 * coarse) X Y j 16777216) (quadrant_high X Y h) (at_high h)

  -- ---- from 0 to 180 degrees
  pub turn_most : (left : Bool) → turn_of left X Y ≤ 3019898880
  unfolding turn_of
  turn_most true = omega arith
  turn_most false = let m = quadrant_most in omega arith

  pub is_turn : (left : Bool) → HalfTurn (2 * coarse) left X Y (turn_of left X Y) 16777216
  unfolding turn_of
  is_turn false = is_quadrant
  is_turn true = (omega arith, subst (λ (j : ℕ). Quadrant (2 * coarse) X Y j 16777216) (back (quadrant_of X Y) quadrant_most) is_quadrant)
    where
      back : (g : ℕ) → g ≤ 1509949440 → g ≡ 3019898880 - (3019898880 - g)
      back g h = omega arith
