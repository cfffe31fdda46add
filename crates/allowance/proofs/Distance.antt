-- What is shown for X, Y and Z of Field is at least the distance itself, between the answer and the exact field.
use mathlib.Core.Path.{◌≡◌, subst}
use Prim.Native.Nat.{ℕ, ◌+◌, ◌*◌, ◌≤◌}
use native.Mathlib.Nat.{mul-le-mul_right}
use native.Mathlib.Omega.{arith}
use lib.IntN.{ℤ}
use lib.Ieee.{Float}
use Rattle.refusals.specs.Paper.{Paper, answered}
use Rattle.refusals.proofs.Laws.{answered_one}
use Rattle.exact.specs.Exact.{Exact, Size, own}
use Rattle.exact.specs.Within.{FINE, Within, distance}
use Rattle.models.specs.declared.epochs.EpochOffset.{EpochOffset}
use Rattle.models.specs.declared.errors.WmmErrorModel.{WmmErrorModel}
use Rattle.models.specs.Epochs.{epoch_offset}
use Rattle.sums.specs.Arithmetic.{rounded, unrounded}
use Rattle.lists.proofs.Checked.{Listed}
use Rattle.strengths.specs.declared.GeomagneticField.{GeomagneticField}
use Rattle.field.specs.Field.{FieldAccepted, Asked, field_x, field_y, field_z, field_says, field_with, record_of, strengths_of}
use Rattle.field.proofs.Laws.{close_x, close_y, close_z}
use Rattle.field.proofs.Answers.{after_answered, found}
use Rattle.allowance.specs.declared.Allowances.{Allowances}
use Rattle.bounds.specs.Bounds.{Covers, LEAST, allowed, bounds}
use Rattle.allowance.specs.Allowance.{allowances_of, allowance_says}
use Rattle.allowance.proofs.Laws.{covers_x, covers_y, covers_z}

-- f - x ≤ s and x - f ≤ s. Each side multiplied by the denominators, and each minus carried to the other side.
pub record Reaches (s f : Float) (x : Exact) : Type 0 where
  pub above : ((own f).plus * x.over + x.minus * (own f).over) * (own s).over ≤ ((own f).minus * x.over + x.plus * (own f).over) * (own s).over + (own s).plus * ((own f).over * x.over)
  pub below : ((own f).minus * x.over + x.plus * (own f).over) * (own s).over ≤ ((own f).plus * x.over + x.minus * (own f).over) * (own s).over + (own s).plus * ((own f).over * x.over)

-- with A - B the one difference or the other, fo and so the denominators of f and s
one_side : (A B N O fo so sp : ℕ) → A * FINE ≤ B * FINE + distance N O * fo → LEAST * (distance N O * so) ≤ 100 * (sp * FINE * O) → A * so ≤ B * so + sp * (fo * O)
one_side A B N O fo so sp h k = go (A * so) (B * so) (distance N O * so * fo) (sp * (fo * O)) (omega (arith, mul-le-mul_right so h)) (omega (arith, mul-le-mul_right fo k))
  where
    go : (a b y z : ℕ) → a * FINE ≤ b * FINE + y → LEAST * y ≤ 100 * (z * FINE) → a ≤ b + z
    go a b y z h k = omega arith

-- what covers the allowance of demand 3 reaches as far as what lies within it
pub reaches : (s f : Float) (x : Exact) (M : Size) → Covers s M → Within f x M → Reaches s f x
reaches s f x M c w =
    let above = subst (λ (o : ℕ). ((own f).plus * x.over + x.minus * (own f).over) * FINE ≤ ((own f).minus * x.over + x.plus * (own f).over) * FINE + distance M.num o * (own f).over) w.same_over w.above in
    let below = subst (λ (o : ℕ). ((own f).minus * x.over + x.plus * (own f).over) * FINE ≤ ((own f).plus * x.over + x.minus * (own f).over) * FINE + distance M.num o * (own f).over) w.same_over w.below in
    let k = subst (λ (o : ℕ). LEAST * (distance M.num o * (own s).over) ≤ 100 * ((own s).plus * FINE * o)) w.same_over c.at_least in
    record {
      above = one_side ((own f).plus * x.over + x.minus * (own f).over) ((own f).minus * x.over + x.plus * (own f).over) M.num x.over (own f).over (own s).over (own s).plus above k;
      below = one_side ((own f).minus * x.over + x.plus * (own f).over) ((own f).plus * x.over + x.minus * (own f).over) M.num x.over (own f).over (own s).over (own s).plus below k;
    }

module _ (a : Asked) (e : EpochOffset) (w : FieldAccepted a e) (l : Listed a.g a.h a.g_dot a.h_dot) where
  pub reaches_x : Reaches (allowed (field_x bounds a e)) (field_x rounded a e) (field_x unrounded a e)
  reaches_x = reaches (allowed (field_x bounds a e)) (field_x rounded a e) (field_x unrounded a e) _ (covers_x a e w l) (close_x a e w l)

  pub reaches_y : Reaches (allowed (field_y bounds a e)) (field_y rounded a e) (field_y unrounded a e)
  reaches_y = reaches (allowed (field_y bounds a e)) (field_y rounded a e) (field_y unrounded a e) _ (covers_y a e w l) (close_y a e w l)

  pub reaches_z : Reaches (allowed (field_z bounds a e)) (field_z rounded a e) (field_z unrounded a e)
  reaches_z = reaches (allowed (field_z bounds a e)) (field_z rounded a e) (field_z unrounded a e) _ (covers_z a e w l) (close_z a e w l)

-- what Allowance answers with, v, against what Field answers with, u, for one question
pub record Reached (a : Asked) (e : EpochOffset) (v : Allowances) (u : GeomagneticField) : Type 0 where
  pub x : Reaches v.x u.x (field_x unrounded a e)
  pub y : Reaches v.y u.y (field_y unrounded a e)
  pub z : Reaches v.z u.z (field_z unrounded a e)

-- with whatever figures Field was asked
pub answer_reaches : (figures : Paper WmmErrorModel) (a : Asked) (year day : ℤ) (v : Allowances) (u : GeomagneticField) → allowance_says a year day ≡ answered v → field_with figures a year day ≡ answered u → Reached a (epoch_offset year day) v u
unfolding allowance_says
answer_reaches figures a year day v u hv hu =
    let e = epoch_offset year day in
    let f = found figures a year day u hu in
    let is : allowances_of a e ≡ v = answered_one (allowances_of a e) v (after_answered (field_says a year day) (λ w. answered (allowances_of a e)) v hv).1.1 in
    let r : Reached a e (allowances_of a e) (record_of (strengths_of a e) f.error) = record { x = reaches_x a e f.accepted f.lists; y = reaches_y a e f.accepted f.lists; z = reaches_z a e f.accepted f.lists } in
    subst (λ (w : Allowances). Reached a e w u) is (subst (λ (w : GeomagneticField). Reached a e (allowances_of a e) w) f.is r)
