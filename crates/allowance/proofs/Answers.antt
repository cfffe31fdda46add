-- The ways to an answer of Allowance, what an answer covers, and one answer.
use mathlib.Core.Path.{◌≡◌, refl, sym, ap, ◌∙◌, subst}
use lib.IntN.{ℤ}
use lib.Ieee.{Float}
use Rattle.std.specs.Prelude.{Ok, Err, IfOk, Result}
use Rattle.refusals.specs.Paper.{Paper, answered, paper, after, said}
use Rattle.refusals.proofs.Laws.{no_answer, answered_one, said_one}
use Rattle.refusals.specs.declared.Refusal.{Refusal}
use Rattle.models.specs.declared.epochs.EpochOffset.{EpochOffset}
use Rattle.models.specs.Epochs.{epoch_year_of, epoch_says, epoch_offset}
use Rattle.models.specs.Errors.{error_says}
use Rattle.geocentric.specs.declared.Geocentric.{Geocentric}
use Rattle.geocentric.specs.Geo.{geocentric_of, ratio_of, ratio_to}
use Rattle.synthesis.specs.declared.Xyz.{Xyz}
use Rattle.synthesis.specs.Sum.{lent}
use Rattle.strengths.specs.declared.GeomagneticField.{GeomagneticField}
use Rattle.field.specs.Field.{Asked, field_x, field_y, field_z, field_says, handed}
use Rattle.field.proofs.Answers.{after_answered, day_found, found}
use Rattle.lists.specs.Lists.{Long}
use Rattle.allowance.specs.declared.Allowances.{Allowances}
use Rattle.bounds.specs.Bounds.{allowed}
use Rattle.allowance.specs.Code.{majorants_of, turned_of}
use Rattle.allowance.specs.Allowance.{Covered, allowances_of, allowance_says}
use Rattle.allowance.proofs.Laws.{covered}

-- ---- from the majorants to the allowances
pub shown : (a : Asked) (e : EpochOffset) (p : Geocentric) (q : Float) (v u : Xyz) (x y z : Float)
    → p ≡ geocentric_of a.height a.sin_phi a.cos_phi → q ≡ ratio_to p.r
    → v ≡ majorants_of (lent p.cos_theta p.sin_theta a.sin_lambda a.cos_lambda q e.offset a.g a.h a.g_dot a.h_dot)
    → u ≡ turned_of v p a.sin_phi a.cos_phi
    → x ≡ allowed u.x → y ≡ allowed u.y → z ≡ allowed u.z
    → record { x = x; y = y; z = z } ≡ allowances_of a e
unfolding turned_of field_x field_y field_z handed geocentric_of ratio_of
shown a e p q v u x y z ep eq ev eu ex ey ez = rw (ex, ey, ez, eu, ev, eq, ep)

-- ---- the entry
module _ (a : Asked) (year day : ℤ) where
  pub field_refused : (k : Refusal) → paper k ≡ field_says a year day → paper k ≡ allowance_says a year day
  unfolding allowance_says
  field_refused k h = ap (λ (q : Paper GeomagneticField). after q (λ v. answered (allowances_of a (epoch_offset year day)))) h

  module _ (v : GeomagneticField) (h : answered v ≡ field_says a year day) where
    day_is : epoch_says year day ≡ answered (epoch_offset year day)
    unfolding field_says
    day_is = day_found (error_says (epoch_year_of year)) a year day v (sym h)

    -- Epoch does not refuse a day that Field answered for
    pub day_known : (k : Refusal) → paper k ≡ epoch_says year day → ⊥
    day_known k e = no_answer k (epoch_offset year day) (e ∙ day_is)

    pub lists_long : Long a.g a.h a.g_dot a.h_dot
    unfolding field_says
    lists_long = (found (error_says (epoch_year_of year)) a year day v (sym h)).lists.long

    pub allowances_shown : (e : EpochOffset) → answered e ≡ epoch_says year day → (r : Allowances) → r ≡ allowances_of a e → answered r ≡ allowance_says a year day
    unfolding allowance_says
    allowances_shown e d r er =
        let ee : e ≡ epoch_offset year day = answered_one e (epoch_offset year day) (d ∙ day_is) in
        ap answered (er ∙ ap (allowances_of a) ee) ∙ ap (λ (q : Paper GeomagneticField). after q (λ v. answered (allowances_of a (epoch_offset year day)))) h

-- an answer covers demand 3's allowance
pub answer_covers : (a : Asked) (year day : ℤ) (r : Result Allowances Refusal) → said r ≡ allowance_says a year day → (v : Allowances) → r ≡ Ok v → Covered a (epoch_offset year day) v
unfolding allowance_says field_says
answer_covers a year day r h v e =
    let o = epoch_offset year day in
    let q = after_answered (field_says a year day) (λ u. answered (allowances_of a o)) v (sym h ∙ ap said e) in
    let f = found (error_says (epoch_year_of year)) a year day q.0 q.1.0 in
    subst (λ (u : Allowances). Covered a o u) (answered_one (allowances_of a o) v q.1.1) (covered a o f.accepted f.lists)

-- the same, of the result
pub covers_if : (a : Asked) (year day : ℤ) (r : Result Allowances Refusal) → said r ≡ allowance_says a year day → IfOk r (λ v. Covered a (epoch_offset year day) v)
covers_if a year day (Ok v) h = answer_covers a year day (Ok v) h v refl
covers_if a year day (Err k) h = tt

-- any two answers that the contract allows are equal
pub allowance_answer_one : (p : Paper Allowances) (r s : Result Allowances Refusal) → said r ≡ p → said s ≡ p → r ≡ s
allowance_answer_one p r s e f = said_one r s (e ∙ sym f)
