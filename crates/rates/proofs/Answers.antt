-- The ways to an answer of the yearly rates, that X, Y and Z of an answer are close to the exact rates, and one answer. Assumes nothing.
use Rattle.std.specs.Prelude.{Ok, Err, IfOk, Result}
use mathlib.Core.Path.{◌≡◌, refl, sym, ap, ◌∙◌, subst}
use mathlib.Core.Bool.{Bool, true, false, cond, not, ◌||◌}
use lib.IntN.{ℤ}
use lib.Ieee.{Float, binary32, of_bits, eq}
use borrow.Author.Tests.{not-true}
use Rattle.refusals.specs.Paper.{Paper, answered, paper, unless, after, said}
use Rattle.refusals.specs.declared.Refusal.{Refusal}
use Rattle.refusals.specs.declared.Refusal.TheVariants.{ZeroDivisor}
use Rattle.refusals.proofs.Laws.{passed, no_answer, answered_one, said_one}
use Rattle.synthesis.specs.declared.Xyz.{Xyz}
use Rattle.strengths.specs.declared.GeomagneticField.{GeomagneticField}
use Rattle.strengths.specs.Strengths.{h_of, f_of}
use Rattle.field.specs.Field.{Asked, asked_of, dated_says, field_says}
use Rattle.lists.specs.declared.Lists.{Lists}
use Rattle.lists.specs.declared.CoefficientSet.{CoefficientSet}
use Rattle.synthesis.specs.Sum.{uncapped_says}
use Rattle.field.specs.declared.place.Place.{Place}
use Rattle.field.specs.Dated.{xyz_by}
use Rattle.field.proofs.Uncapped.{xyz_answered}
use Rattle.field.proofs.Answers.{after_answered}
use Rattle.field.proofs.Laws.{close_x, close_y, close_z}
use Rattle.rates.specs.declared.YearlyRates.{YearlyRates}
use Rattle.field.specs.Rated.{component_rates, no_time, rated}
use Rattle.rates.specs.Rates.{RatesClose, rates_of, rates_says, rates_with, zero_divisor}
use Rattle.rates.proofs.Rated.{rated_accepted, rated_dated, rated_listed}

-- ---- refusal 21, or the seven
-- over any two tests
refused_by_first : {A : Type 0} (b c : Bool) (p : Paper A) → b ≡ true → paper ZeroDivisor ≡ unless (not (b || c)) (paper ZeroDivisor) p
refused_by_first b c p e = rw e

refused_by_second : {A : Type 0} (b c : Bool) (p : Paper A) → b ≡ false → c ≡ true → paper ZeroDivisor ≡ unless (not (b || c)) (paper ZeroDivisor) p
refused_by_second b c p e f = rw (e, f)

by_neither : {A : Type 0} (b c : Bool) (p : Paper A) → b ≡ false → c ≡ false → p ≡ unless (not (b || c)) (paper ZeroDivisor) p
by_neither b c p e f = rw (e, f) refl

module _ (v : GeomagneticField) (r : Xyz) where
  pub no_h : eq (h_of v) (of_bits binary32 0) ≡ true → paper ZeroDivisor ≡ rates_with r v
  unfolding rates_with zero_divisor
  no_h e = refused_by_first (eq (h_of v) (of_bits binary32 0)) (eq (f_of v) (of_bits binary32 0)) (answered (rates_of v r)) e

  module _ (e : eq (h_of v) (of_bits binary32 0) ≡ false) where
    pub no_f : eq (f_of v) (of_bits binary32 0) ≡ true → paper ZeroDivisor ≡ rates_with r v
    unfolding rates_with zero_divisor
    no_f f = refused_by_second (eq (h_of v) (of_bits binary32 0)) (eq (f_of v) (of_bits binary32 0)) (answered (rates_of v r)) e f

    pub divided : eq (f_of v) (of_bits binary32 0) ≡ false → (u : YearlyRates) → u ≡ rates_of v r → answered u ≡ rates_with r v
    unfolding rates_with zero_divisor
    divided f u h = ap answered h ∙ by_neither (eq (h_of v) (of_bits binary32 0)) (eq (f_of v) (of_bits binary32 0)) (answered (rates_of v r)) e f

-- ---- the call
module _ (a : Asked) (year day : ℤ) where
  -- what is said after what Field says
  behind : (p : Paper GeomagneticField) → p ≡ field_says a year day → after p (rates_with (component_rates a)) ≡ rates_says a year day
  unfolding rates_says
  behind p e = ap (λ (q : Paper GeomagneticField). after q (rates_with (component_rates a))) e

  pub field_refused : (k : Refusal) → paper k ≡ field_says a year day → paper k ≡ rates_says a year day
  field_refused k e = behind (paper k) e

  module _ (v : GeomagneticField) (e : answered v ≡ field_says a year day) where
    -- 21, where H is zero
    pub nothing_divides : eq (h_of v) (of_bits binary32 0) ≡ true → paper ZeroDivisor ≡ rates_says a year day
    nothing_divides h = no_h v (component_rates a) h ∙ behind (answered v) e

    -- Sum refuses nothing of the rates
    pub sum_answers : (k : Refusal) → paper k ≡ dated_says (rated a) (no_time a) → ⊥
    sum_answers k h = no_answer k (component_rates a) (h ∙ rated_dated a year day v (sym e))

    pub rates_shown : (u : Xyz) → answered u ≡ dated_says (rated a) (no_time a) → (p : Paper YearlyRates) → p ≡ rates_with u v → p ≡ rates_says a year day
    rates_shown u h p m =
        let i : u ≡ component_rates a = answered_one u (component_rates a) (h ∙ rated_dated a year day v (sym e)) in
        m ∙ ap (λ (z : Xyz). rates_with z v) i ∙ behind (answered v) e

-- ---- by the code's steps
-- H, or 21
pub divided_by : (b : Bool) (x h : Float) → cond b (Err ZeroDivisor) (Ok x) ≡ Ok h → (b ≡ false) × (h ≡ x)
divided_by true x h e = cc
divided_by false x h e = (refl, cc)

pub not_divided : (b : Bool) (x : Float) (k : Refusal) → cond b (Err ZeroDivisor) (Ok x) ≡ Err k → (b ≡ true) × (k ≡ ZeroDivisor)
not_divided true x k e = (refl, cc)
not_divided false x k e = cc

module _ (p : Place) (s : CoefficientSet) (year day : ℤ) (v : GeomagneticField) (f : answered v ≡ field_says (asked_of p s) year day) where
  abbrev asks : Asked
  asks = asked_of p s

  -- the rate lists in the place of the coefficients, and again as rates, with no time passed: nothing is refused
  pub rated_xyz : (l : Lists) → ◌≡◌ {A = Lists} l (record { g = s.lists.g_dot; h = s.lists.h_dot; g_dot = s.lists.g_dot; h_dot = s.lists.h_dot }) → xyz_by uncapped_says p (of_bits binary32 0) l ≡ answered (component_rates asks)
  unfolding rated no_time
  rated_xyz l e =
      let w = rated_accepted asks year day v (sym f) in
      let g = rated_listed asks year day v (sym f) in
      ap (λ (m : Lists). xyz_by uncapped_says p (of_bits binary32 0) m) e
      ∙ xyz_answered p (no_time asks) (record { g = s.lists.g_dot; h = s.lists.h_dot; g_dot = s.lists.g_dot; h_dot = s.lists.h_dot }) w.height w.latitude w.longitude w.offset g.long

  -- 21, where H is zero
  pub no_divisor : eq (h_of v) (of_bits binary32 0) ≡ true → paper ZeroDivisor ≡ rates_says asks year day
  no_divisor h = nothing_divides asks year day v f h

  pub rates_by : (r : Xyz) → answered r ≡ answered (component_rates asks) → (q : Paper YearlyRates) → q ≡ rates_with r v → q ≡ rates_says asks year day
  rates_by r e q m = m ∙ ap (λ (z : Xyz). rates_with z v) (answered_one r (component_rates asks) e) ∙ behind asks year day (answered v) f

-- what stands behind an answer u: of what is said of the field, p, its record by w, whose H and F are not zero
pub record Behind {A : Type 0} (p : Paper A) (w : A → GeomagneticField) (r : Xyz) (u : YearlyRates) : Type 0 where
  pub field : A
  pub is_field : p ≡ answered field
  pub divides : zero_divisor (w field) ≡ false
  pub is : rates_of (w field) r ≡ u

pub behind_rates : {A : Type 0} (p : Paper A) (w : A → GeomagneticField) (r : Xyz) (u : YearlyRates) → after p (λ v. rates_with r (w v)) ≡ answered u → Behind p w r u
unfolding rates_with
behind_rates p w r u h =
    let q = after_answered p (λ v. rates_with r (w v)) u h in
    let v = q.0 in
    let k = passed (not (zero_divisor (w v))) ZeroDivisor (answered (rates_of (w v) r)) u q.1.1 in
    record { field = v; is_field = q.1.0; divides = not-true (zero_divisor (w v)) k.0; is = answered_one (rates_of (w v) r) u k.1 }

pub behind_answer : (a : Asked) (year day : ℤ) (u : YearlyRates) → rates_says a year day ≡ answered u → Behind (field_says a year day) (λ v. v) (component_rates a) u
unfolding rates_says
behind_answer a year day u h = behind_rates (field_says a year day) (λ v. v) (component_rates a) u h

-- demand 3
pub answer_close : (a : Asked) (year day : ℤ) (r : Result YearlyRates Refusal) → said r ≡ rates_says a year day → (u : YearlyRates) → r ≡ Ok u → RatesClose a u
unfolding rates_of rated
answer_close a year day r h u e =
    let b = behind_answer a year day u (sym h ∙ ap said e) in
    let w = rated_accepted a year day b.field b.is_field in
    let l = rated_listed a year day b.field b.is_field in
    subst (λ (z : YearlyRates). RatesClose a z) b.is
    (record { x = close_x (rated a) (no_time a) w l; y = close_y (rated a) (no_time a) w l; z = close_z (rated a) (no_time a) w l })

-- any two answers that the contract allows are equal
pub rates_answer_one : (p : Paper YearlyRates) (r s : Result YearlyRates Refusal) → said r ≡ p → said s ≡ p → r ≡ s
rates_answer_one p r s e f = said_one r s (e ∙ sym f)

-- the same, of the result
pub close_if : (a : Asked) (year day : ℤ) (r : Result YearlyRates Refusal) → said r ≡ rates_says a year day → IfOk r (RatesClose a)
close_if a year day (Ok u) h = answer_close a year day (Ok u) h u refl
close_if a year day (Err k) h = tt
