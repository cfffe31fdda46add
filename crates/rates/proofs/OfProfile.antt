-- The ways to an answer of the rates in the IGRF profile, that its X, Y and Z are close to the exact rates, and that no rate is infinite. Assumes nothing.
use Rattle.std.specs.Prelude.{Ok, Err, IfOk, Result}
use mathlib.Core.Path.{◌≡◌, refl, sym, ap, subst, ◌∙◌}
use mathlib.Core.Bool.{Bool, true, false}
use Prim.Native.Nat.{ℕ}
use lib.ListN.{length}
use lib.IntN.{ℤ}
use lib.Dec.{T}
use lib.Ieee.{binary32, eq, fits, of_bits}
use Rattle.refusals.specs.Paper.{Paper, after, answered, paper, said}
use Rattle.refusals.specs.declared.Refusal.{Refusal}
use Rattle.refusals.specs.declared.Refusal.TheVariants.{ZeroDivisor}
use Rattle.refusals.proofs.Laws.{answered_one, no_answer}
use Rattle.tables.specs.Degree.{degree_of}
use Rattle.tables.proofs.Degrees.{degree_high}
use Rattle.lists.proofs.OfProfile.{pair_listed}
use Rattle.models.specs.declared.epochs.EpochOffset.{EpochOffset}
use Rattle.models.specs.Epochs.{epoch_offset}
use Rattle.sums.specs.Arithmetic.{sizes}
use Rattle.sums.specs.Paths.{passing}
use Rattle.sums.proofs.Images.{hom_related, size_hom}
use Rattle.sums.proofs.Between.{passing_related}
use Rattle.synthesis.specs.declared.Xyz.{Xyz}
use Rattle.synthesis.proofs.Demand.{main_at}
use Rattle.strengths.specs.declared.GeomagneticField.{GeomagneticField}
use Rattle.strengths.specs.Strengths.{bare, h_of}
use Rattle.field.specs.Field.{strengths_of}
use Rattle.field.specs.Rated.{component_rates, no_time, rated}
use Rattle.field.proofs.Rated.{rates_accepted, rates_listed}
use Rattle.field.proofs.There.{there_x_related, there_y_related, there_z_related}
use Rattle.field.proofs.Reach.{Under, there_x_under, there_y_under, there_z_under}
use Rattle.field.proofs.Ceiling.{passed, passing_under}
use Rattle.igrf.specs.Igrf.{Profile, RateClose, chosen, early, igrf_says, mixed, rate_says}
use Rattle.igrf.proofs.Laws.{Met, behind, late_accepted, late_listed, met_rates_close, rates_answered, rates_close}
use Rattle.igrf.proofs.Usable.{igrf_usable}
use Rattle.rates.specs.declared.YearlyRates.{YearlyRates}
use Rattle.rates.specs.Profile.{igrf_rates_says}
use Rattle.rates.specs.Rates.{AllFinite, rates_of, rates_with, zero_divisor}
use Rattle.rates.proofs.Answers.{Behind, behind_rates, no_h}
use Rattle.rates.proofs.Ceiling.{Slow, east_most, passed_reach, rates_slow, turned_most, x_fits, y_fits, z_fits}
use Rattle.rates.proofs.Laws.{Sound, seven_finite, zero_by_h}

-- ---- rates between two sets are as small as others
early_slow : (a : Profile) (e : EpochOffset) → Met a true e → Slow (component_rates (mixed a))
unfolding chosen
early_slow a e m =
    let l = pair_listed _ _ _ _ m.lists in
    let c = met_rates_close a e true m in
    let s = hom_related size_hom in
    let N = degree_of (length a.one.g) in
    let t = degree_high (length a.one.g) in
    let gr = passing_related s a.one.g a.second_g in
    let hr = passing_related s a.one.h a.second_h in
    let g : (n k : ℕ) → Under (passing sizes a.one.g a.second_g n k) passed = λ n k. passing_under a.one.g a.second_g n k (main_at _ l.g_capped n k) (main_at _ l.c_capped n k) in
    let h : (n k : ℕ) → Under (passing sizes a.one.h a.second_h n k) passed = λ n k. passing_under a.one.h a.second_h n k (main_at _ l.h_capped n k) (main_at _ l.d_capped n k) in
    let p = m.place in
    let q = rated (mixed a) in
    let o = no_time (mixed a) in
    record {
      x_finite = c.x.is_finite;
      y_finite = c.y.is_finite;
      z_finite = c.z.is_finite;
      x_held = x_fits q o;
      y_held = y_fits q o;
      z_held = z_fits q o;
      x_most = turned_most (there_x_related s a.one N _ _ _ _ gr hr) c.x (there_x_under a.one p.0 p.1 p.2 N t _ _ passed_reach g h);
      y_most = east_most (there_y_related s a.one N _ _ _ _ gr hr) c.y (there_y_under a.one p.0 p.1 p.2 N t _ _ passed_reach g h);
      z_most = turned_most (there_z_related s a.one N _ _ _ _ gr hr) c.z (there_z_under a.one p.0 p.1 p.2 N t _ _ passed_reach g h);
    }

met_slow : (a : Profile) (e : EpochOffset) (soon : Bool) → Met a soon e → Slow (component_rates (chosen a soon))
unfolding chosen
met_slow a e true m = early_slow a e m
met_slow a e false m = rates_slow a.one (rates_accepted a.one e (late_accepted a e m) m.same) (rates_listed (late_listed a e m))

-- ---- the call
abbrev shown : Xyz → GeomagneticField
shown v = bare v.x v.y v.z

module _ (a : Profile) (year day : ℤ) where
  abbrev found : Xyz
  found = component_rates (chosen a (early year))

  -- what is said after what the profile says of X, Y and Z
  said_after : (p : Paper Xyz) → p ≡ igrf_says a year day → after p (λ v. rates_with found (shown v)) ≡ igrf_rates_says a year day
  unfolding igrf_rates_says
  said_after p e = ap (λ (q : Paper Xyz). after q (λ v. rates_with found (shown v))) e

  pub igrf_refused : (k : Refusal) → paper k ≡ igrf_says a year day → paper k ≡ igrf_rates_says a year day
  igrf_refused k e = said_after (paper k) e

  module _ (v : Xyz) (e : answered v ≡ igrf_says a year day) (w : GeomagneticField) (i : w ≡ shown v) where
    -- 21, where H is zero
    pub nothing_divides : eq (h_of w) (of_bits binary32 0) ≡ true → paper ZeroDivisor ≡ igrf_rates_says a year day
    nothing_divides h = no_h w found h ∙ ap (rates_with found) i ∙ said_after (answered v) e

    -- what has X, Y and Z has rates
    pub rates_given : (k : Refusal) → paper k ≡ rate_says a year day → ⊥
    rates_given k h = no_answer k found (h ∙ rates_answered a year day v (sym e))

    pub rates_shown : (u : Xyz) → answered u ≡ rate_says a year day → (p : Paper YearlyRates) → p ≡ rates_with u w → p ≡ igrf_rates_says a year day
    rates_shown u h p m =
        let r : u ≡ found = answered_one u found (h ∙ rates_answered a year day v (sym e)) in
        m ∙ ap (λ (z : Xyz). rates_with z w) r ∙ ap (rates_with found) i ∙ said_after (answered v) e

  behind_answer : (u : YearlyRates) → igrf_rates_says a year day ≡ answered u → Behind (igrf_says a year day) shown found u
  unfolding igrf_rates_says
  behind_answer u h = behind_rates (igrf_says a year day) shown found u h

  -- demand 3
  pub close : (u : YearlyRates) → igrf_rates_says a year day ≡ answered u → RateClose a (early year) u.x u.y u.z
  unfolding rates_of
  close u h =
      let b = behind_answer u h in
      subst (λ (z : YearlyRates). RateClose a (early year) z.x z.y z.z) b.is (rates_close a year day found (rates_answered a year day b.field b.is_field))

  sound : (v : Xyz) → igrf_says a year day ≡ answered v → Sound (shown v)
  sound v h =
      let q = chosen a (early year) in
      let e = epoch_offset year day in
      let is : strengths_of q e ≡ v = (behind false a year day v h).1 in
      record {
        usable_is = igrf_usable a year day v h;
        x_held = subst (λ (z : Xyz). T (fits binary32 z.x)) is (x_fits q e);
        y_held = subst (λ (z : Xyz). T (fits binary32 z.y)) is (y_fits q e);
        z_held = subst (λ (z : Xyz). T (fits binary32 z.z)) is (z_fits q e);
      }

  -- 21 is due exactly where H is zero
  pub igrf_zero_by_h : (v : Xyz) → igrf_says a year day ≡ answered v → zero_divisor (shown v) ≡ eq (h_of (shown v)) (of_bits binary32 0)
  igrf_zero_by_h v h = zero_by_h (shown v) (sound v h)

  -- no rate is infinite
  pub finite : (u : YearlyRates) → igrf_rates_says a year day ≡ answered u → AllFinite u
  finite u h =
      let b = behind_answer u h in
      let m = (behind false a year day b.field b.is_field).0 in
      subst (λ (z : YearlyRates). AllFinite z) b.is (seven_finite (shown b.field) (sound b.field b.is_field) found (met_slow a (epoch_offset year day) (early year) m) b.divides)

  pub answer_close : (r : Result YearlyRates Refusal) → said r ≡ igrf_rates_says a year day → (u : YearlyRates) → r ≡ Ok u → RateClose a (early year) u.x u.y u.z
  answer_close r h u e = close u (sym h ∙ ap said e)

  pub answer_finite : (r : Result YearlyRates Refusal) → said r ≡ igrf_rates_says a year day → (u : YearlyRates) → r ≡ Ok u → AllFinite u
  answer_finite r h u e = finite u (sym h ∙ ap said e)

  -- the same, of the result
  pub close_if : (r : Result YearlyRates Refusal) → said r ≡ igrf_rates_says a year day → IfOk r (λ u. RateClose a (early year) u.x u.y u.z)
  close_if (Ok u) h = answer_close (Ok u) h u refl
  close_if (Err k) h = tt

  pub finite_if : (r : Result YearlyRates Refusal) → said r ≡ igrf_rates_says a year day → IfOk r AllFinite
  finite_if (Ok u) h = answer_finite (Ok u) h u refl
  finite_if (Err k) h = tt

  -- the rates, once X, Y and Z are answered with
  pub rates_by : (v : Xyz) → answered v ≡ igrf_says a year day → (r : Xyz) → answered r ≡ rate_says a year day → (q : Paper YearlyRates) → q ≡ rates_with r (shown v) → q ≡ igrf_rates_says a year day
  rates_by v e r i q m = rates_shown v e (shown v) refl r i q m

  pub no_divisor : (v : Xyz) → answered v ≡ igrf_says a year day → eq (h_of (shown v)) (of_bits binary32 0) ≡ true → paper ZeroDivisor ≡ igrf_rates_says a year day
  no_divisor v e h = nothing_divides v e (shown v) refl h
