-- The ways to an answer of the profile's entry, what an answer says of what is asked, and demand 3 for it.
use Rattle.refusals.specs.Paper.{Paper, Verdict, accepted, after, answered, both, paper, refused, said, unless, told}
use Rattle.std.specs.Prelude.{Ok, Err, Result}
use mathlib.Core.Path.{◌≡◌, refl, sym, ap, subst, ◌∙◌}
use mathlib.Core.Bool.{Bool, true, false}
use native.Mathlib.Omega.{arith}
use borrow.Author.Tests.{le-ltb, ltb-false}
use lib.Dec.{T}
use lib.IntN.{ℤ, pos, negsuc}
use lib.Signed.{lt_z}
use Rattle.exact.specs.Tests.{circle}
use Rattle.refusals.specs.declared.Refusal.{Refusal}
use Rattle.refusals.specs.declared.Refusal.TheVariants.{DayOfYear, Latitude, Longitude, OtherEpoch}
use Rattle.refusals.proofs.Laws.{answered_one, check_accepted, no_answer, no_refusal, said_one, told_answered}
use Rattle.models.specs.declared.epochs.EpochOffset.{EpochOffset}
use Rattle.models.specs.Epochs.{IGRF_FIRST, day_exists, day_from, days_from, epoch_offset, epoch_year_of, igrf_day, known_epoch, same_year, served_from, wrong_day}
use Rattle.models.proofs.Years.{same_year_lem, years_served}
use Rattle.models.proofs.Dated.{dated_from}
use Rattle.lists.proofs.Checked.{Listed, holds}
use Rattle.lists.proofs.OfProfile.{forecast_listed, pair_listed}
use Rattle.geocentric.specs.Geo.{height_ok, latitude_ok}
use Rattle.synthesis.specs.declared.Xyz.{Xyz}
use Rattle.synthesis.specs.Sum.{offset_ok}
use Rattle.field.specs.Field.{FieldAccepted, outside_height, place_verdict, strengths_of}
use Rattle.field.specs.Rated.{component_rates, no_time, rated}
use Rattle.field.proofs.Rated.{rates_accepted, rates_listed}
use Rattle.field.proofs.Laws.{close_x, close_y, close_z}
use Rattle.field.proofs.Answers.{after_answered}
use Rattle.field.proofs.Offset.{never_11}
use Rattle.igrf.specs.Igrf.{IgrfClose, Profile, RateClose, chosen, components_of, day_shows_by, early, found_by, igrf_by, igrf_says, lists_found, rate_says, accepted_says, years_found}
use Rattle.igrf.proofs.Close.{early_close, early_rates_close}

abbrev pub of_place : Profile → Verdict
of_place a = place_verdict a.one.height a.one.sin_phi a.one.cos_phi a.one.sin_lambda a.one.cos_lambda

-- both in one: of X, Y and Z (`components_of`) as of their rates
by_is : (r : Bool) (a : Profile) (year day : ℤ)
    → igrf_by r a year day ≡ told (of_place a) (after (igrf_day year day) (day_shows_by r a (early year)))
unfolding igrf_says rate_says components_of chosen
by_is false a year day = refl
by_is true a year day = refl

-- ---- the ways
module _ (r : Bool) (a : Profile) (year day : ℤ) where
  pub place_refused : (k : Refusal) → of_place a ≡ Err k → paper k ≡ igrf_by r a year day
  place_refused k e = rw (by_is r a year day, e)

  module _ (p : of_place a ≡ accepted) where
    pub day_refused : (k : Refusal) → paper k ≡ igrf_day year day → paper k ≡ igrf_by r a year day
    day_refused k e = rw (by_is r a year day, p, sym e)

    pub day_answered : (e : EpochOffset) → answered e ≡ igrf_day year day → (q : Paper Xyz) → q ≡ day_shows_by r a (early year) e → q ≡ igrf_by r a year day
    day_answered e h q i = i ∙ rw (by_is r a year day, p, sym h)

-- ---- what the place and the day say
pub place_good : (a : Profile) → of_place a ≡ accepted → T (height_ok a.one.height) × T (latitude_ok a.one.sin_phi a.one.cos_phi) × T (circle a.one.sin_lambda a.one.cos_lambda)
unfolding place_verdict
place_good a f =
    let p1 = check_accepted (height_ok a.one.height) outside_height _ f in
    let p2 = check_accepted (latitude_ok a.one.sin_phi a.one.cos_phi) Latitude _ p1.1 in
    let p3 = check_accepted (circle a.one.sin_lambda a.one.cos_lambda) Longitude _ p2.1 in
    (holds p1.0, holds p2.0, holds p3.0)

-- the epoch year of a day lies from 0 to 2029, and its offset from 0 to 5
pub day_good : (year day : ℤ) (e : EpochOffset) → answered e ≡ igrf_day year day → T (offset_ok e.offset) × (lt_z e.epoch_year (pos 0) ≡ false) × (lt_z (pos 2029) e.epoch_year ≡ false)
day_good year day e h =
    let t = dated_from IGRF_FIRST year day e (sym h) in
    (never_11 t, rw t.epoch_is (le-ltb t.ep 0 (omega arith)), rw t.epoch_is (le-ltb 2029 t.ep (omega (arith, t.since, t.latest))))

-- ---- one answer
pub igrf_answer_one : (p : Paper Xyz) (r s : Result Xyz Refusal) → said r ≡ p → said s ≡ p → r ≡ s
igrf_answer_one p r s e f = said_one r s (e ∙ sym f)

-- ---- what stands behind an answer
-- a day that is answered for has its own epoch and offset
day_is : (year day : ℤ) (e : EpochOffset) → igrf_day year day ≡ answered e → epoch_offset year day ≡ e
unfolding day_from
day_is year day e h = go (day_exists year day) (served_from IGRF_FIRST year) h
  where
    go : (b c : Bool) → unless b wrong_day (unless c (paper (days_from IGRF_FIRST)) (answered (epoch_offset year day))) ≡ answered e → epoch_offset year day ≡ e
    go true true i = answered_one _ e i
    go true false i = absurd (no_answer (days_from IGRF_FIRST) e i)
    go false c i = absurd (no_answer DayOfYear e i)

-- from 2025 on the epoch is a known one
not_before : (year : ℤ) → early year ≡ false → lt_z year (pos 2020) ≡ false
unfolding early
not_before (pos n) h = le-ltb n 2020 (omega (arith, ltb-false n 2025 h))
not_before (negsuc n) h = h

known_then : (year day : ℤ) → early year ≡ false → (e : EpochOffset) → igrf_day year day ≡ answered e → known_epoch (epoch_year_of year) ≡ true
known_then year day h e d =
    let t = dated_from IGRF_FIRST year day e d in
    let l : lt_z (pos 2029) year ≡ false = rw t.year_is (le-ltb 2029 t.y t.latest) in
    years_served year ∙ rw (not_before year h, l)

-- a place, a day and sets that are answered for
pub record Met (a : Profile) (soon : Bool) (e : EpochOffset) : Type 0 where
  pub place : T (height_ok a.one.height) × T (latitude_ok a.one.sin_phi a.one.cos_phi) × T (circle a.one.sin_lambda a.one.cos_lambda)
  pub offset : T (offset_ok e.offset)
  pub lists : lists_found a soon ≡ accepted
  pub same : a.one.set_epoch ≡ e.epoch_year
  pub known : soon ≡ false → known_epoch e.epoch_year ≡ true

first_year : (soon : Bool) (of_day one two : ℤ) → years_found soon of_day one two ≡ accepted → one ≡ of_day
first_year true of_day one two h = same_year_lem one of_day (check_accepted (same_year one of_day) (OtherEpoch of_day one) _ h).0
first_year false of_day one two h = same_year_lem one of_day (check_accepted (same_year one of_day) (OtherEpoch of_day one) _ h).0

-- of X, Y and Z as of their rates
module _ (r : Bool) (a : Profile) (year day : ℤ) (v : Xyz) where
  abbrev Behind : EpochOffset → Type 0
  Behind e = Met a (early year) e × (found_by r (chosen a (early year)) e ≡ v)

  on_day : of_place a ≡ accepted → (q : Paper EpochOffset) → igrf_day year day ≡ q → after q (day_shows_by r a (early year)) ≡ answered v → Behind (epoch_offset year day)
  on_day p (answered e) d i =
      let q = told_answered (lists_found a (early year)) _ v i in
      let y = told_answered (years_found (early year) e.epoch_year a.one.set_epoch a.second_epoch) _ v q.1 in
      let k : early year ≡ false → known_epoch e.epoch_year ≡ true = λ s. subst (λ (o : EpochOffset). known_epoch o.epoch_year ≡ true) (day_is year day e d) (known_then year day s e d) in
      let m : Met a (early year) e = record { place = place_good a p; offset = (day_good year day e (sym d)).0; lists = q.0; same = first_year (early year) _ _ _ y.0; known = k } in
      subst Behind (sym (day_is year day e d)) (m, answered_one _ v y.1)
  on_day p (refused n f z) d i = absurd (no_refusal (sym i))

  pub behind : igrf_by r a year day ≡ answered v → Behind (epoch_offset year day)
  behind h = let p = told_answered (of_place a) _ v (sym (by_is r a year day) ∙ h) in on_day p.0 (igrf_day year day) refl p.1

-- the day is answered for
pub day_met : (r : Bool) (a : Profile) (year day : ℤ) (v : Xyz) → igrf_by r a year day ≡ answered v → igrf_day year day ≡ answered (epoch_offset year day)
day_met r a year day v h =
    let p = told_answered (of_place a) _ v (sym (by_is r a year day) ∙ h) in
    let q = after_answered (igrf_day year day) (day_shows_by r a (early year)) v p.1 in
    q.1.0 ∙ ap answered (sym (day_is year day q.0 q.1.0))

-- what has X, Y and Z has their rates: nothing more is refused
module _ (a : Profile) (year day : ℤ) (v : Xyz) where
  of_day : (q : Paper EpochOffset) → igrf_day year day ≡ q → after q (day_shows_by false a (early year)) ≡ answered v → after q (day_shows_by true a (early year)) ≡ answered (component_rates (chosen a (early year)))
  of_day (answered e) d i =
      let q = told_answered (lists_found a (early year)) _ v i in
      let y = told_answered (years_found (early year) e.epoch_year a.one.set_epoch a.second_epoch) _ v q.1 in
      rw (q.0, y.0) refl
  of_day (refused n f z) d i = absurd (no_refusal (sym i))

  pub rates_answered : igrf_says a year day ≡ answered v → rate_says a year day ≡ answered (component_rates (chosen a (early year)))
  rates_answered h = let p = told_answered (of_place a) _ v (sym (by_is false a year day) ∙ h) in rw (by_is true a year day, p.0) (of_day (igrf_day year day) refl p.1)

-- ---- by the refusals alone
after_told : {A B : Type 0} (u : Verdict) (p : Paper A) (f : A → Paper B) → after (told u p) f ≡ told u (after p f)
after_told (Ok _) p f = refl
after_told (Err k) p f = refl

after_after : {A B C : Type 0} (q : Paper A) (g : A → Paper B) (f : B → Paper C) → after (after q g) f ≡ after q (λ x. after (g x) f)
after_after (answered x) g f = refl
after_after (refused n x z) g f = refl

told_both : {A : Type 0} (u v : Verdict) (p : Paper A) → told (both u v) p ≡ told u (told v p)
told_both (Ok _) v p = refl
told_both (Err k) v p = refl

module _ (r : Bool) (a : Profile) (year day : ℤ) where
  -- what is refused of the sets on a day of this epoch
  abbrev of_sets : EpochOffset → Verdict
  of_sets e = both (lists_found a (early year)) (years_found (early year) e.epoch_year a.one.set_epoch a.second_epoch)

  abbrev shown : EpochOffset → Paper Xyz
  shown e = answered (found_by r (chosen a (early year)) e)

  same : (q : Paper EpochOffset) → after q (day_shows_by r a (early year)) ≡ after q (λ e. after (told (of_sets e) (answered e)) shown)
  same (answered e) = sym (after_told (of_sets e) (answered e) shown ∙ told_both (lists_found a (early year)) (years_found (early year) e.epoch_year a.one.set_epoch a.second_epoch) (shown e))
  same (refused n x z) = refl

  -- X, Y and Z, or their rates, follow what is accepted
  pub by_accepted : igrf_by r a year day ≡ after (accepted_says a year day) shown
  by_accepted =
      let g : EpochOffset → Paper EpochOffset = λ e. told (of_sets e) (answered e) in
      by_is r a year day ∙ ap (λ (q : Paper Xyz). told (of_place a) q) (same (igrf_day year day) ∙ sym (after_after (igrf_day year day) g shown)) ∙ sym (after_told (of_place a) (after (igrf_day year day) g) shown)

module _ (a : Profile) (year day : ℤ) (e : EpochOffset) (h : accepted_says a year day ≡ answered e) where
  -- what is accepted is the day's own epoch and offset, of a place, a day and sets that are answered for
  pub accepted_day : e ≡ epoch_offset year day
  accepted_day =
      let p = told_answered (of_place a) _ e h in
      let q = after_answered (igrf_day year day) _ e p.1 in
      let l = told_answered (of_sets false a year day q.0) _ e q.1.1 in
      sym (answered_one _ e l.1) ∙ sym (day_is year day q.0 q.1.0)

  pub accepted_met : Met a (early year) e
  accepted_met =
      let f : igrf_by false a year day ≡ shown false a year day e = by_accepted false a year day ∙ ap (λ (q : Paper EpochOffset). after q (shown false a year day)) h in
      subst (λ (o : EpochOffset). Met a (early year) o) (sym accepted_day) (behind false a year day _ f).0

-- ---- demand 3
module _ (a : Profile) (e : EpochOffset) where
  -- from 2025 on the lists and the day are Field's own
  pub late_listed : Met a false e → Listed a.one.g a.one.h a.one.g_dot a.one.h_dot
  late_listed m = forecast_listed _ _ _ _ m.lists

  pub late_accepted : Met a false e → FieldAccepted a.one e
  late_accepted m = record { height = m.place.0; latitude = m.place.1; longitude = m.place.2; offset = m.offset; known = m.known refl }

  pub met_close : (soon : Bool) → Met a soon e → IgrfClose a soon e (strengths_of (chosen a soon) e)
  unfolding chosen
  met_close true m = early_close a m.place.0 m.place.1 m.place.2 (pair_listed _ _ _ _ m.lists) e m.offset
  met_close false m =
      let w = late_accepted m in
      let l = late_listed m in
      record { x = close_x a.one e w l; y = close_y a.one e w l; z = close_z a.one e w l }

  pub met_rates_close : (soon : Bool) → Met a soon e → (let v = component_rates (chosen a soon) in RateClose a soon v.x v.y v.z)
  unfolding chosen rated
  met_rates_close true m = early_rates_close a m.place.0 m.place.1 m.place.2 (pair_listed _ _ _ _ m.lists)
  met_rates_close false m =
      let q = rated a.one in
      let o = no_time a.one in
      let w = rates_accepted a.one e (late_accepted m) m.same in
      let l = rates_listed (late_listed m) in
      record { x = close_x q o w l; y = close_y q o w l; z = close_z q o w l }

module _ (a : Profile) (year day : ℤ) where
  pub close : (v : Xyz) → igrf_says a year day ≡ answered v → IgrfClose a (early year) (epoch_offset year day) v
  close v h = let b = behind false a year day v h in subst (λ (u : Xyz). IgrfClose a (early year) (epoch_offset year day) u) b.1 (met_close a (epoch_offset year day) (early year) b.0)

  pub rates_close : (v : Xyz) → rate_says a year day ≡ answered v → RateClose a (early year) v.x v.y v.z
  rates_close v h = let b = behind true a year day v h in subst (λ (u : Xyz). RateClose a (early year) u.x u.y u.z) b.1 (met_rates_close a (epoch_offset year day) (early year) b.0)

  pub answer_close : (r : Result Xyz Refusal) → said r ≡ igrf_says a year day → (v : Xyz) → r ≡ Ok v → IgrfClose a (early year) (epoch_offset year day) v
  answer_close r e v h = close v (sym e ∙ ap said h)

  pub answer_rates_close : (r : Result Xyz Refusal) → said r ≡ rate_says a year day → (v : Xyz) → r ≡ Ok v → RateClose a (early year) v.x v.y v.z
  answer_rates_close r e v h = rates_close v (sym e ∙ ap said h)
