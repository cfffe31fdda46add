-- The ways to an answer of Field, and what an answer says of what is asked.
use Rattle.refusals.specs.Paper.{Paper, Verdict, accepted, answered, refused, paper, unless, after, told, check, said}
use Rattle.std.specs.Prelude.{Ok, Err, IfOk, Result}
use mathlib.Core.Path.{◌≡◌, refl, sym, ap, ◌∙◌, subst}
use mathlib.Core.Bool.{Bool, true, false, ◌||◌}
use Prim.Native.Nat.{ℕ}
use native.Mathlib.Omega.{arith}
use borrow.Author.Tests.{eqb-true}
use lib.Dec.{eqb}
use lib.IntN.{ℤ, pos, negsuc}
use lib.Ieee.{Float, le}
use mir.Syntax.{w32}
use mir.Val.{SFits, of_z, to_z}
use mir.ValLaws.{to_z-of_z}
use Rattle.refusals.proofs.Laws.{passed, answered_one, told_answered, told_carry, said_one}
use Rattle.refusals.specs.declared.Day.{Day}
use Rattle.refusals.specs.declared.Refusal.{Refusal}
use Rattle.refusals.specs.declared.Refusal.TheVariants.{Latitude, Longitude, DayOfYear, OtherEpoch}
use Rattle.models.specs.declared.epochs.EpochOffset.{EpochOffset}
use Rattle.models.specs.declared.errors.WmmErrorModel.{WmmErrorModel}
use Rattle.models.specs.Epochs.{unknown_epoch, wrong_epoch, day_exists, epoch_year_of, same_year, epoch_says, epoch_offset, known_epoch}
use Rattle.models.specs.Records.{listed_errors}
use Rattle.models.specs.Errors.{built_in, errors2025, error_says}
use Rattle.models.proofs.Years.{other_bits, same_bits, same_year_lem, year_same}
use Rattle.models.proofs.BuiltIn.{known_errors}
use Rattle.geocentric.specs.declared.Geocentric.{Geocentric}
use Rattle.geocentric.specs.Geo.{beyond_pole, geocentric_of, ratio_to, ratio_of, height_ok}
use Rattle.synthesis.specs.declared.Xyz.{Xyz}
use Rattle.lists.specs.Lists.{lists_verdict}
use Rattle.synthesis.specs.Sum.{Lent, lent, sum_says, value_of}
use Rattle.strengths.specs.declared.GeomagneticField.{GeomagneticField}
use Rattle.field.specs.Field.{Asked, asked_of, epoch_verdict, FieldAccepted, FieldClose, components_says, dated_says, field_x, field_y, field_z, field_says, field_with, handed, listed_field, outside_height, place_verdict, record_of, record_says, shown_says, strengths_of}
use Rattle.lists.proofs.Checked.{Listed, listed}
use Rattle.field.proofs.Laws.{accepted_at, close, sum_says_lem}
use Rattle.exact.specs.Tests.{circle}
use Rattle.lists.specs.declared.CoefficientSet.{CoefficientSet}
use Rattle.field.specs.declared.place.Place.{Place}
use Rattle.field.specs.Dated.{xyz_by}
use Rattle.field.specs.Turn.{turned}

-- ---- the place
module _ (h s c sl cl : Float) where
  pub bad_height : height_ok h ≡ false → Err outside_height ≡ place_verdict h s c sl cl
  unfolding place_verdict
  bad_height e = rw e

  module _ (e : height_ok h ≡ true) where
    pub bad_latitude : circle s c ≡ false → Err Latitude ≡ place_verdict h s c sl cl
    unfolding place_verdict
    bad_latitude f = rw (e, f)

    module _ (f : circle s c ≡ true) where
      pub behind : le beyond_pole c ≡ false → Err Latitude ≡ place_verdict h s c sl cl
      unfolding place_verdict
      behind g = rw (e, f, g)

      module _ (g : le beyond_pole c ≡ true) where
        pub bad_longitude : circle sl cl ≡ false → Err Longitude ≡ place_verdict h s c sl cl
        unfolding place_verdict
        bad_longitude i = rw (e, f, g, i)

        pub good_place : circle sl cl ≡ true → accepted ≡ place_verdict h s c sl cl
        unfolding place_verdict
        good_place i = rw (e, f, g, i)

-- ---- the set's year against the day's
module _ (a b : ℤ) (v : Xyz) (fa : SFits w32 a) (fb : SFits w32 b) where
  pub other_epoch : (of_z w32 a ≡ of_z w32 b → ⊥) → paper (OtherEpoch b a) ≡ shown_says a b v
  unfolding shown_says
  other_epoch n = rw (other_bits a b fa fb (λ e. n (sym e)))

  pub own_epoch : of_z w32 a ≡ of_z w32 b → answered v ≡ shown_says a b v
  unfolding shown_says
  own_epoch h = rw (same_bits a b fa fb (sym h))

-- a year is its own
pub own_year : (a : ℤ) (v : Xyz) → answered v ≡ shown_says a a v
unfolding shown_says
own_year a v = rw (year_same a)

-- a known year is the same after its way through an i32
pub year_back : (y : ℤ) → known_epoch y ≡ true → to_z w32 (of_z w32 y) ≡ y
unfolding known_epoch
year_back (pos n) e = go (eqb n 2020) (eqb n 2025) (eqb-true n 2020) (eqb-true n 2025) e
  where
    go : (a b : Bool) → (a ≡ true → n ≡ 2020) → (b ≡ true → n ≡ 2025) → a || b ≡ true → to_z w32 (of_z w32 (pos n)) ≡ pos n
    go true b f g h = rw (f refl)
    go false true f g h = rw (g refl)
    go false false f g h = absurd (let z : ◌≡◌ {A = ℕ} 0 1 = cc in omega arith)
year_back (negsuc n) e = absurd (let z : ◌≡◌ {A = ℕ} 0 1 = cc in omega arith)

-- a set of the day's own year is of a known year
pub own_known : (a b : ℤ) → SFits w32 a → known_epoch b ≡ true → of_z w32 a ≡ of_z w32 b → known_epoch a ≡ true
own_known a b f k h = ap known_epoch (sym (to_z-of_z w32 a f) ∙ ap (to_z w32) h ∙ year_back b k) ∙ k

-- ---- from the set's year on
module _ (a : Asked) (e : EpochOffset) where
  pub unknown_set : known_epoch a.set_epoch ≡ false → wrong_epoch ≡ dated_says a e
  unfolding dated_says
  unknown_set n = rw n

  module _ (w : FieldAccepted a e) (n : known_epoch a.set_epoch ≡ true) (p : Geocentric) (ep : p ≡ geocentric_of a.height a.sin_phi a.cos_phi) (q : Float) (eq : q ≡ ratio_to p.r) where
    abbrev asks : Lent
    asks = lent p.cos_theta p.sin_theta a.sin_lambda a.cos_lambda q e.offset a.g a.h a.g_dot a.h_dot

    handed_is : asks ≡ handed a e
    unfolding handed geocentric_of ratio_of
    handed_is = rw (eq, ep)

    abbrev of_lists : Verdict
    of_lists = lists_verdict a.g a.h a.g_dot a.h_dot

    says : sum_says asks ≡ told of_lists (answered (value_of (handed a e)))
    says = ap sum_says handed_is ∙ sum_says_lem a e w

    after_set : told of_lists (shown_says a.set_epoch e.epoch_year (strengths_of a e)) ≡ dated_says a e
    unfolding dated_says
    after_set = rw n

    pub lists_refused : (k : Refusal) → paper k ≡ sum_says asks → paper k ≡ dated_says a e
    lists_refused k h = told_carry of_lists k (value_of (handed a e)) (shown_says a.set_epoch e.epoch_year (strengths_of a e)) (h ∙ says) ∙ after_set

    pub strengths_shown : (v : Xyz) → answered v ≡ sum_says asks → (u : Xyz) → u ≡ turned v p a.sin_phi a.cos_phi → (r : Paper Xyz) → r ≡ shown_says a.set_epoch e.epoch_year u → r ≡ dated_says a e
    unfolding value_of turned field_x field_y field_z handed geocentric_of
    strengths_shown v h u eu r er =
        let l = told_answered of_lists (answered (value_of (handed a e))) v (sym (h ∙ says)) in
        let ev : v ≡ value_of (handed a e) = sym (answered_one (value_of (handed a e)) v l.1) in
        let es : u ≡ strengths_of a e = eu ∙ rw (ev, ep) in
        let shows = shown_says a.set_epoch e.epoch_year in
        er ∙ ap shows es ∙ ap (λ (t : Verdict). told t (shows (strengths_of a e))) (sym l.0) ∙ after_set

unless_told : {A : Type 0} (b : Bool) (k : Refusal) (p : Paper A) → unless b (paper k) p ≡ told (check b k accepted) p
unless_told true k p = refl
unless_told false k p = refl

told_after : (u : Verdict) (v : Xyz) (turn : Xyz → Xyz) (f : Xyz → Paper Xyz) → told u (f (turn v)) ≡ after (after (told u (answered v)) (λ w. answered (turn w))) f
told_after (Ok _) v turn f = refl
told_after (Err k) v turn f = refl

-- for an accepted place and day: 5 of the set, what Sum says of it in geodetic axes, and 8 before its answer
pub dated_by : (p : Place) (s : CoefficientSet) (e : EpochOffset) → FieldAccepted (asked_of p s) e
    → dated_says (asked_of p s) e ≡ told (check (known_epoch s.epoch_year) unknown_epoch accepted) (after (xyz_by sum_says p e.offset s.lists) (λ v. told (epoch_verdict e.epoch_year s.epoch_year) (answered v)))
unfolding dated_says shown_says value_of turned field_x field_y field_z handed geocentric_of ratio_of
dated_by p s e w =
    let a = asked_of p s in
    let turn : Xyz → Xyz = λ v. turned v (geocentric_of p.height p.latitude.sin p.latitude.cos) p.latitude.sin p.latitude.cos in
    let shows : Xyz → Paper Xyz = λ v. told (epoch_verdict e.epoch_year s.epoch_year) (answered v) in
    let lists = lists_verdict a.g a.h a.g_dot a.h_dot in
    unless_told (known_epoch s.epoch_year) unknown_epoch _
    ∙ ap (λ (r : Paper Xyz). told (check (known_epoch s.epoch_year) unknown_epoch accepted) r)
    (ap (λ (r : Paper Xyz). told lists r) (unless_told (same_year s.epoch_year e.epoch_year) (OtherEpoch e.epoch_year s.epoch_year) (answered (strengths_of a e)))
    ∙ told_after lists (value_of (handed a e)) turn shows
    ∙ ap (λ (r : Paper Xyz). after (after r (λ v. answered (turn v))) shows) (sym (sum_says_lem a e w)))

-- ---- the components
abbrev pub of_place : Asked → Verdict
of_place a = place_verdict a.height a.sin_phi a.cos_phi a.sin_lambda a.cos_lambda

module _ (a : Asked) (year day : ℤ) where
  pub place_refused : (k : Refusal) → of_place a ≡ Err k → paper k ≡ components_says a year day
  unfolding components_says
  place_refused k e = rw e

  module _ (f : of_place a ≡ accepted) where
    pub day_refused : (k : Refusal) → paper k ≡ epoch_says year day → paper k ≡ components_says a year day
    unfolding components_says
    day_refused k h = rw f (ap (λ (q : Paper EpochOffset). after q (dated_says a)) h)

    pub day_answered : (e : EpochOffset) → answered e ≡ epoch_says year day → (r : Paper Xyz) → r ≡ dated_says a e → r ≡ components_says a year day
    unfolding components_says
    day_answered e h r er = rw f (er ∙ ap (λ (q : Paper EpochOffset). after q (dated_says a)) h)

-- a place that passed, and a day that Epoch answered for
pub accepted_of : (p : Place) (s : CoefficientSet) (d : Day) (e : EpochOffset) (r : Result EpochOffset Refusal) → place_verdict p.height p.latitude.sin p.latitude.cos p.longitude.sin p.longitude.cos ≡ accepted
    → said r ≡ epoch_says d.year d.day_of_year → r ≡ Ok e → FieldAccepted (asked_of p s) e
accepted_of p s d e r f h i = accepted_at (asked_of p s) d.year d.day_of_year f e (sym h ∙ ap said i)

-- ---- what an answer says
pub after_answered : {A B : Type 0} (p : Paper A) (f : A → Paper B) (b : B) → after p f ≡ answered b → (x : A) × ((p ≡ answered x) × (f x ≡ answered b))
after_answered (answered x) f b e = (x, (refl, e))
after_answered (refused n y z) f b e = absurd (let q : ◌≡◌ {A = ℕ} 0 1 = cc in omega arith)

epoch_is : (year day : ℤ) (e : EpochOffset) → epoch_says year day ≡ answered e → epoch_offset year day ≡ e
unfolding epoch_says
epoch_is year day e h =
    let p1 = passed (day_exists year day) DayOfYear _ e h in
    let p2 = passed (known_epoch (epoch_year_of year)) unknown_epoch _ e p1.1 in
    answered_one (epoch_offset year day) e p2.1

-- what stands behind a record that is shown with these figures, for a day of epoch and offset e
pub record Found (figures : Paper WmmErrorModel) (a : Asked) (e : EpochOffset) (v : GeomagneticField) : Type 0 where
  pub accepted : FieldAccepted a e
  pub lists : Listed a.g a.h a.g_dot a.h_dot
  pub same : same_year a.set_epoch e.epoch_year ≡ true
  pub error : WmmErrorModel
  pub figures_are : figures ≡ answered error
  pub is : record_of (strengths_of a e) error ≡ v

module _ (figures : Paper WmmErrorModel) (a : Asked) (year day : ℤ) (v : GeomagneticField) (h : field_with figures a year day ≡ answered v) where
  pub found : Found figures a (epoch_offset year day) v
  unfolding field_with components_says dated_says shown_says
  found =
      let c = after_answered (components_says a year day) _ v h in
      let m = after_answered figures _ v c.1.1 in
      let u = c.0 in
      let p = told_answered (of_place a) _ u c.1.0 in
      let q = after_answered (epoch_says year day) (dated_says a) u p.1 in
      let e = q.0 in
      let s = passed (known_epoch a.set_epoch) unknown_epoch _ u q.1.1 in
      let l = told_answered (lists_verdict a.g a.h a.g_dot a.h_dot) _ u s.1 in
      let y = passed (same_year a.set_epoch e.epoch_year) (OtherEpoch e.epoch_year a.set_epoch) _ u l.1 in
      subst (λ (x : EpochOffset). Found figures a x v) (sym (epoch_is year day e q.1.0))
      (record {
        accepted = accepted_at a year day p.0 e q.1.0;
        lists = listed a.g a.h a.g_dot a.h_dot l.0;
        same = y.0;
        error = m.0;
        figures_are = m.1.0;
        is = ap (λ (x : Xyz). record_of x m.0) (answered_one (strengths_of a e) u y.1) ∙ answered_one (record_of u m.0) v m.1.1;
      })

  -- an answer is for a day that Epoch answers for
  pub day_found : epoch_says year day ≡ answered (epoch_offset year day)
  unfolding field_with components_says
  day_found =
      let c = after_answered (components_says a year day) _ v h in
      let p = told_answered (of_place a) _ c.0 c.1.0 in
      let q = after_answered (epoch_says year day) (dated_says a) c.0 p.1 in
      q.1.0 ∙ ap answered (sym (epoch_is year day q.0 q.1.0))

-- ---- the figures stand last
-- two papers of figures that agree wherever a record is shown with them give one answer
module _ (a : Asked) (year day : ℤ) (p q : Paper WmmErrorModel) where
  agreed : (c : Paper Xyz) → ((v : Xyz) → c ≡ answered v → p ≡ q) → record_says c p ≡ record_says c q
  agreed (answered v) f = ap (record_says (answered v)) (f v refl)
  agreed (refused n x z) f = refl

  -- with any figures at hand the components tell what they were found by
  figures_last : ((m : WmmErrorModel) (v : GeomagneticField) → Found (answered m) a (epoch_offset year day) v → p ≡ q) → field_with p a year day ≡ field_with q a year day
  unfolding field_with
  figures_last f = agreed (components_says a year day) (λ v h. f errors2025 (record_of v errors2025) (found (answered errors2025) a year day (record_of v errors2025) (ap (λ (c : Paper Xyz). record_says c (answered errors2025)) h)))

-- where figures are used refusal 8 has passed, so those of the set's year are those of the day's epoch
pub by_8 : (f : ℤ → Paper WmmErrorModel) (a : Asked) (year day : ℤ) → field_with (f a.set_epoch) a year day ≡ field_with (f (epoch_year_of year)) a year day
by_8 f a year day = figures_last a year day (f a.set_epoch) (f (epoch_year_of year)) (λ m v g. ap f (same_year_lem a.set_epoch (epoch_year_of year) g.same))

-- the call without a list is the call with the built-in list: where figures are used the year is known, so neither 5 nor 15 is
pub built_in_field : (a : Asked) (year day : ℤ) → field_says a year day ≡ listed_field built_in a year day
unfolding field_says listed_field
built_in_field a year day = figures_last a year day (error_says (epoch_year_of year)) (listed_errors built_in (epoch_year_of year)) (λ m v g. known_errors (epoch_year_of year) g.accepted.known)

-- ---- the contract's other clause, and that there is one answer
-- demand 3: an answer lies close to the exact field, whatever the figures
pub answer_close : (figures : Paper WmmErrorModel) (a : Asked) (year day : ℤ) (r : Result GeomagneticField Refusal) → said r ≡ field_with figures a year day → (v : GeomagneticField) → r ≡ Ok v → FieldClose a (epoch_offset year day) v
answer_close figures a year day r h v e =
    let f = found figures a year day v (sym h ∙ ap said e) in
    subst (λ (u : GeomagneticField). FieldClose a (epoch_offset year day) u) f.is (close a (epoch_offset year day) f.accepted f.lists f.error)

-- so for the call without a list
pub field_close : (a : Asked) (year day : ℤ) (r : Result GeomagneticField Refusal) → said r ≡ field_says a year day → (v : GeomagneticField) → r ≡ Ok v → FieldClose a (epoch_offset year day) v
unfolding field_says
field_close a year day = answer_close (error_says (epoch_year_of year)) a year day

-- the same, of the result
pub close_if : (figures : Paper WmmErrorModel) (a : Asked) (year day : ℤ) (r : Result GeomagneticField Refusal) → said r ≡ field_with figures a year day → IfOk r (λ v. FieldClose a (epoch_offset year day) v)
close_if figures a year day (Ok v) h = answer_close figures a year day (Ok v) h v refl
close_if figures a year day (Err k) h = tt

-- Field by its components, with the figures of the set's year
pub field_by : (f : ℤ → Paper WmmErrorModel) (a : Asked) (year day : ℤ) → field_with (f (epoch_year_of year)) a year day ≡ after (components_says a year day) (λ v. record_says (answered v) (f a.set_epoch))
unfolding field_with
field_by f a year day = sym (by_8 f a year day)

-- any two answers that a contract allows are equal
pub field_answer_one : (p : Paper GeomagneticField) (r s : Result GeomagneticField Refusal) → said r ≡ p → said s ≡ p → r ≡ s
field_answer_one p r s e f = said_one r s (e ∙ sym f)
