-- The ways to an answer of the profile.
use Rattle.refusals.specs.Paper.{Verdict, accepted, Paper, answered, paper}
use Rattle.std.specs.Prelude.{Err}
use mathlib.Core.Path.{◌≡◌, refl, sym, ap, ◌∙◌}
use mathlib.Core.Bool.{Bool, true, false, cond}
use lib.Dec.{T}
use lib.Ieee.{Float}
use Rattle.exact.specs.Tests.{circle}
use Rattle.refusals.specs.declared.Refusal.{Refusal}
use Rattle.refusals.proofs.Laws.{answered_one, no_answer}
use Rattle.lists.specs.Lists.{Long}
use Rattle.models.specs.declared.epochs.EpochOffset.{EpochOffset}
use Rattle.geocentric.specs.declared.Geocentric.{Geocentric}
use Rattle.geocentric.specs.Geo.{geocentric_of, height_ok, latitude_ok, ratio_of, ratio_to}
use Rattle.synthesis.specs.declared.Xyz.{Xyz}
use Rattle.synthesis.specs.Sum.{Lent, lent, offset_ok, uncapped_says, value_of}
use Rattle.lists.specs.Profile.{forecast_verdict, pair_verdict}
use Rattle.lists.proofs.OfProfile.{forecast_listed, pair_listed}
use Rattle.igrf.specs.Igrf.{Profile, chosen, day_shows_by, fifths, found_by, lists_found, mixed, years_found}
use Rattle.field.specs.Turn.{turned}
use Rattle.field.proofs.Uncapped.{uncapped}
use Rattle.field.specs.Field.{Asked, asked, field_x, field_y, field_z, handed, strengths_of}

-- ---- the sums of checked lists at an accepted place
module _ (a : Asked) (e : EpochOffset) (H : T (height_ok a.height)) (L : T (latitude_ok a.sin_phi a.cos_phi)) (C : T (circle a.sin_lambda a.cos_lambda)) (O : T (offset_ok e.offset))
    (l : Long a.g a.h a.g_dot a.h_dot) where
  module _ (p : Geocentric) (ep : p ≡ geocentric_of a.height a.sin_phi a.cos_phi) (q : Float) (eq : q ≡ ratio_to p.r) (t : Float) (et : t ≡ e.offset) where
    abbrev asks : Lent
    asks = lent p.cos_theta p.sin_theta a.sin_lambda a.cos_lambda q t a.g a.h a.g_dot a.h_dot

    handed_is : asks ≡ handed a e
    unfolding handed geocentric_of ratio_of
    handed_is = rw (et, eq, ep)

    pub not_refused : {A : Type 0} (k : Refusal) → paper k ≡ uncapped_says asks → A
    not_refused k h = absurd (no_answer k (value_of (handed a e)) (h ∙ ap uncapped_says handed_is ∙ uncapped a e H L C O l))

    pub summed : (v : Xyz) → answered v ≡ uncapped_says asks → (u : Xyz) → u ≡ turned v p a.sin_phi a.cos_phi → answered u ≡ answered (strengths_of a e)
    unfolding value_of turned field_x field_y field_z handed geocentric_of
    summed v h u eu =
        let ev : v ≡ value_of (handed a e) = answered_one v (value_of (handed a e)) (h ∙ ap uncapped_says handed_is ∙ uncapped a e H L C O l) in
        ap answered (eu ∙ rw (ev, ep))

-- ---- from the day on
-- what the code asks of the lists
abbrev pub read_found : Profile → Bool → Verdict
read_found a soon = cond soon (pair_verdict a.one.g a.one.h a.second_g a.second_h) (forecast_verdict a.one.g a.one.h a.one.g_dot a.one.h_dot)

lists_read : (a : Profile) (soon : Bool) → read_found a soon ≡ lists_found a soon
lists_read a true = refl
lists_read a false = refl

abbrev pub of_years : Profile → Bool → EpochOffset → Verdict
of_years a soon e = years_found soon e.epoch_year a.one.set_epoch a.second_epoch

module _ (r : Bool) (a : Profile) (soon : Bool) (e : EpochOffset) where
  pub read_refused : (k : Refusal) → read_found a soon ≡ Err k → paper k ≡ day_shows_by r a soon e
  read_refused k h = rw (sym (lists_read a soon) ∙ h)

  module _ (l : read_found a soon ≡ accepted) where
    pub years_refused : (k : Refusal) → of_years a soon e ≡ Err k → paper k ≡ day_shows_by r a soon e
    years_refused k h = rw (sym (lists_read a soon) ∙ l, h)

    pub day_shown : of_years a soon e ≡ accepted → (p : Paper Xyz) → p ≡ answered (found_by r (chosen a soon) e) → p ≡ day_shows_by r a soon e
    day_shown h p i = i ∙ rw (sym (lists_read a soon) ∙ l, h)

-- the lists that the sums read are of one degree
module _ (a : Profile) (soon : Bool) (l : read_found a soon ≡ accepted) where
  pub pair_long : soon ≡ true → Long a.one.g a.one.h a.second_g a.second_h
  pair_long s = (pair_listed _ _ _ _ (rw s at l)).long

  pub set_long : soon ≡ false → Long a.one.g a.one.h a.one.g_dot a.one.h_dot
  set_long s = (forecast_listed _ _ _ _ (rw s at l)).long

-- what is chosen by the two ways
module _ (a : Profile) (soon : Bool) where
  pub by_two : soon ≡ true → asked a.one.height a.one.sin_phi a.one.cos_phi a.one.sin_lambda a.one.cos_lambda a.one.set_epoch a.one.g a.one.h (fifths a.one.g a.second_g) (fifths a.one.h a.second_h) ≡ chosen a soon
  unfolding chosen mixed
  by_two s = rw s refl

  pub by_one : soon ≡ false → a.one ≡ chosen a soon
  unfolding chosen
  by_one s = rw s refl
