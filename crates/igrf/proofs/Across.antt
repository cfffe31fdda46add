-- X, Y and Z alone: the laws of proofs/Answers.antt, Laws.antt and Close.antt, which are of X, Y and Z as of their rates, read for what is said of the first. Assumes nothing.
use Rattle.refusals.specs.Paper.{accepted, Paper, answered, paper}
use Rattle.std.specs.Prelude.{Err}
use Rattle.std.proofs.Common.{◌≡◌, refl, ap, ◌∙◌, List, Bool, true, false, ℤ, length, T, Float}
use Rattle.exact.specs.Tests.{circle}
use Rattle.exact.specs.Within.{Within}
use Rattle.refusals.specs.declared.Refusal.{Refusal}
use Rattle.lists.specs.Lists.{Long}
use Rattle.lists.proofs.OfProfile.{PairListed}
use Rattle.models.specs.declared.epochs.EpochOffset.{EpochOffset}
use Rattle.models.specs.Epochs.{igrf_day}
use Rattle.geocentric.specs.Geo.{height_ok, latitude_ok}
use Rattle.sums.specs.Arithmetic.{Arithmetic, rounded, sizes, unrounded}
use Rattle.synthesis.specs.declared.Xyz.{Xyz}
use Rattle.synthesis.specs.Sum.{offset_ok}
use Rattle.tables.specs.Degree.{degree_of}
use Rattle.sums.specs.Paths.{between}
use Rattle.field.specs.Field.{Asked, asked, field_x, field_y, field_z, handed, strengths_of}
use Rattle.field.specs.There.{there, there_x, there_y, there_z}
use Rattle.igrf.specs.Igrf.{IgrfClose, Profile, across, across_x, across_y, across_z, chosen, components_of, day_shows, day_shows_by, early, fifths, igrf_says, mixed}
use Rattle.igrf.proofs.Lists.{made_long}
use Rattle.igrf.proofs.Answers as general
use Rattle.igrf.proofs.Answers.{of_years, read_found}
use Rattle.igrf.proofs.Close.{early_close}
use Rattle.igrf.proofs.Laws as laws
use Rattle.igrf.proofs.Laws.{of_place}

-- the rates in an array of 104, of which as many as the lists have are lent
pub mixed_long : {g h c d : List Float} → Long g h c d → Long g h (fifths g c) (fifths h d)
mixed_long l = made_long _ _ l

-- ---- what is said from the day on
pub day_shows_is : (a : Profile) (soon : Bool) (e : EpochOffset) → day_shows_by false a soon e ≡ day_shows a soon e
unfolding chosen components_of
day_shows_is a soon e = refl

module _ (a : Profile) (soon : Bool) (e : EpochOffset) where
  pub read_refused : (k : Refusal) → read_found a soon ≡ Err k → paper k ≡ day_shows a soon e
  read_refused k h = general.read_refused false a soon e k h ∙ day_shows_is a soon e

  pub years_refused : read_found a soon ≡ accepted → (k : Refusal) → of_years a soon e ≡ Err k → paper k ≡ day_shows a soon e
  years_refused l k h = general.years_refused false a soon e l k h ∙ day_shows_is a soon e

  pub day_shown : read_found a soon ≡ accepted → of_years a soon e ≡ accepted → (p : Paper Xyz) → p ≡ answered (components_of a soon e) → p ≡ day_shows a soon e
  unfolding chosen components_of
  day_shown l h p i = general.day_shown false a soon e l h p i ∙ day_shows_is a soon e

  pub by_two : soon ≡ true
      → strengths_of (asked a.one.height a.one.sin_phi a.one.cos_phi a.one.sin_lambda a.one.cos_lambda a.one.set_epoch a.one.g a.one.h (fifths a.one.g a.second_g) (fifths a.one.h a.second_h)) e ≡ components_of a soon e
  unfolding chosen components_of
  by_two s = ap (λ (q : Asked). strengths_of q e) (general.by_two a soon s)

  pub by_one : soon ≡ false → strengths_of a.one e ≡ components_of a soon e
  unfolding chosen components_of
  by_one s = ap (λ (q : Asked). strengths_of q e) (general.by_one a soon s)

-- ---- what is said
module _ (a : Profile) (year day : ℤ) where
  pub place_refused : (k : Refusal) → of_place a ≡ Err k → paper k ≡ igrf_says a year day
  place_refused k e = laws.place_refused false a year day k e

  pub day_refused : of_place a ≡ accepted → (k : Refusal) → paper k ≡ igrf_day year day → paper k ≡ igrf_says a year day
  day_refused p k e = laws.day_refused false a year day p k e

  pub day_answered : of_place a ≡ accepted → (e : EpochOffset) → answered e ≡ igrf_day year day → (q : Paper Xyz) → q ≡ day_shows a (early year) e → q ≡ igrf_says a year day
  unfolding chosen components_of
  day_answered p e h q i = laws.day_answered false a year day p e h q i

-- ---- the exact field before 2025 is Field's of the coefficients between the two sets
module _ {A : Type 0} (o : Arithmetic A) (a : Profile) (e : EpochOffset) where
  pub across_x_is : across_x o a e ≡ there_x o a.one (degree_of (length a.one.g)) (between o a.one.g a.second_g e.offset) (between o a.one.h a.second_h e.offset)
  unfolding across_x across there_x there handed
  across_x_is = refl

  pub across_y_is : across_y o a e ≡ there_y o a.one (degree_of (length a.one.g)) (between o a.one.g a.second_g e.offset) (between o a.one.h a.second_h e.offset)
  unfolding across_y across there_y there handed
  across_y_is = refl

  pub across_z_is : across_z o a e ≡ there_z o a.one (degree_of (length a.one.g)) (between o a.one.g a.second_g e.offset) (between o a.one.h a.second_h e.offset)
  unfolding across_z across there_z there handed
  across_z_is = refl

-- ---- the promised distance
module _ (a : Profile) (e : EpochOffset) (H : T (height_ok a.one.height)) (L : T (latitude_ok a.one.sin_phi a.one.cos_phi)) (C : T (circle a.one.sin_lambda a.one.cos_lambda)) (O : T (offset_ok e.offset))
    (l : PairListed a.one.g a.one.h a.second_g a.second_h) where
  close : IgrfClose a true e (components_of a true e)
  unfolding components_of
  close = early_close a H L C l e O

  pub across_close_x : Within (field_x rounded (mixed a) e) (across_x unrounded a e) (across_x sizes a e)
  unfolding components_of mixed
  across_close_x = close.x

  pub across_close_z : Within (field_z rounded (mixed a) e) (across_z unrounded a e) (across_z sizes a e)
  unfolding components_of mixed
  across_close_z = close.z

  pub across_close_y : Within (field_y rounded (mixed a) e) (across_y unrounded a e) (across_y sizes a e)
  unfolding components_of mixed
  across_close_y = close.y
