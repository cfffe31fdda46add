-- The entry Field (document 01, "What is carried over"): what it is asked, its refusals in their order, its answer, and the exact field that it is near.
-- Definitions only.
use Rattle.std.specs.Prelude.{◌≡◌, List, true, T, ℤ, Float}
use Rattle.std.specs.Float.{binary32}
use Rattle.std.specs.Float.Ieee.{of_bits, neg}
use Rattle.exact.specs.Tests.{circle}
use Rattle.exact.specs.Within.{Within}
use Rattle.refusals.specs.Paper.{Paper, Verdict, accepted, answered, paper, unless, after, told, check}
use Rattle.refusals.specs.declared.Refusal.{Refusal}
use Rattle.refusals.specs.declared.Refusal.TheVariants.{Height, Latitude, Longitude, OtherEpoch}
use Rattle.models.specs.declared.epochs.EpochOffset.{EpochOffset}
use Rattle.models.specs.declared.errors.WmmErrorModel.{WmmErrorModel}
use Rattle.models.specs.declared.records.ErrorRecord.{ErrorRecord}
use Rattle.models.specs.Epochs.{wrong_epoch, known_epoch, epoch_year_of, same_year, epoch_says}
use Rattle.models.specs.Records.{listed_errors}
use Rattle.models.specs.Errors.{error_says}
use Rattle.geocentric.specs.Geo.{cos_of, sin_of, ratio_of, height_ok, latitude_ok}
use Rattle.sums.specs.Arithmetic.{Arithmetic, rounded, sizes, unrounded}
use Rattle.lists.specs.declared.CoefficientSet.{CoefficientSet}
use Rattle.lists.specs.Lists.{lists_verdict}
use Rattle.synthesis.specs.Sum.{Lent, offset_ok, sum_x, sum_y, sum_z}
use Rattle.synthesis.specs.declared.Xyz.{Xyz}
use Rattle.strengths.specs.declared.GeomagneticField.{GeomagneticField}
use Rattle.field.specs.declared.place.Place.{Place}
use Rattle.field.specs.Turn.{turn_x, turn_z}

-- what is asked, beside the day: height in metres, the pairs of latitude and longitude, and the lent set
pub record Asked : Type 0 where
  pub height : Float
  pub sin_phi : Float
  pub cos_phi : Float
  pub sin_lambda : Float
  pub cos_lambda : Float
  pub set_epoch : ℤ
  pub g : List Float
  pub h : List Float
  pub g_dot : List Float
  pub h_dot : List Float

-- what Field hands to Sum: the colatitude's pair and the ratio that it computed, and the day's offset
unfoldable pub handed : Asked → EpochOffset → Lent
handed a e =
    record {
      cos_theta = cos_of a.height a.sin_phi a.cos_phi;
      sin_theta = sin_of a.height a.sin_phi a.cos_phi;
      sin_lambda = a.sin_lambda;
      cos_lambda = a.cos_lambda;
      ratio = ratio_of a.height a.sin_phi a.cos_phi;
      offset = e.offset;
      g = a.g;
      h = a.h;
      g_dot = a.g_dot;
      h_dot = a.h_dot;
    }

-- X, Y and Z over any arithmetic
module _ {A : Type 0} (o : Arithmetic A) (a : Asked) (e : EpochOffset) where
  unfoldable pub field_x : A
  field_x = turn_x o (handed a e).cos_theta (handed a e).sin_theta a.cos_phi a.sin_phi (sum_x o (handed a e)) (sum_z o (handed a e))

  unfoldable pub field_y : A
  field_y = sum_y o (handed a e)

  unfoldable pub field_z : A
  field_z = turn_z o (handed a e).cos_theta (handed a e).sin_theta a.cos_phi a.sin_phi (sum_x o (handed a e)) (sum_z o (handed a e))

abbrev pub asked : Float → Float → Float → Float → Float → ℤ → List Float → List Float → List Float → List Float → Asked
asked height sp cp sl cl year g h gd hd = record { height = height; sin_phi = sp; cos_phi = cp; sin_lambda = sl; cos_lambda = cl; set_epoch = year; g = g; h = h; g_dot = gd; h_dot = hd }

-- the same of a place and a lent set
abbrev pub asked_of : Place → CoefficientSet → Asked
asked_of p s = asked p.height p.latitude.sin p.latitude.cos p.longitude.sin p.longitude.cos s.epoch_year s.lists.g.now s.lists.h.now s.lists.g_dot.now s.lists.h_dot.now

-- the three components, each operation rounded once
abbrev pub strengths_of : Asked → EpochOffset → Xyz
strengths_of a e = record { x = field_x rounded a e; y = field_y rounded a e; z = field_z rounded a e }

-- the record: three strengths, and error figures
abbrev pub record_of : Xyz → WmmErrorModel → GeomagneticField
record_of v m = record { x = v.x; y = v.y; z = v.z; error = m }

-- refusal 1, with the two limits of height in kilometres
abbrev pub outside_height : Refusal
outside_height = Height (neg (of_bits binary32 0x3f800000)) (of_bits binary32 0x44548000)

-- refusal 1, 2 or 3 of a place, the first that is due
unfoldable pub place_verdict : (height sin_phi cos_phi sin_lambda cos_lambda : Float) → Verdict
place_verdict height sin_phi cos_phi sin_lambda cos_lambda =
    check (height_ok height) outside_height
    (check (latitude_ok sin_phi cos_phi) Latitude
    (check (circle sin_lambda cos_lambda) Longitude accepted))

-- refusal 8, which carries both years
abbrev pub epoch_verdict : (of_day of_set : ℤ) → Verdict
epoch_verdict of_day of_set = check (same_year of_set of_day) (OtherEpoch of_day of_set) accepted

-- the same, or the three components
unfoldable pub shown_says : (set_epoch day-epoch : ℤ) → Xyz → Paper Xyz
shown_says set_epoch day-epoch v = unless (same_year set_epoch day-epoch) (paper (OtherEpoch day-epoch set_epoch)) (answered v)

-- from the set's year on, for a day of epoch and offset e: refusals 5, 6, 7, 8, then the components
unfoldable pub dated_says : Asked → EpochOffset → Paper Xyz
dated_says a e =
    unless (known_epoch a.set_epoch) wrong_epoch
    (told (lists_verdict a.g a.h a.g_dot a.h_dot) (shown_says a.set_epoch e.epoch_year (strengths_of a e)))

-- X, Y and Z, by document 01's order: 1, 2, 3, then 4 and 5 of the day as Epoch gives them, then 5 of the set, 6, 7, 8
unfoldable pub components_says : Asked → (year day : ℤ) → Paper Xyz
components_says a year day =
    told (place_verdict a.height a.sin_phi a.cos_phi a.sin_lambda a.cos_lambda) (after (epoch_says year day) (dated_says a))

-- what refuses the components, then what refuses the figures, then the record
abbrev pub record_says : Paper Xyz → Paper WmmErrorModel → Paper GeomagneticField
record_says components figures = after components (λ v. after figures (λ m. answered (record_of v m)))

-- Field with any figures: refusals 1 to 8, then those of the figures
unfoldable pub field_with : Paper WmmErrorModel → Asked → (year day : ℤ) → Paper GeomagneticField
field_with figures a year day = record_says (components_says a year day) figures

-- Field: the figures are the built-in ones of the day's epoch
unfoldable pub field_says : Asked → (year day : ℤ) → Paper GeomagneticField
field_says a year day = field_with (error_says (epoch_year_of year)) a year day

-- Field with a lent list: after 8 refusal 15 where it has no record of the day's epoch year, 12 where that has unusable figures
unfoldable pub listed_field : List ErrorRecord → Asked → (year day : ℤ) → Paper GeomagneticField
listed_field rs a year day = field_with (listed_errors rs (epoch_year_of year)) a year day

-- demand 3: each component within the promised distance of the exact field, with the sizes as its majorant
pub record FieldClose (a : Asked) (e : EpochOffset) (v : GeomagneticField) : Type 0 where
  pub x : Within v.x (field_x unrounded a e) (field_x sizes a e)
  pub y : Within v.y (field_y unrounded a e) (field_y sizes a e)
  pub z : Within v.z (field_z unrounded a e) (field_z sizes a e)

-- what Field has found where it calls Sum
pub record FieldAccepted (a : Asked) (e : EpochOffset) : Type 0 where
  pub height : T (height_ok a.height)
  pub latitude : T (latitude_ok a.sin_phi a.cos_phi)
  pub longitude : T (circle a.sin_lambda a.cos_lambda)
  pub offset : T (offset_ok e.offset)
  pub known : known_epoch e.epoch_year ≡ true
