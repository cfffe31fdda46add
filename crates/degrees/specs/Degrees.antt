-- Field with the place in degrees: refusal 16 of the latitude, 16 of the longitude, then Field (document 02, Wish 4). Definitions only.
use Rattle.refusals.specs.declared.Refusal.{Refusal}
use Rattle.std.specs.Prelude.{Ok, Result, ◌≡◌, List, ℤ, Float}
use Rattle.refusals.specs.Paper.{Paper, answered, after}
use Rattle.models.specs.declared.epochs.EpochOffset.{EpochOffset}
use Rattle.strengths.specs.declared.GeomagneticField.{GeomagneticField}
use Rattle.trig.specs.declared.Pair.{Pair}
use Rattle.trig.specs.Fixed.{sine_says}
use Rattle.lists.specs.declared.CoefficientSet.{CoefficientSet}
use Rattle.field.specs.Field.{Asked, asked, field_says, FieldClose}

-- what is asked, beside the day: height in metres, latitude and longitude in degrees, and the lent set
pub record Place : Type 0 where
  pub height : Float
  pub latitude : Float
  pub longitude : Float
  pub set_epoch : ℤ
  pub g : List Float
  pub h : List Float
  pub g_dot : List Float
  pub h_dot : List Float

abbrev pub place : Float → Float → Float → ℤ → List Float → List Float → List Float → List Float → Place
place height latitude longitude year g h gd hd = record { height = height; latitude = latitude; longitude = longitude; set_epoch = year; g = g; h = h; g_dot = gd; h_dot = hd }

-- the same of a lent set
abbrev pub place_of : Float → Float → Float → CoefficientSet → Place
place_of height latitude longitude s = place height latitude longitude s.epoch_year s.lists.g.now s.lists.h.now s.lists.g_dot.now s.lists.h_dot.now

-- what Field is asked, with the pair of the latitude and the pair of the longitude
abbrev pub paired : Place → Pair → Pair → Asked
paired a p q = asked a.height p.sine p.cosine q.sine q.cosine a.set_epoch a.g a.h a.g_dot a.h_dot

-- the pair of the latitude, or its refusal; then the pair of the longitude, or its refusal; then what Field says of the two
unfoldable pub degrees_says : Place → (year day : ℤ) → Paper GeomagneticField
degrees_says a year day = after (sine_says a.latitude) (λ p. after (sine_says a.longitude) (λ q. field_says (paired a p q) year day))

-- demand 3: a shown field is within Field's own distance of the exact field of the two pairs that were made
abbrev pub DegreesClose : Place → EpochOffset → Result GeomagneticField Refusal → Type 0
DegreesClose a e r = (v : GeomagneticField) → r ≡ Ok v → (p q : Pair) → sine_says a.latitude ≡ answered p → sine_says a.longitude ≡ answered q → FieldClose (paired a p q) e v
