-- Field hands Sum only what Sum accepts, and its X, Y and Z keep the distance of demand 3, for every accepted input.
use Rattle.refusals.specs.Paper.{accepted, answered, told}
use mathlib.Core.Path.{◌≡◌}
use mathlib.Core.Bool.{true, not}
use lib.Dec.{T, lit≤}
use lib.IntN.{ℤ}
use lib.Ieee.{Float}
use lib.Ieee.Positive.{positive}
use Rattle.refusals.proofs.Laws.{check_accepted}
use Rattle.refusals.specs.declared.Refusal.TheVariants.{Latitude, Longitude}
use Rattle.models.specs.declared.epochs.EpochOffset.{EpochOffset}
use Rattle.models.specs.declared.errors.WmmErrorModel.{WmmErrorModel}
use Rattle.models.specs.Epochs.{epoch_says}
use Rattle.models.proofs.Dated.{dated, known_day}
use Rattle.sums.proofs.Distance.{majored}
use Rattle.field.specs.Field.{FieldAccepted, Asked, FieldClose, field_x, field_y, field_z, handed, outside_height, place_verdict, record_of, strengths_of}
use Rattle.exact.specs.Exact.{Exact}
use Rattle.exact.specs.Within.{Within}
use Rattle.exact.proofs.Ranks.{Leaf, Nr}
use Rattle.exact.proofs.Reach.{within}
use Rattle.lists.proofs.Checked.{Listed, holds}
use Rattle.synthesis.proofs.Answers.{numbers_pass}
use Rattle.exact.specs.Tests.{circle}
use Rattle.geocentric.specs.Geo.{height_ok, latitude_ok}
use Rattle.lists.specs.Lists.{lists_verdict}
use Rattle.synthesis.specs.Sum.{SumAccepted, ratio_ok, sum_says, value_of}
use Rattle.sums.specs.Paths.{small_sine}
use Rattle.sums.specs.Arithmetic.{Arithmetic, rounded, sizes, unrounded}
use Rattle.sums.proofs.Keeps.{Keeps, rounded_keeps}
use Rattle.sums.proofs.Terms.{ang_s, leg_s, pow_s}
use Rattle.sums.proofs.Near.{acc_a, east_a}
use Rattle.synthesis.proofs.Demand.{sum_x_related, sum_y_near, sum_y_related, sum_z_related}
use Rattle.sums.proofs.Related.{Related}
use Rattle.sums.proofs.Images.{Hom, hom_related, size_hom}
use Rattle.geocentric.proofs.Laws.{never_10, never_9, sine_positive, latitude_leaf}
use Rattle.field.proofs.Offset.{never_11}
use Rattle.field.proofs.TurnNear.{turned_x_near, turned_z_near, turned_a}
use Rattle.field.proofs.TurnRelated.{turn_x_related, turn_z_related}

-- ---- a relation between two arithmetics that every operation keeps holds between X, Y and Z
module _ {A B : Type 0} {o : Arithmetic A} {o' : Arithmetic B} {R : A → B → Type 0} (k : Related o o' R) (a : Asked) (e : EpochOffset) where
  pub field_x_related : R (field_x o a e) (field_x o' a e)
  unfolding field_x
  field_x_related = let s = handed a e in turn_x_related o o' R k s.cos_theta s.sin_theta a.cos_phi a.sin_phi (sum_x_related k s) (sum_z_related k s)

  pub field_y_related : R (field_y o a e) (field_y o' a e)
  unfolding field_y
  field_y_related = sum_y_related k (handed a e)

  pub field_z_related : R (field_z o a e) (field_z o' a e)
  unfolding field_z
  field_z_related = let s = handed a e in turn_z_related o o' R k s.cos_theta s.sin_theta a.cos_phi a.sin_phi (sum_x_related k s) (sum_z_related k s)

-- so a map that respects the operations carries them over
module _ {A B : Type 0} {o : Arithmetic A} {o' : Arithmetic B} {φ : A → B} (k : Hom o o' φ) (a : Asked) (e : EpochOffset) where
  pub field_x_image : φ (field_x o a e) ≡ field_x o' a e
  field_x_image = field_x_related (hom_related k) a e

  pub field_y_image : φ (field_y o a e) ≡ field_y o' a e
  field_y_image = field_y_related (hom_related k) a e

  pub field_z_image : φ (field_z o a e) ≡ field_z o' a e
  field_z_image = field_z_related (hom_related k) a e

module _ (a : Asked) (e : EpochOffset) (w : FieldAccepted a e) where
  -- never 9: the computed pair passes the circle test; never 10: the ratio lies in its range
  pub field_never_9 : T (circle (handed a e).sin_theta (handed a e).cos_theta)
  unfolding handed
  field_never_9 = never_9 a.height a.sin_phi a.cos_phi w.height w.latitude

  pub field_never_10 : T (ratio_ok (handed a e).ratio)
  unfolding handed ratio_ok
  field_never_10 = never_10 a.height a.sin_phi a.cos_phi w.height w.latitude

  -- so Sum says of Field's numbers what its lists say
  pub sum_says_lem : sum_says (handed a e) ≡ told (lists_verdict a.g a.h a.g_dot a.h_dot) (answered (value_of (handed a e)))
  unfolding handed
  sum_says_lem = numbers_pass (handed a e) field_never_9 w.longitude field_never_10 w.offset

  -- where Y' is divided by the sine, the sine is above zero
  pub divided_by_positive : T (not (small_sine (handed a e).sin_theta)) → T (positive (handed a e).sin_theta)
  unfolding handed small_sine
  divided_by_positive t = sine_positive a.height a.sin_phi a.cos_phi w.height w.latitude t

  module _ (l : Listed a.g a.h a.g_dot a.h_dot) where
    pub sum_accepted : SumAccepted (handed a e)
    unfolding handed
    sum_accepted =
        record {
          colatitude = field_never_9;
          longitude = w.longitude;
          ratio = field_never_10;
          offset = w.offset;
          g = l.g_capped;
          h = l.h_capped;
          g_dot = l.gd_capped;
          h_dot = l.hd_capped;
        }

    lat_s : Leaf 2 a.sin_phi
    lat_s = (latitude_leaf a.sin_phi a.cos_phi w.latitude).0

    lat_c : Leaf 2 a.cos_phi
    lat_c = (latitude_leaf a.sin_phi a.cos_phi w.latitude).1

    -- X, Y and Z on floats lie near the exact ones, for any two arithmetics of which one keeps near the other
    module _ {o : Arithmetic Float} {o' : Arithmetic Exact} (kept : Keeps o o') where
      pub field_x_near : Nr turned_a (field_x o a e) (field_x o' a e)
      unfolding field_x
      field_x_near = turned_x_near kept (handed a e) sum_accepted a.cos_phi a.sin_phi lat_c lat_s

      pub field_y_near : Nr east_a (field_y o a e) (field_y o' a e)
      unfolding field_y
      field_y_near = sum_y_near (handed a e) sum_accepted kept

      pub field_z_near : Nr turned_a (field_z o a e) (field_z o' a e)
      unfolding field_z
      field_z_near = turned_z_near kept (handed a e) sum_accepted a.cos_phi a.sin_phi lat_c lat_s

    -- demand 3 for each of X, Y and Z
    pub close_x : Within (field_x rounded a e) (field_x unrounded a e) (field_x sizes a e)
    unfolding acc_a leg_s ang_s pow_s
    close_x = majored (field_x_image size_hom a e) (within (field_x_near rounded_keeps) (lit≤ tt) (lit≤ tt))

    pub close_y : Within (field_y rounded a e) (field_y unrounded a e) (field_y sizes a e)
    unfolding acc_a leg_s ang_s pow_s
    close_y = majored (field_y_image size_hom a e) (within (field_y_near rounded_keeps) (lit≤ tt) (lit≤ tt))

    pub close_z : Within (field_z rounded a e) (field_z unrounded a e) (field_z sizes a e)
    unfolding acc_a leg_s ang_s pow_s
    close_z = majored (field_z_image size_hom a e) (within (field_z_near rounded_keeps) (lit≤ tt) (lit≤ tt))

    -- so for the record, whatever its error figures
    pub close : (m : WmmErrorModel) → FieldClose a e (record_of (strengths_of a e) m)
    close m = record { x = close_x; y = close_y; z = close_z }

-- ---- what an answer says of what is asked
module _ (a : Asked) (year day : ℤ) where
  pub accepted_by : height_ok a.height ≡ true → latitude_ok a.sin_phi a.cos_phi ≡ true → circle a.sin_lambda a.cos_lambda ≡ true
      → (e : EpochOffset) → epoch_says year day ≡ answered e → FieldAccepted a e
  accepted_by h l c e d =
      let t = dated year day e d in
      record { height = holds h; latitude = holds l; longitude = holds c; offset = never_11 t; known = known_day year day e d }

  -- a place that passed, and a day that Epoch answered for
  pub accepted_at : place_verdict a.height a.sin_phi a.cos_phi a.sin_lambda a.cos_lambda ≡ accepted → (e : EpochOffset) → epoch_says year day ≡ answered e → FieldAccepted a e
  unfolding place_verdict
  accepted_at f e d =
      let p1 = check_accepted (height_ok a.height) outside_height _ f in
      let p2 = check_accepted (latitude_ok a.sin_phi a.cos_phi) Latitude _ p1.1 in
      let p3 = check_accepted (circle a.sin_lambda a.cos_lambda) Longitude _ p2.1 in
      accepted_by p1.0 p2.0 p3.0 e d
