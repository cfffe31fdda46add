-- Sum without 7 refuses nothing of lists that are checked, at an accepted place.
use mathlib.Core.Path.{◌≡◌, refl, ap}
use lib.Dec.{T}
use lib.Ieee.Bits.{is_true}
use Rattle.exact.specs.Tests.{circle}
use Rattle.refusals.specs.Paper.{Paper, after, answered}
use Rattle.lists.specs.declared.Lists.{Lists}
use Rattle.lists.specs.Lists.{Long}
use Rattle.lists.proofs.Checked.{long_pass}
use Rattle.models.specs.declared.epochs.EpochOffset.{EpochOffset}
use Rattle.geocentric.specs.Geo.{geocentric_of, height_ok, latitude_ok, ratio_of}
use Rattle.geocentric.proofs.Laws.{never_10, never_9}
use Rattle.synthesis.specs.declared.Xyz.{Xyz}
use Rattle.synthesis.specs.Sum.{numbers_verdict, offset_ok, ratio_ok, uncapped_says, value_of}
use Rattle.field.specs.declared.place.Place.{Place}
use Rattle.field.specs.Turn.{turned}
use Rattle.field.specs.Field.{Asked, field_x, field_y, field_z, handed, strengths_of}
use Rattle.field.specs.Dated.{xyz_by}

module _ (a : Asked) (e : EpochOffset) (H : T (height_ok a.height)) (L : T (latitude_ok a.sin_phi a.cos_phi)) (C : T (circle a.sin_lambda a.cos_lambda)) (O : T (offset_ok e.offset))
    (l : Long a.g a.h a.g_dot a.h_dot) where
  nine : T (circle (handed a e).sin_theta (handed a e).cos_theta)
  unfolding handed
  nine = never_9 a.height a.sin_phi a.cos_phi H L

  ten : T (ratio_ok (handed a e).ratio)
  unfolding handed ratio_ok
  ten = never_10 a.height a.sin_phi a.cos_phi H L

  pub uncapped : uncapped_says (handed a e) ≡ answered (value_of (handed a e))
  unfolding uncapped_says numbers_verdict handed
  uncapped =
      rw (is_true (circle (handed a e).sin_theta (handed a e).cos_theta) nine, is_true (circle a.sin_lambda a.cos_lambda) C, is_true (ratio_ok (handed a e).ratio) ten, is_true (offset_ok e.offset) O, long_pass a.g a.h a.g_dot a.h_dot l) refl

-- what is asked of lists at a place, with any year of the set
abbrev pub dated : Place → EpochOffset → Lists → Asked
dated p e l =
    record { height = p.height; sin_phi = p.latitude.sin; cos_phi = p.latitude.cos; sin_lambda = p.longitude.sin; cos_lambda = p.longitude.cos; set_epoch = e.epoch_year; g = l.g.now; h = l.h.now; g_dot = l.g_dot.now; h_dot = l.h_dot.now }

-- so X, Y and Z are answered
pub xyz_answered : (p : Place) (e : EpochOffset) (l : Lists) → T (height_ok p.height) → T (latitude_ok p.latitude.sin p.latitude.cos) → T (circle p.longitude.sin p.longitude.cos) → T (offset_ok e.offset)
    → Long l.g.now l.h.now l.g_dot.now l.h_dot.now → xyz_by uncapped_says p e.offset l ≡ answered (strengths_of (dated p e l) e)
unfolding value_of turned field_x field_y field_z handed geocentric_of ratio_of
xyz_answered p e l H L C O g =
    let turn : Xyz → Paper Xyz = λ v. answered (turned v (geocentric_of p.height p.latitude.sin p.latitude.cos) p.latitude.sin p.latitude.cos) in
    ap (λ (q : Paper Xyz). after q turn) (uncapped (dated p e l) e H L C O g)
