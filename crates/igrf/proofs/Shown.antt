-- X, Y and Z, and their rates, of the lists that the day reads: what the sums without 7 say of them is what is said of the profile.
use mathlib.Core.Path.{◌≡◌, refl, sym, ap, subst, ◌∙◌}
use mathlib.Core.Bool.{Bool, true, false}
use mathlib.Core.List.{List}
use lib.Dec.{T}
use lib.IntN.{ℤ}
use lib.Ieee.{Float, binary32, of_bits}
use Rattle.exact.specs.Tests.{circle}
use Rattle.std.specs.Prelude.{Ok, Err, IfOk, Result}
use Rattle.refusals.specs.declared.Refusal.{Refusal}
use Rattle.refusals.specs.Paper.{Paper, after, answered, said}
use Rattle.geocentric.specs.Geo.{height_ok, latitude_ok}
use Rattle.lists.specs.declared.Lists.{Lists}
use Rattle.lists.specs.declared.CoefficientSet.{CoefficientSet}
use Rattle.lists.specs.declared.profile.SecondSet.{SecondSet}
use Rattle.lists.specs.Lists.{Long}
use Rattle.lists.proofs.OfProfile.{forecast_listed, pair_listed}
use Rattle.models.specs.declared.epochs.EpochOffset.{EpochOffset}
use Rattle.models.specs.Epochs.{epoch_offset}
use Rattle.synthesis.specs.declared.Xyz.{Xyz}
use Rattle.synthesis.specs.Sum.{offset_ok, uncapped_says}
use Rattle.field.specs.declared.place.Place.{Place}
use Rattle.field.specs.Field.{Asked, asked, strengths_of}
use Rattle.field.specs.Dated.{xyz_by}
use Rattle.field.specs.Rated.{no_time, rated}
use Rattle.field.proofs.Uncapped.{dated, xyz_answered}
use Rattle.field.proofs.Rated.{no_time_ok, rates_long}
use Rattle.igrf.specs.Igrf.{IgrfClose, Profile, RateClose, accepted_says, chosen, early, fifths, found_by, igrf_by, igrf_says, mixed, profile_of, rate_says}
use Rattle.igrf.proofs.Laws.{Met, accepted_met, answer_close, answer_rates_close, by_accepted}
use Rattle.igrf.proofs.Lists.{made_long}

-- lists at a place and a date, as they are asked
of_asked : (p : Place) (e : EpochOffset) (l : Lists) (q : Asked) → dated p e l ≡ q → T (height_ok p.height) × T (latitude_ok p.latitude.sin p.latitude.cos) × T (circle p.longitude.sin p.longitude.cos) → T (offset_ok e.offset)
    → Long q.g q.h q.g_dot q.h_dot → xyz_by uncapped_says p e.offset l ≡ answered (strengths_of q e)
of_asked p e l q i n o g = subst (λ (r : Asked). Long r.g r.h r.g_dot r.h_dot → xyz_by uncapped_says p e.offset l ≡ answered (strengths_of r e)) i (xyz_answered p e l n.0 n.1 n.2 o) g

-- what is asked, from its parts
from_parts : (p : Place) (e : EpochOffset) (l : Lists) (y : ℤ) (g h c d : List Float) → e.epoch_year ≡ y → l.g.now ≡ g → l.h.now ≡ h → l.g_dot.now ≡ c → l.h_dot.now ≡ d
    → dated p e l ≡ asked p.height p.latitude.sin p.latitude.cos p.longitude.sin p.longitude.cos y g h c d
from_parts p e l y g h c d z i j k m = λ t. asked p.height p.latitude.sin p.latitude.cos p.longitude.sin p.longitude.cos (z t) (i t) (j t) (k t) (m t)

module _ (p : Place) (first : CoefficientSet) (second : SecondSet) (e : EpochOffset) where
  abbrev asks : Profile
  asks = profile_of p first second

  abbrev gs : List Float
  gs = fifths first.lists.g.now second.g.now

  abbrev hs : List Float
  hs = fifths first.lists.h.now second.h.now

  -- before 2025: the first set's coefficients, with the yearly fifths of the gap as rates
  module _ (m : Met asks true e) (l : Lists) where
    pub early_xyz : l.g.now ≡ first.lists.g.now → l.h.now ≡ first.lists.h.now → l.g_dot.now ≡ gs → l.h_dot.now ≡ hs → xyz_by uncapped_says p e.offset l ≡ answered (found_by false (chosen asks true) e)
    unfolding chosen mixed
    early_xyz g h c d = of_asked p e l (mixed asks) (from_parts p e l _ _ _ _ _ (sym m.same) g h c d) m.place m.offset (made_long _ _ (pair_listed _ _ _ _ m.lists).long)

    pub early_rates : l.g.now ≡ gs → l.h.now ≡ hs → l.g_dot.now ≡ gs → l.h_dot.now ≡ hs → xyz_by uncapped_says p (of_bits binary32 0) l ≡ answered (found_by true (chosen asks true) e)
    unfolding chosen mixed rated no_time
    early_rates g h c d =
        of_asked p (no_time (mixed asks)) l (rated (mixed asks)) (from_parts p (no_time (mixed asks)) l _ _ _ _ _ refl g h c d) m.place no_time_ok (rates_long (made_long _ _ (pair_listed _ _ _ _ m.lists).long))

  -- from then on the first set's own lists
  module _ (m : Met asks false e) where
    pub late_xyz : xyz_by uncapped_says p e.offset first.lists ≡ answered (found_by false (chosen asks false) e)
    unfolding chosen
    late_xyz = of_asked p e first.lists asks.one (from_parts p e first.lists _ _ _ _ _ (sym m.same) refl refl refl refl) m.place m.offset (forecast_listed _ _ _ _ m.lists).long

    pub late_rates : (l : Lists) → l.g.now ≡ first.lists.g_dot.now → l.h.now ≡ first.lists.h_dot.now → l.g_dot.now ≡ first.lists.g_dot.now → l.h_dot.now ≡ first.lists.h_dot.now
        → xyz_by uncapped_says p (of_bits binary32 0) l ≡ answered (found_by true (chosen asks false) e)
    unfolding chosen rated no_time
    late_rates l g h c d = of_asked p (no_time asks.one) l (rated asks.one) (from_parts p (no_time asks.one) l _ _ _ _ _ refl g h c d) m.place no_time_ok (rates_long (forecast_listed _ _ _ _ m.lists).long)

-- ---- what is said of the profile, where nothing is refused
module _ (p : Place) (first : CoefficientSet) (second : SecondSet) (year day : ℤ) (e : EpochOffset) (a : accepted_says (profile_of p first second) year day ≡ answered e) where
  abbrev of_profile : Profile
  of_profile = profile_of p first second

  said_by : (r : Bool) → igrf_by r of_profile year day ≡ answered (found_by r (chosen of_profile (early year)) e)
  said_by r = by_accepted r of_profile year day ∙ ap (λ (q : Paper EpochOffset). after q (λ o. answered (found_by r (chosen of_profile (early year)) o))) a

  met : (b : Bool) → early year ≡ b → Met of_profile b e
  met b s = subst (λ (c : Bool). Met of_profile c e) s (accepted_met of_profile year day e a)

  chosen_by : (r b : Bool) → early year ≡ b → answered (found_by r (chosen of_profile b) e) ≡ igrf_by r of_profile year day
  chosen_by r b s = ap (λ (c : Bool). answered (found_by r (chosen of_profile c) e)) (sym s) ∙ sym (said_by r)

  -- before 2025 the lists of both sets are of one degree
  pub both_long : early year ≡ true → Long first.lists.g.now first.lists.h.now second.g.now second.h.now
  both_long s = (pair_listed _ _ _ _ (met true s).lists).long

  -- X, Y and Z, and their rates, before 2025
  module _ (s : early year ≡ true) (l : Lists) (c : l.g_dot.now ≡ fifths first.lists.g.now second.g.now) (d : l.h_dot.now ≡ fifths first.lists.h.now second.h.now) where
    pub igrf_early : l.g.now ≡ first.lists.g.now → l.h.now ≡ first.lists.h.now → xyz_by uncapped_says p e.offset l ≡ igrf_says of_profile year day
    igrf_early g h = early_xyz p first second e (met true s) l g h c d ∙ chosen_by false true s

    pub rates_early : l.g.now ≡ fifths first.lists.g.now second.g.now → l.h.now ≡ fifths first.lists.h.now second.h.now → xyz_by uncapped_says p (of_bits binary32 0) l ≡ rate_says of_profile year day
    rates_early g h = early_rates p first second e (met true s) l g h c d ∙ chosen_by true true s

  -- and from then on
  module _ (s : early year ≡ false) where
    pub igrf_late : xyz_by uncapped_says p e.offset first.lists ≡ igrf_says of_profile year day
    igrf_late = late_xyz p first second e (met false s) ∙ chosen_by false false s

    pub rates_late : (l : Lists) → l.g.now ≡ first.lists.g_dot.now → l.h.now ≡ first.lists.h_dot.now → l.g_dot.now ≡ first.lists.g_dot.now → l.h_dot.now ≡ first.lists.h_dot.now
        → xyz_by uncapped_says p (of_bits binary32 0) l ≡ rate_says of_profile year day
    rates_late l g h c d = late_rates p first second e (met false s) l g h c d ∙ chosen_by true false s

-- ---- demand 3, of the results
module _ (a : Profile) (year day : ℤ) where
  pub close_if : (r : Result Xyz Refusal) → said r ≡ igrf_says a year day → IfOk r (λ v. IgrfClose a (early year) (epoch_offset year day) v)
  close_if (Ok v) h = answer_close a year day (Ok v) h v refl
  close_if (Err k) h = tt

  pub rates_close_if : (r : Result Xyz Refusal) → said r ≡ rate_says a year day → IfOk r (λ v. RateClose a (early year) v.x v.y v.z)
  rates_close_if (Ok v) h = answer_rates_close a year day (Ok v) h v refl
  rates_close_if (Err k) h = tt
