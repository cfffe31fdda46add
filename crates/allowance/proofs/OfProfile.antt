-- The ways to an answer of the allowance in the IGRF profile, and what an answer covers. Assumes nothing.
use mathlib.Core.Path.{◌≡◌, refl, sym, ap, subst, ◌∙◌}
use mathlib.Core.Bool.{Bool, true, false, cond}
use mathlib.Core.List.{List}
use Prim.Native.Nat.{ℕ, ◌-◌}
use lib.IntN.{ℤ}
use lib.ListN.{length}
use lib.Ieee.{Float, binary32, add, div, mul, of_bits, round, sum}
use Rattle.exact.specs.Tests.{abs}
use Rattle.exact.proofs.Ranks.{Nr}
use Rattle.std.specs.Prelude.{Ok, Err, IfOk, Result}
use Rattle.refusals.specs.Paper.{Paper, accepted, after, answered, paper, said}
use Rattle.refusals.specs.declared.Refusal.{Refusal}
use Rattle.refusals.proofs.Laws.{answered_one, no_answer}
use Rattle.tables.specs.Degree.{degree_of, place}
use Rattle.tables.proofs.Degrees.{degree_high}
use Rattle.lists.specs.Lists.{Long}
use Rattle.lists.proofs.OfProfile.{forecast_listed, pair_listed}
use Rattle.models.specs.declared.epochs.EpochOffset.{EpochOffset}
use Rattle.models.specs.Epochs.{epoch_offset, igrf_day}
use Rattle.sums.specs.Arithmetic.{sizes, unrounded}
use Rattle.sums.specs.Paths.{at, between, dated, nought, placed}
use Rattle.sums.proofs.Terms.{coeff_a}
use Rattle.sums.proofs.Images.{hom_related}
use Rattle.sums.proofs.Between.{between_near, between_related}
use Rattle.synthesis.specs.declared.Xyz.{Xyz}
use Rattle.synthesis.specs.Sum.{inputs}
use Rattle.synthesis.proofs.Demand.{main_at, offset_leaf}
use Rattle.field.specs.Field.{Asked, asked, field_x, field_y, field_z, handed}
use Rattle.field.specs.There.{there, there_x, there_y, there_z}
use Rattle.field.proofs.Answers.{after_answered}
use Rattle.field.proofs.There.{there_x_near, there_x_related, there_y_near, there_y_related, there_z_near, there_z_related}
use Rattle.field.proofs.Reach.{Under, there_y_under}
use Rattle.field.proofs.Ceiling.{between_under, east_size, full, full_reach}
use Rattle.igrf.specs.Igrf.{Profile, across, across_x, across_y, across_z, early, igrf_x, igrf_y, igrf_z, igrf_says, lists_found}
use Rattle.igrf.proofs.Lists.{at_all}
use Rattle.igrf.proofs.Laws.{Met, behind, close, day_met, late_accepted, late_listed}
use Rattle.bounds.specs.Bounds.{absolutes, allowed, bounds}
use Rattle.bounds.proofs.Kept.{bounds_keep}
use Rattle.bounds.proofs.Plain.{fifth_of_sizes}
use Rattle.bounds.proofs.Wholly.{wholly_hom}
use Rattle.allowance.specs.declared.Allowances.{Allowances}
use Rattle.allowance.specs.Allowance.{allowances_of}
use Rattle.allowance.specs.Code.{span, spans}
use Rattle.allowance.specs.Profile.{IgrfCovered, igrf_allowances, igrf_allowance_says}
use Rattle.allowance.proofs.Laws.{covered, east_covers, turned_covers}
use Rattle.allowance.proofs.Distance.{Reaches, reaches}

-- ---- the lists of sizes are read as the majorant takes two sets
no_span : span nought nought ≡ nought
unfolding span of_bits add sum div round
no_span = refl

spanned : (from to : List Float) (t : Float) → length to ≡ length from → (n m : ℕ) → dated bounds from (spans from to) t n m ≡ between bounds from to t n m
unfolding bounds span of_bits
spanned from to t e n m = ap (λ (z : Float). add binary32 (abs (at from n m)) (mul binary32 (abs t) z)) (ap abs (at_all span no_span from to (place n m - 1) e) ∙ fifth_of_sizes (at to n m) (at from n m))

-- a set with other rates, of any year: the allowances don't read it
abbrev pub with_rates : Asked → ℤ → List Float → List Float → Asked
with_rates q year x y = asked q.height q.sin_phi q.cos_phi q.sin_lambda q.cos_lambda year q.g q.h x y

any_year : (q : Asked) (z : ℤ) (e : EpochOffset) → allowances_of (with_rates q z q.g_dot q.h_dot) e ≡ allowances_of q e
unfolding field_x field_y field_z handed
any_year q z e = refl

module _ (a : Profile) (e : EpochOffset) where
  abbrev g : List Float
  g = a.one.g

  abbrev h : List Float
  h = a.one.h

  abbrev c : List Float
  c = a.second_g

  abbrev d : List Float
  d = a.second_h

  abbrev top : ℕ
  top = degree_of (length g)

  -- what the code asks: the first set, with those lists as its rates
  abbrev spread : Asked
  spread = with_rates a.one a.one.set_epoch (spans g c) (spans h d)

  module _ (l : Long g h c d) where
    g_same : (inputs bounds (handed spread e)).g ≡ between bounds g c e.offset
    unfolding inputs placed handed
    g_same = λ j n m. spanned g c e.offset l.gd_long n m j

    h_same : (inputs bounds (handed spread e)).h ≡ between bounds h d e.offset
    unfolding inputs placed handed
    h_same = λ j n m. spanned h d e.offset (l.hd_long ∙ sym l.h_long) n m j

    spread_shown : allowances_of spread e ≡ igrf_allowances a true e
    unfolding field_x field_y field_z there_x there_y there_z there across across_x across_y across_z inputs placed handed
    spread_shown = λ j.
        record {
          x = allowed (there_x bounds a.one top (g_same j) (h_same j));
          y = allowed (there_y bounds a.one top (g_same j) (h_same j));
          z = allowed (there_z bounds a.one top (g_same j) (h_same j));
        }

  pub chosen_shown : (soon : Bool) → (soon ≡ true → Long g h c d) → cond soon (allowances_of spread e) (allowances_of a.one e) ≡ igrf_allowances a soon e
  chosen_shown true l = spread_shown (l refl)
  chosen_shown false l = refl

  -- ---- what is shown covers the allowance of demand 3
  early_covered : Met a true e → IgrfCovered a true e (igrf_allowances a true e)
  unfolding across across_x across_y across_z there there_x there_y there_z handed
  early_covered m =
      let l = pair_listed _ _ _ _ m.lists in
      let t = offset_leaf e.offset m.offset in
      let p = m.place in
      let q = a.one in
      let s = hom_related wholly_hom in
      let high = degree_high (length g) in
      let gr = between_related s g c e.offset in
      let hr = between_related s h d e.offset in
      let gn : (n k : ℕ) → Nr coeff_a (between bounds g c e.offset n k) (between absolutes g c e.offset n k) = λ n k. between_near bounds_keep g c n k (main_at g l.g_capped n k) (main_at c l.c_capped n k) e.offset t in
      let hn : (n k : ℕ) → Nr coeff_a (between bounds h d e.offset n k) (between absolutes h d e.offset n k) = λ n k. between_near bounds_keep h d n k (main_at h l.h_capped n k) (main_at d l.d_capped n k) e.offset t in
      let gu : (n k : ℕ) → Under (between sizes g c e.offset n k) full = λ n k. between_under g c e.offset n k (main_at g l.g_capped n k) (main_at c l.c_capped n k) t in
      let hu : (n k : ℕ) → Under (between sizes h d e.offset n k) full = λ n k. between_under h d e.offset n k (main_at h l.h_capped n k) (main_at d l.d_capped n k) t in
      record {
        x = turned_covers _ _ _ (there_x_related s q top _ _ _ _ gr hr) (there_x_near q p.0 p.1 p.2 top high bounds_keep _ _ _ _ gn hn);
        y = east_covers _ _ _ (there_y_related s q top _ _ _ _ gr hr) (there_y_near q p.0 p.1 p.2 top high bounds_keep _ _ _ _ gn hn) (east_size _ (there_y_under q p.0 p.1 p.2 top high _ _ full_reach gu hu));
        z = turned_covers _ _ _ (there_z_related s q top _ _ _ _ gr hr) (there_z_near q p.0 p.1 p.2 top high bounds_keep _ _ _ _ gn hn);
      }

  met_covered : (soon : Bool) → Met a soon e → IgrfCovered a soon e (igrf_allowances a soon e)
  met_covered true m = early_covered m
  met_covered false m = let k = covered a.one e (late_accepted a e m) (late_listed a e m) in record { x = k.x; y = k.y; z = k.z }

-- ---- the entry
module _ (a : Profile) (year day : ℤ) where
  abbrev found : Allowances
  found = igrf_allowances a (early year) (epoch_offset year day)

  said_after : (p : Paper Xyz) → p ≡ igrf_says a year day → after p (λ v. answered found) ≡ igrf_allowance_says a year day
  unfolding igrf_allowance_says
  said_after p e = ap (λ (q : Paper Xyz). after q (λ v. answered found)) e

  pub igrf_refused : (k : Refusal) → paper k ≡ igrf_says a year day → paper k ≡ igrf_allowance_says a year day
  igrf_refused k e = said_after (paper k) e

  module _ (v : Xyz) (h : answered v ≡ igrf_says a year day) where
    day_is : igrf_day year day ≡ answered (epoch_offset year day)
    day_is = day_met false a year day v (sym h)

    -- a day that the profile answered for is not refused
    pub day_known : (k : Refusal) → paper k ≡ igrf_day year day → ⊥
    day_known k e = no_answer k (epoch_offset year day) (e ∙ day_is)

    met : Met a (early year) (epoch_offset year day)
    met = (behind false a year day v (sym h)).0

    pub pair_long : early year ≡ true → Long a.one.g a.one.h a.second_g a.second_h
    pair_long s = (pair_listed _ _ _ _ (subst (λ (b : Bool). lists_found a b ≡ accepted) s met.lists)).long

    pub set_long : early year ≡ false → Long a.one.g a.one.h a.one.g_dot a.one.h_dot
    set_long s = (forecast_listed _ _ _ _ (subst (λ (b : Bool). lists_found a b ≡ accepted) s met.lists)).long

    -- what is shown on that day is what the profile says
    shown_is : (e : EpochOffset) → answered e ≡ igrf_day year day → (soon : Bool) → early year ≡ soon → answered (igrf_allowances a soon e) ≡ igrf_allowance_says a year day
    shown_is e i soon s =
        let ee : e ≡ epoch_offset year day = answered_one e (epoch_offset year day) (i ∙ day_is) in
        ap answered (ap (λ (b : Bool). igrf_allowances a b e) (sym s) ∙ ap (igrf_allowances a (early year)) ee) ∙ said_after (answered v) h

    pub allowances_shown : (e : EpochOffset) → answered e ≡ igrf_day year day → (soon : Bool) → soon ≡ early year → (r : Allowances) → r ≡ cond soon (allowances_of (spread a e) e) (allowances_of a.one e) → answered r ≡ igrf_allowance_says a year day
    allowances_shown e i soon s r er =
        let c : cond soon (allowances_of (spread a e) e) (allowances_of a.one e) ≡ igrf_allowances a soon e = chosen_shown a e soon (λ t. pair_long (sym s ∙ t)) in
        ap answered (er ∙ c) ∙ shown_is e i soon (sym s)

    -- before 2025: with the sizes of both sets in the place of the rates
    pub early_said : (e : EpochOffset) → answered e ≡ igrf_day year day → early year ≡ true → (z : ℤ) (x y : List Float) → x ≡ spans a.one.g a.second_g → y ≡ spans a.one.h a.second_h
        → (r : Allowances) → r ≡ allowances_of (with_rates a.one z x y) e → answered r ≡ igrf_allowance_says a year day
    early_said e i s z x y ex ey r er =
        let f : allowances_of (with_rates a.one z x y) e ≡ allowances_of (spread a e) e = rw (ex, ey) (any_year (spread a e) z e) in
        ap answered (er ∙ f ∙ spread_shown a e (pair_long s)) ∙ shown_is e i true s

    -- and from then on, of the first set
    pub late_said : (e : EpochOffset) → answered e ≡ igrf_day year day → early year ≡ false → (r : Allowances) → r ≡ allowances_of a.one e → answered r ≡ igrf_allowance_says a year day
    late_said e i s r er = ap answered er ∙ shown_is e i false s

  -- what stands behind an answer
  answer_of : (u : Allowances) → igrf_allowance_says a year day ≡ answered u → (v : Xyz) × (igrf_says a year day ≡ answered v) × (found ≡ u)
  unfolding igrf_allowance_says
  answer_of u h = let q = after_answered (igrf_says a year day) (λ v. answered found) u h in (q.0, q.1.0, answered_one found u q.1.1)

  pub covers : (u : Allowances) → igrf_allowance_says a year day ≡ answered u → IgrfCovered a (early year) (epoch_offset year day) u
  covers u h =
      let q = answer_of u h in
      subst (λ (z : Allowances). IgrfCovered a (early year) (epoch_offset year day) z) q.2 (met_covered a (epoch_offset year day) (early year) (behind false a year day q.0 q.1).0)

  pub answer_covers : (r : Result Allowances Refusal) → said r ≡ igrf_allowance_says a year day → (u : Allowances) → r ≡ Ok u → IgrfCovered a (early year) (epoch_offset year day) u
  answer_covers r h u e = covers u (sym h ∙ ap said e)

  -- the same, of the result
  pub covers_if : (r : Result Allowances Refusal) → said r ≡ igrf_allowance_says a year day → IfOk r (λ u. IgrfCovered a (early year) (epoch_offset year day) u)
  covers_if (Ok u) h = answer_covers (Ok u) h u refl
  covers_if (Err k) h = tt

-- ---- and reaches as far as the answer lies from the exact field
pub record IgrfReached (a : Profile) (soon : Bool) (e : EpochOffset) (u : Allowances) (v : Xyz) : Type 0 where
  pub x : Reaches u.x v.x (igrf_x unrounded a e soon)
  pub y : Reaches u.y v.y (igrf_y unrounded a e soon)
  pub z : Reaches u.z v.z (igrf_z unrounded a e soon)

pub igrf_reaches : (a : Profile) (year day : ℤ) (u : Allowances) (v : Xyz) → igrf_allowance_says a year day ≡ answered u → igrf_says a year day ≡ answered v → IgrfReached a (early year) (epoch_offset year day) u v
igrf_reaches a year day u v h k =
    let c = covers a year day u h in
    let w = close a year day v k in
    record { x = reaches _ _ _ _ c.x w.x; y = reaches _ _ _ _ c.y w.y; z = reaches _ _ _ _ c.z w.z }
