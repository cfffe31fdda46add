-- Demand 3 before 2025: X, Y and Z of the rounded interpolation, and their rounded rates, lie within the promised distance of the exact ones.
use mathlib.Core.Path.{◌≡◌, refl, sym, subst, ◌∙◌}
use mathlib.Core.List.{List}
use mathlib.Core.Bool.{true, ◌&&◌}
use Prim.Native.Nat.{ℕ, ◌-◌}
use lib.Dec.{T}
use lib.ListN.{length, get_or}
use lib.Ieee.{Float, add, div, neg, of_bits, round, sub, sum}
use Rattle.exact.specs.Tests.{capped, circle}
use Rattle.exact.specs.Within.{Within}
use Rattle.exact.proofs.Ranks.{Nr}
use Rattle.tables.specs.Degree.{degree_of, place}
use Rattle.tables.proofs.Degrees.{degree_high}
use Rattle.lists.proofs.OfProfile.{PairListed}
use Rattle.models.specs.declared.epochs.EpochOffset.{EpochOffset}
use Rattle.geocentric.specs.Geo.{height_ok, latitude_ok}
use Rattle.sums.specs.Arithmetic.{rounded, sizes, unrounded}
use Rattle.sums.specs.Paths.{between, nought, passing, placed}
use Rattle.sums.proofs.Keeps.{rounded_keeps}
use Rattle.sums.proofs.Terms.{coeff_a}
use Rattle.sums.proofs.Images.{hom_related, size_hom}
use Rattle.sums.proofs.Between.{between_near, between_related, passing_near, passing_related}
use Rattle.synthesis.specs.Sum.{inputs, offset_ok}
use Rattle.synthesis.proofs.Demand.{main_at, offset_leaf}
use Rattle.field.specs.Field.{Asked, field_x, field_y, field_z, handed, strengths_of}
use Rattle.field.specs.There.{there, there_x, there_y, there_z}
use Rattle.field.specs.Rated.{component_rates, no_time, rated}
use Rattle.strengths.specs.Strengths.{max_component}
use Rattle.field.proofs.There.{there_close_x, there_close_y, there_close_z, there_x_near, there_x_related, there_y_near, there_y_related, there_z_near, there_z_related}
use Rattle.field.proofs.Reach.{Under, there_x_under, there_y_under, there_z_under}
use Rattle.field.proofs.Ceiling.{between_under, full, full_reach, xyz_usable}
use Rattle.igrf.specs.Igrf.{IgrfClose, Profile, RateClose, across, across_x, across_y, across_z, fifth, fifths, mixed}
use Rattle.igrf.proofs.Lists.{at_all, first_long}

-- ---- the rates between two lists, by place
no_rate : fifth nought nought ≡ nought
unfolding fifth of_bits sub add neg sum div round
no_rate = refl

at_fifths : (from to : List Float) (k : ℕ) → length to ≡ length from → get_or (fifths from to) k nought ≡ fifth (get_or from k nought) (get_or to k nought)
at_fifths = at_all fifth no_rate

-- ---- what the sums read is near
module _ (a : Profile) (H : T (height_ok a.one.height)) (L : T (latitude_ok a.one.sin_phi a.one.cos_phi)) (C : T (circle a.one.sin_lambda a.one.cos_lambda))
    (l : PairListed a.one.g a.one.h a.second_g a.second_h) where
  abbrev g : List Float
  g = a.one.g

  abbrev h : List Float
  h = a.one.h

  abbrev c : List Float
  c = a.second_g

  abbrev d : List Float
  d = a.second_h

  g_fifth : (n m : ℕ) → get_or (fifths g c) (place n m - 1) nought ≡ fifth (get_or g (place n m - 1) nought) (get_or c (place n m - 1) nought)
  g_fifth n m = at_fifths g c (place n m - 1) l.long.gd_long

  h_fifth : (n m : ℕ) → get_or (fifths h d) (place n m - 1) nought ≡ fifth (get_or h (place n m - 1) nought) (get_or d (place n m - 1) nought)
  h_fifth n m = at_fifths h d (place n m - 1) (l.long.hd_long ∙ sym l.long.h_long)

  -- the interpolation
  module _ (e : EpochOffset) (O : T (offset_ok e.offset)) where
    g_then : (n m : ℕ) → Nr coeff_a ((inputs rounded (handed (mixed a) e)).g n m) (between unrounded g c e.offset n m)
    unfolding inputs placed handed mixed rounded fifth
    g_then n m = rw (g_fifth n m) (between_near rounded_keeps g c n m (main_at g l.g_capped n m) (main_at c l.c_capped n m) e.offset (offset_leaf e.offset O))

    h_then : (n m : ℕ) → Nr coeff_a ((inputs rounded (handed (mixed a) e)).h n m) (between unrounded h d e.offset n m)
    unfolding inputs placed handed mixed rounded fifth
    h_then n m = rw (h_fifth n m) (between_near rounded_keeps h d n m (main_at h l.h_capped n m) (main_at d l.d_capped n m) e.offset (offset_leaf e.offset O))

    pub early_close : IgrfClose a true e (strengths_of (mixed a) e)
    unfolding mixed there there_x there_y there_z across across_x across_y across_z handed
    early_close =
        let s = hom_related size_hom in
        record {
          x = there_close_x (mixed a) e H L C _ _ _ _ g_then h_then (between_related s g c e.offset) (between_related s h d e.offset);
          y = there_close_y (mixed a) e H L C _ _ _ _ g_then h_then (between_related s g c e.offset) (between_related s h d e.offset);
          z = there_close_z (mixed a) e H L C _ _ _ _ g_then h_then (between_related s g c e.offset) (between_related s h d e.offset);
        }

    -- so they can be used
    pub early_usable : (let v = strengths_of (mixed a) e in capped max_component v.x && capped max_component v.y && capped max_component v.z ≡ true)
    unfolding mixed field_x field_y field_z there_x there_y there_z there inputs placed handed rounded
    early_usable =
        let s = hom_related size_hom in
        let t = offset_leaf e.offset O in
        let gr = between_related s g c e.offset in
        let hr = between_related s h d e.offset in
        let gu : (n m : ℕ) → Under (between sizes g c e.offset n m) full = λ n m. between_under g c e.offset n m (main_at g l.g_capped n m) (main_at c l.c_capped n m) t in
        let hu : (n m : ℕ) → Under (between sizes h d e.offset n m) full = λ n m. between_under h d e.offset n m (main_at h l.h_capped n m) (main_at d l.d_capped n m) t in
        let n = degree_of (length g) in
        let high = degree_high (length g) in
        let p = a.one in
        xyz_usable (there_x_near p H L C n high rounded_keeps _ _ _ _ g_then h_then) (there_y_near p H L C n high rounded_keeps _ _ _ _ g_then h_then) (there_z_near p H L C n high rounded_keeps _ _ _ _ g_then h_then)
        (there_x_related s p n _ _ _ _ gr hr) (there_y_related s p n _ _ _ _ gr hr) (there_z_related s p n _ _ _ _ gr hr)
        (there_x_under p H L C n high _ _ full_reach gu hu) (there_y_under p H L C n high _ _ full_reach gu hu) (there_z_under p H L C n high _ _ full_reach gu hu)

  -- its rates
  abbrev q : Asked
  q = rated (mixed a)

  g_rate : (n m : ℕ) → Nr coeff_a ((inputs rounded (handed q (no_time (mixed a)))).g n m) (passing unrounded g c n m)
  unfolding inputs placed handed mixed rated no_time rounded fifth
  g_rate n m = rw (g_fifth n m) (passing_near rounded_keeps g c n m (main_at g l.g_capped n m) (main_at c l.c_capped n m))

  h_rate : (n m : ℕ) → Nr coeff_a ((inputs rounded (handed q (no_time (mixed a)))).h n m) (passing unrounded h d n m)
  unfolding inputs placed handed mixed rated no_time rounded fifth
  h_rate n m = rw (h_fifth n m) (passing_near rounded_keeps h d n m (main_at h l.h_capped n m) (main_at d l.d_capped n m))

  pub early_rates_close : RateClose a true (component_rates (mixed a)).x (component_rates (mixed a)).y (component_rates (mixed a)).z
  unfolding mixed rated there there_x there_y there_z
  early_rates_close =
      let s = hom_related size_hom in
      let o = no_time (mixed a) in
      record {
        x = subst (λ (n : ℕ). Within (field_x rounded q o) (there_x unrounded a.one (degree_of n) (passing unrounded g c) (passing unrounded h d)) (there_x sizes a.one (degree_of n) (passing sizes g c) (passing sizes h d))) (first_long _ (length g)) (there_close_x q o H L C _ _ _ _ g_rate h_rate (passing_related s g c) (passing_related s h d));
        y = subst (λ (n : ℕ). Within (field_y rounded q o) (there_y unrounded a.one (degree_of n) (passing unrounded g c) (passing unrounded h d)) (there_y sizes a.one (degree_of n) (passing sizes g c) (passing sizes h d))) (first_long _ (length g)) (there_close_y q o H L C _ _ _ _ g_rate h_rate (passing_related s g c) (passing_related s h d));
        z = subst (λ (n : ℕ). Within (field_z rounded q o) (there_z unrounded a.one (degree_of n) (passing unrounded g c) (passing unrounded h d)) (there_z sizes a.one (degree_of n) (passing sizes g c) (passing sizes h d))) (first_long _ (length g)) (there_close_z q o H L C _ _ _ _ g_rate h_rate (passing_related s g c) (passing_related s h d));
      }
