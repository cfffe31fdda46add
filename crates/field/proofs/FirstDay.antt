-- On day 1 of the epoch year, two accepted sets that differ only in rates give numerically equal fields and the same zone.
use Prim.Native.Nat.{ℕ}
use mathlib.Core.Path.{◌≡◌, refl, sym, ap, ap₂, ◌∙◌}
use mathlib.Core.List.{List}
use mathlib.Core.Bool.{false}
use lib.Dec.{T}
use lib.IntN.{ℤ, pos}
use lib.Ieee.{Float, binary32, add, mul}
use lib.Ieee.Scale.{finite}
use Rattle.exact.specs.Tests.{capped}
use Rattle.exact.proofs.Near.{finite_is}
use Rattle.exact.proofs.Ranks.{Leaf}
use Rattle.roots.specs.Root.{sqrt_of}
use Rattle.refusals.specs.Paper.{Paper, answered}
use Rattle.models.specs.declared.epochs.EpochOffset.{EpochOffset}
use Rattle.models.specs.declared.errors.WmmErrorModel.{WmmErrorModel}
use Rattle.models.specs.Epochs.{epoch_year_of, epoch_offset, offset_of}
use Rattle.models.specs.Laws.{offset_at_epoch}
use Rattle.sums.specs.Arithmetic.{rounded}
use Rattle.synthesis.specs.Sum.{degree, inputs, sum_x, sum_z}
use Rattle.synthesis.proofs.Demand.{leaves}
use Rattle.sums.specs.Paths.{placed}
use Rattle.sums.proofs.Related.{Alike, path_x_related, path_y_related, path_z_related}
use Rattle.sums.specs.Same.{Same, null, same}
use Rattle.sums.proofs.SameLaws.{abs_same, add_same, by_same, null_times, same_related, square_same}
use Rattle.strengths.specs.declared.GeomagneticField.{GeomagneticField}
use Rattle.field.specs.Field.{Asked, field_with, field_x, field_y, field_z, handed}
use Rattle.strengths.specs.Strengths.{h_of, usable, zone_of, zone_says}
use Rattle.field.proofs.TurnRelated.{turn_x_related, turn_z_related}
use Rattle.field.proofs.Laws.{sum_accepted}
use Rattle.field.proofs.Answers.{Found, found}

-- b asks what a asks, of a set that may have other rates
pub record OtherRates (a b : Asked) : Type 0 where
  pub height : a.height ≡ b.height
  pub sin_phi : a.sin_phi ≡ b.sin_phi
  pub cos_phi : a.cos_phi ≡ b.cos_phi
  pub sin_lambda : a.sin_lambda ≡ b.sin_lambda
  pub cos_lambda : a.cos_lambda ≡ b.cos_lambda
  pub set_epoch : a.set_epoch ≡ b.set_epoch
  pub g : a.g ≡ b.g
  pub h : a.h ≡ b.h

-- a with the rates gd and hd
abbrev rated : Asked → List Float → List Float → Asked
rated a gd hd =
    record { height = a.height; sin_phi = a.sin_phi; cos_phi = a.cos_phi; sin_lambda = a.sin_lambda; cos_lambda = a.cos_lambda; set_epoch = a.set_epoch; g = a.g; h = a.h; g_dot = gd; h_dot = hd }

rated_is : (a b : Asked) → OtherRates a b → rated a b.g_dot b.h_dot ≡ b
rated_is a b r =
    λ j. record { height = r.height j; sin_phi = r.sin_phi j; cos_phi = r.cos_phi j; sin_lambda = r.sin_lambda j; cos_lambda = r.cos_lambda j; set_epoch = r.set_epoch j; g = r.g j; h = r.h j; g_dot = b.g_dot; h_dot = b.h_dot }

-- ---- with no time passed, a finite rate moves a coefficient by a zero
unmoved : (t g r r' : Float) → t ≡ null false → T (finite r) → T (finite r') → Same (add binary32 g (mul binary32 t r)) (add binary32 g (mul binary32 t r'))
unmoved t g r r' e p q = rw e (add_same same (null_times false r r' p q))

leaf_finite : {B : ℕ} {f : Float} → Leaf B f → T (finite f)
leaf_finite {f = f} l = finite_is f l.p l.q l.d l.is

module _ (a : Asked) (gd hd : List Float) (e : EpochOffset) (z : e.offset ≡ null false) (f f' : Paper WmmErrorModel) (v w : GeomagneticField) (F : Found f a e v) (G : Found f' (rated a gd hd) e w) where
  -- the second question
  abbrev other : Asked
  other = rated a gd hd

  alike : Alike rounded rounded Same (inputs rounded (handed a e)) (inputs rounded (handed other e))
  unfolding inputs placed handed rounded
  alike =
      let p = leaves (handed a e) (sum_accepted a e F.accepted F.lists) in
      let q = leaves (handed other e) (sum_accepted other e G.accepted G.lists) in
      record {
        cos_theta = same;
        sin_theta = same;
        sin_lambda = same;
        cos_lambda = same;
        ratio = same;
        S = λ n m. same;
        K = λ n m. same;
        g = λ n m. unmoved e.offset _ _ _ z (leaf_finite (p.g_dot n m)) (leaf_finite (q.g_dot n m));
        h = λ n m. unmoved e.offset _ _ _ z (leaf_finite (p.h_dot n m)) (leaf_finite (q.h_dot n m));
      }

  sine : (inputs rounded (handed other e)).sin_theta ≡ (inputs rounded (handed a e)).sin_theta
  unfolding inputs placed handed
  sine = refl

  sum_x_same : Same (sum_x rounded (handed a e)) (sum_x rounded (handed other e))
  unfolding handed
  sum_x_same = path_x_related rounded rounded Same same_related (inputs rounded (handed a e)) (inputs rounded (handed other e)) sine alike (degree (handed a e))

  sum_z_same : Same (sum_z rounded (handed a e)) (sum_z rounded (handed other e))
  unfolding handed
  sum_z_same = path_z_related rounded rounded Same same_related (inputs rounded (handed a e)) (inputs rounded (handed other e)) sine alike (degree (handed a e))

  shown : {x y x' y' : Float} → x ≡ x' → y ≡ y' → Same x y → Same x' y'
  shown p q h = by_same (sym p) (sym q) h

  same_x : Same v.x w.x
  unfolding field_x handed
  same_x =
      shown (ap (λ (u : GeomagneticField). u.x) F.is) (ap (λ (u : GeomagneticField). u.x) G.is)
      (turn_x_related rounded rounded Same same_related _ _ _ _ sum_x_same sum_z_same)

  same_y : Same v.y w.y
  unfolding field_y handed
  same_y =
      shown (ap (λ (u : GeomagneticField). u.y) F.is) (ap (λ (u : GeomagneticField). u.y) G.is)
      (path_y_related rounded rounded Same same_related (inputs rounded (handed a e)) (inputs rounded (handed other e)) sine alike (degree (handed a e)))

  same_z : Same v.z w.z
  unfolding field_z handed
  same_z =
      shown (ap (λ (u : GeomagneticField). u.z) F.is) (ap (λ (u : GeomagneticField). u.z) G.is)
      (turn_z_related rounded rounded Same same_related _ _ _ _ sum_x_same sum_z_same)

-- ---- numerically equal fields have one H, and so one zone
module _ (v w : GeomagneticField) (x : Same v.x w.x) (y : Same v.y w.y) where
  pub h_same : h_of v ≡ h_of w
  unfolding h_of
  h_same = ap₂ (λ (p q : Float). sqrt_of (add binary32 p q)) (square_same x) (square_same y)

  pub zone_same : zone_of (h_of v) ≡ zone_of (h_of w)
  zone_same = ap zone_of h_same

  pub zone_says_same : Same v.z w.z → zone_says v ≡ zone_says w
  unfolding zone_says usable capped
  zone_says_same z = rw (abs_same x, abs_same y, abs_same z, h_same)

-- ---- the first day, each set with any figures
module _ (a b : Asked) (r : OtherRates a b) (year : ℤ) (t : epoch_year_of year ≡ year) (f f' : Paper WmmErrorModel) (v w : GeomagneticField) (p : field_with f a year (pos 1) ≡ answered v) (q : field_with f' b year (pos 1) ≡ answered w) where
  pub first_day : Same v.x w.x × Same v.y w.y × Same v.z w.z × (zone_of (h_of v) ≡ zone_of (h_of w))
  first_day =
      let gd = b.g_dot in
      let hd = b.h_dot in
      let e = epoch_offset year (pos 1) in
      let o : e.offset ≡ null false = ap (λ (n : ℤ). offset_of year n (pos 1)) t ∙ offset_at_epoch year in
      let F = found f a year (pos 1) v p in
      let G = found f' (rated a gd hd) year (pos 1) w (ap (λ (c : Asked). field_with f' c year (pos 1)) (rated_is a b r) ∙ q) in
      let x = same_x a gd hd e o f f' v w F G in
      let y = same_y a gd hd e o f f' v w F G in
      let z = same_z a gd hd e o f f' v w F G in
      (x, y, z, zone_same v w x y)

  -- and the entry for the zone answers alike for both fields
  pub first_day_zone : zone_says v ≡ zone_says w
  first_day_zone = let s = first_day in zone_says_same v w s.0 s.1 s.2
