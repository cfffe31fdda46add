-- X, Y and Z of Field stay below the largest size of a component, for every accepted input, and so do those between two sets. Assumes nothing.
use mathlib.Core.Path.{◌≡◌, refl, sym, ap, ◌∙◌, subst}
use mathlib.Core.List.{List}
use Prim.Native.Nat.{ℕ, suc, ◌+◌, ◌*◌, ◌^◌, ◌≤◌, ◌<◌}
use native.Mathlib.Nat.{le_of_mul-le-mul_right, le_trans, mul-le-mul_right, zero-lt-suc}
use native.Mathlib.Omega.{arith}
use mathlib.Core.Bool.{true, ◌&&◌}
use lib.Dec.{T, lit≤}
use lib.IntN.{ℤ}
use lib.Ieee.{Float, binary32, of_bits, of_int, round}
use lib.Ieee.Positive.{num}
use Rattle.exact.specs.Exact.{Exact, Size, inv_e, own, size}
use Rattle.exact.proofs.Near.{Fine, Near}
use Rattle.exact.proofs.Ranks.{Leaf, Nr, fine_below, fine_ok}
use Rattle.exact.proofs.Reach.{near_size}
use Rattle.exact.specs.Tests.{capped}
use Rattle.models.specs.declared.epochs.EpochOffset.{EpochOffset}
use Rattle.tables.proofs.Degrees.{degree_high}
use Rattle.tables.specs.Tables.{schmidt_at, schmidt_bits}
use Rattle.tables.specs.Rule.{k_of}
use Rattle.sums.specs.Arithmetic.{sizes}
use Rattle.sums.proofs.Near.{acc_a, east_a}
use Rattle.sums.proofs.Terms.{ang_s, leg_s, pow_s}
use Rattle.sums.proofs.Keeps.{rounded_keeps}
use Rattle.sums.proofs.Images.{size_hom}
use Rattle.sums.specs.Recurrence.{angle, coefficient, dpsn, gc_hs, gs_hc, legendre, lit, pole_angle, pole_gc, pole_gs, pole_x, pole_x_row, pole_y, pole_z, pole_z_row, power, psn, quotient, step, total, x_row, x_sum, y_row, y_sum, z_row, z_sum}
use Rattle.lists.specs.Lists.{main_cap, rate_cap}
use Rattle.synthesis.specs.Sum.{degree, inputs}
use Rattle.sums.specs.Paths.{at, between, five, passing, placed}
use Rattle.lists.proofs.Checked.{Listed}
use Rattle.synthesis.proofs.Demand as Sum
use Rattle.field.specs.There.{there, there_x, there_y, there_z}
use Rattle.field.specs.Field.{FieldAccepted, Asked, field_x, field_y, field_z, field_with, handed, listed_field, record_of, strengths_of}
use Rattle.strengths.specs.declared.GeomagneticField.{GeomagneticField}
use Rattle.field.proofs.Answers.{found}
use Rattle.models.specs.declared.errors.WmmErrorModel.{WmmErrorModel}
use Rattle.models.specs.declared.records.ErrorRecord.{ErrorRecord}
use Rattle.models.specs.Epochs.{epoch_offset, epoch_year_of, known_epoch}
use Rattle.models.specs.Records.{listed_errors}
use Rattle.models.specs.Errors.{error_says}
use Rattle.models.proofs.BuiltIn.{known_errors, known_listed}
use Rattle.refusals.specs.Paper.{Paper, answered}
use Rattle.strengths.proofs.StrengthLaws.{uncertainty_usable}
use Rattle.strengths.proofs.Room.{all_three, below_largest, capped_by}
use Rattle.strengths.specs.Strengths.{h_of, listed_uncertainty, max_component, strength_says, uncertainty_of, uncertainty_says, uncertainty_with, usable, zone_of, zone_says}
use Rattle.field.proofs.TurnNear.{turned_a}
use Rattle.field.proofs.Laws.{field_x_image, field_x_near, field_y_image, field_y_near, field_z_image, field_z_near, sum_accepted}
use Rattle.field.proofs.Reach.{Reach, Under, at_most, ceilings, main_under, rate_under, there_x_under, there_y_under, there_z_under, top, under_more, under_related, upward, years_under}

-- ---- from a majorant in units to the test of a component
-- the same nearness with a sharper size
pub resized : {k B E : ℕ} {f : Float} {x : Exact} (B' : ℕ) → Near k B E f x → x.plus + x.minus ≤ B' * x.over → Near k B' E f x
resized B' m h =
    let c = m.close in
    record { p = m.p; q = m.q; d = m.d; is = m.is; close = record { pos = c.pos; over = c.over; size = h; plo = c.plo; phi = c.phi; qlo = c.qlo; qhi = c.qhi } }

cut_units : (n b B o : ℕ) → b ≤ B * 1048576 → n * 1048576 ≤ b * o → n ≤ B * o
cut_units n b B o h k =
    let l : n * 1048576 ≤ B * 1048576 * o = le_trans k (mul-le-mul_right o h) in
    let r : B * 1048576 * o ≡ B * o * 1048576 = omega arith in
    le_of_mul-le-mul_right {k = 1048576} (subst (λ (z : ℕ). n * 1048576 ≤ z) r l) (zero-lt-suc 1048575)

small : {k B E : ℕ} {f : Float} {x : Exact} {M : Size} (b B' : ℕ) → Near k B E f x → size x ≡ M → Under M b → b ≤ B' * 1048576 → Fine k B' E → 2 * suc B' ≤ num max_component → T (capped max_component f)
small {f = f} {x = x} b B' m e u l F t =
    let v : Under (size x) b = subst (λ (z : Size). Under z b) (sym e) u in
    let s = near_size (resized B' m (cut_units (x.plus + x.minus) b B' x.over l (v.units m.close.over))) F in
    capped_by f s.0 (le_trans s.1 (mul-le-mul_right (own f).over t))

-- ---- X, Y and Z of Field, for coefficients at the date of at most c units
module _ (a : Asked) (e : EpochOffset) (w : FieldAccepted a e) {c T' E : ℕ} (r : Reach c T' E) (g : (n m : ℕ) → Under ((inputs sizes (handed a e)).g n m) c) (h : (n m : ℕ) → Under ((inputs sizes (handed a e)).h n m) c) where
  pub field_x_under : Under (field_x sizes a e) T'
  unfolding field_x there_x there inputs placed handed sizes
  field_x_under = there_x_under a w.height w.latitude w.longitude (degree (handed a e)) (degree_high _) _ _ r g h

  pub field_y_under : Under (field_y sizes a e) E
  unfolding field_y there_y there inputs placed handed sizes
  field_y_under = there_y_under a w.height w.latitude w.longitude (degree (handed a e)) (degree_high _) _ _ r g h

  pub field_z_under : Under (field_z sizes a e) T'
  unfolding field_z there_z there inputs placed handed sizes
  field_z_under = there_z_under a w.height w.latitude w.longitude (degree (handed a e)) (degree_high _) _ _ r g h

-- ---- the largest coefficient at the date: between two entries at the cap of a coefficient and of opposite signs, after five years
pub full : ℕ
full = ceilings.plus (ceilings.num main_cap) (ceilings.times (ceilings.num five) (ceilings.over (ceilings.less (ceilings.num main_cap) (ceilings.num main_cap)) five))

pub full_reach : Reach full (2 ^ 75) (15 * 2 ^ 75 + 1)
unfolding ceilings upward inv_e own of_bits of_int round lit schmidt_at schmidt_bits k_of angle pole_angle step legendre total gc_hs gs_hc psn dpsn power x_row y_row z_row x_sum y_sum z_sum quotient pole_gc pole_gs pole_x_row pole_z_row pole_x pole_y pole_z top full
full_reach = record { X = 2 ^ 70; Y = 15 * 2 ^ 65; S = 15 * 2 ^ 62; sums = (refl, refl, refl, refl, refl, refl, refl); turned = lit≤ tt; by_eight = lit≤ tt; by_most = lit≤ tt; pole = lit≤ tt }

-- a rate at its cap gives less
cap_less : coefficient ceilings (ceilings.num main_cap) (ceilings.num rate_cap) (ceilings.num five) ≤ full
unfolding ceilings upward inv_e own of_bits full
cap_less = lit≤ tt

-- a majorant of Y that stays below what these give is at most 2 ^ 60
pub east_size : (M : Size) → Under M (15 * 2 ^ 75 + 1) → 0 < M.over → M.num ≤ 2 ^ 60 * M.over
east_size M u o = cut_units M.num (15 * 2 ^ 75 + 1) (2 ^ 60) M.over (lit≤ tt) (u.units o)

-- X, Y and Z near exact numbers whose majorants stay below what the largest coefficients give can be used
pub xyz_usable : {f k l : Float} {x y z : Exact} {X Y Z : Size} → Nr turned_a f x → Nr east_a k y → Nr turned_a l z → size x ≡ X → size y ≡ Y → size z ≡ Z → Under X (2 ^ 75) → Under Y (15 * 2 ^ 75 + 1) → Under Z (2 ^ 75)
    → capped max_component f && capped max_component k && capped max_component l ≡ true
unfolding acc_a leg_s ang_s pow_s
xyz_usable {f} {k} {l} nx ny nz ix iy iz ux uy uz =
    let x = small (2 ^ 75) (2 ^ 55) nx ix ux (lit≤ tt) (fine_below (fine_ok turned_a tt) (lit≤ tt) (lit≤ tt) (lit≤ tt)) (at_most _ _ below_largest.0) in
    let y = small (15 * 2 ^ 75 + 1) (15 * 2 ^ 55 + 1) ny iy uy (lit≤ tt) (fine_below (fine_ok east_a tt) (lit≤ tt) (lit≤ tt) (lit≤ tt)) (at_most _ _ below_largest.1) in
    let z = small (2 ^ 75) (2 ^ 55) nz iz uz (lit≤ tt) (fine_below (fine_ok turned_a tt) (lit≤ tt) (lit≤ tt) (lit≤ tt)) (at_most _ _ below_largest.0) in
    all_three f k l x y z

module _ (a : Asked) (e : EpochOffset) (w : FieldAccepted a e) (l : Listed a.g a.h a.g_dot a.h_dot) where
  abbrev leaves : Sum.Leaves (handed a e)
  leaves = Sum.leaves (handed a e) (sum_accepted a e w l)

  g_full : (n m : ℕ) → Under ((inputs sizes (handed a e)).g n m) full
  unfolding inputs placed
  g_full n m = let k = under_related in under_more cap_less (k.plus (main_under _ (leaves.g n m)) (k.times (years_under _ leaves.offset) (rate_under _ (leaves.g_dot n m))))

  h_full : (n m : ℕ) → Under ((inputs sizes (handed a e)).h n m) full
  unfolding inputs placed
  h_full n m = let k = under_related in under_more cap_less (k.plus (main_under _ (leaves.h n m)) (k.times (years_under _ leaves.offset) (rate_under _ (leaves.h_dot n m))))

  -- the majorant of Y is at most 2 ^ 60
  pub field_y_size : 0 < (field_y sizes a e).over → (field_y sizes a e).num ≤ 2 ^ 60 * (field_y sizes a e).over
  field_y_size = east_size (field_y sizes a e) (field_y_under a e w full_reach g_full h_full)

  -- X, Y and Z can be used
  pub record_usable : (m : WmmErrorModel) → usable (record_of (strengths_of a e) m) ≡ true
  unfolding usable
  record_usable m =
      xyz_usable (field_x_near a e w l rounded_keeps) (field_y_near a e w l rounded_keeps) (field_z_near a e w l rounded_keeps) (field_x_image size_hom a e) (field_y_image size_hom a e) (field_z_image size_hom a e)
      (field_x_under a e w full_reach g_full h_full) (field_y_under a e w full_reach g_full h_full) (field_z_under a e w full_reach g_full h_full)

-- the largest rate: a fifth of that gap
unfoldable pub passed : ℕ
passed = let gap = ceilings.over (ceilings.less (ceilings.num main_cap) (ceilings.num main_cap)) five in coefficient ceilings gap gap (ceilings.num (of_bits binary32 0))

-- ---- coefficients between two entries, and their rates
pub passing_under : (first second : List Float) (n m : ℕ) → Leaf 65536 (at first n m) → Leaf 65536 (at second n m) → Under (passing sizes first second n m) passed
unfolding passed
passing_under first second n m F S =
    let k = under_related in
    let gap = k.over five (k.less (main_under _ S) (main_under _ F)) in
    k.plus gap (k.times (k.num (of_bits binary32 0)) gap)

pub between_under : (first second : List Float) (t : Float) (n m : ℕ) → Leaf 65536 (at first n m) → Leaf 65536 (at second n m) → Leaf 5 t → Under (between sizes first second t n m) full
unfolding full
between_under first second t n m F S Y = let k = under_related in k.plus (main_under _ F) (k.times (years_under t Y) (k.over five (k.less (main_under _ S) (main_under _ F))))

-- ---- so no strength of a record that Field gave ends in 12, whatever its figures
module _ (figures : Paper WmmErrorModel) (a : Asked) (year day : ℤ) (v : GeomagneticField) (h : field_with figures a year day ≡ answered v) where
  pub field_usable : usable v ≡ true
  field_usable = let f = found figures a year day v h in subst (λ (u : GeomagneticField). usable u ≡ true) f.is (record_usable a (epoch_offset year day) f.accepted f.lists f.error)

  pub strength_never_12 : (s : Float) → strength_says v s ≡ answered s
  unfolding strength_says
  strength_never_12 s = rw field_usable refl

  pub zone_never_12 : zone_says v ≡ answered (zone_of (h_of v))
  unfolding zone_says
  zone_never_12 = rw field_usable refl

  -- with any figures that are found
  pub uncertainty_never_12 : (others : Paper WmmErrorModel) (m : WmmErrorModel) → others ≡ answered m → uncertainty_with others v ≡ answered (uncertainty_of m (h_of v))
  uncertainty_never_12 others m k = sym (uncertainty_usable v others m k field_usable)

  -- with the built-in figures of either epoch
  pub built_in_never_12 : (of : ℤ) → known_epoch of ≡ true → (s : Float) × (uncertainty_says v of ≡ answered s)
  unfolding uncertainty_says
  built_in_never_12 of k = let l = known_listed of k in (uncertainty_of l.0 (h_of v), uncertainty_never_12 (error_says of) l.0 (known_errors of k ∙ l.1))

  -- with the figures by which Field answered
  pub own_figures : uncertainty_with figures v ≡ answered (uncertainty_of v.error (h_of v))
  own_figures =
      let f = found figures a year day v h in
      uncertainty_never_12 figures v.error (f.figures_are ∙ ap (λ (u : GeomagneticField). answered u.error) f.is)

-- with the list and the epoch year by which Field answered the uncertainty is answered
pub same_list : (rs : List ErrorRecord) (a : Asked) (year day : ℤ) (v : GeomagneticField) → listed_field rs a year day ≡ answered v → listed_uncertainty v rs (epoch_year_of year) ≡ answered (uncertainty_of v.error (h_of v))
unfolding listed_field listed_uncertainty
same_list rs a year day v h = own_figures (listed_errors rs (epoch_year_of year)) a year day v h
