-- What every answer of the rates has: no rate is infinite; and 21 is due exactly where H is zero, since no other divisor is zero then. Assumes nothing.
use Rattle.refusals.specs.declared.Refusal.{Refusal}
use Rattle.std.specs.Prelude.{Ok, Err, IfOk, Result}
use mathlib.Core.Path.{◌≡◌, refl, sym, ap, ◌∙◌, subst}
use mathlib.Core.Bool.{Bool, true, false, ◌||◌}
use Prim.Native.Nat.{ℕ, ◌+◌, ◌*◌, ◌^◌, ◌≤◌, ◌<◌}
use native.Mathlib.Nat.{le_of_eq, le_trans, lt_of_lt_of_le, mul-le-mul_right, mul-one}
use lib.Dec.{T, lit≤, lit<}
use lib.IntN.{ℤ}
use lib.Ieee.{Float, binary32, fits, of_bits, eq, mul}
use lib.Ieee.Positive.{positive, positive_of_value}
use Rattle.exact.specs.Exact.{own}
use Rattle.exact.proofs.Ranks.{Leaf}
use Rattle.exact.proofs.Near.{finite_is}
use Rattle.exact.proofs.Units.{ONE, In, in_most, in_units_of, one_number}
use Rattle.refusals.specs.Paper.{answered, said}
use Rattle.models.specs.Epochs.{epoch_offset, epoch_year_of}
use Rattle.models.specs.Errors.{error_says}
use Rattle.synthesis.specs.declared.Xyz.{Xyz}
use Rattle.strengths.specs.declared.GeomagneticField.{GeomagneticField}
use Rattle.strengths.specs.Strengths.{f_of, h_of, usable}
use Rattle.strengths.proofs.StrengthSizes.{components, f_most, h_most}
use Rattle.field.specs.Field.{Asked, field_says, record_of, strengths_of}
use Rattle.field.proofs.Ceiling.{field_usable}
use Rattle.rates.specs.declared.YearlyRates.{YearlyRates}
use Rattle.field.specs.Rated.{component_rates}
use Rattle.rates.specs.Rates.{AllFinite, rates_of, rates_says, zero_divisor}
use Rattle.rates.proofs.Rated.{of_field, rated_accepted, rated_listed}
use Rattle.rates.proofs.Answers.{behind_answer}
use Rattle.rates.proofs.Divisors.{Rooted, Squared, aa, in_root, not_zero, root_large, root_most, rooted, square_above, square_in}
use Rattle.rates.proofs.Ceiling.{Slow, rates_slow, x_fits, y_fits, z_fits}
use Rattle.rates.proofs.Finite.{Strong, four_finite}

-- a component of a field that passes the test of refusal 12, in units
record Part (f : Float) : Type 0 where
  n : ℕ
  is : In n f
  most : n ≤ 2 ^ 60 * ONE

part : (f : Float) → T (fits binary32 f) → Leaf (2 ^ 60) f → Part f
part f h l =
    let u = in_units_of f h (finite_is f l.p l.q l.d l.is) in
    record { n = u.0; is = u.1; most = le_trans (le_of_eq (sym (mul-one u.0))) (in_most (2 ^ 60) 1 f u.1 (le_trans (le_of_eq (mul-one ((own f).plus + (own f).minus))) l.close.size)) }

root_above : {A B : ℕ} {f : Float} → Rooted A B f → T (positive f)
root_above {f = f} x = positive_of_value f x.n ONE x.has (lt_of_lt_of_le (lit< tt) (root_large x))

square_positive : {n : ℕ} {f : Float} → Squared n f → T (positive (mul binary32 f f))
square_positive {f = f} x = positive_of_value (mul binary32 f f) x.m ONE x.has x.some

-- ---- a field that can be used, of three f32
pub record Sound (v : GeomagneticField) : Type 0 where
  pub usable_is : usable v ≡ true
  pub x_held : T (fits binary32 v.x)
  pub y_held : T (fits binary32 v.y)
  pub z_held : T (fits binary32 v.z)

module _ (v : GeomagneticField) (sound : Sound v) where
  -- its components in units
  of_x : Part v.x
  of_x = part v.x sound.x_held (components v sound.usable_is).0

  of_y : Part v.y
  of_y = part v.y sound.y_held (components v sound.usable_is).1

  of_z : Part v.z
  of_z = part v.z sound.z_held (components v sound.usable_is).2

  -- ---- 21 is due exactly where H is zero
  module _ (e : eq (h_of v) (of_bits binary32 0) ≡ false) where
    of_h : Rooted of_x.n of_y.n (h_of v)
    unfolding h_of
    of_h = rooted v.x v.y of_x.is of_y.is (2 ^ 60) of_x.most of_y.most (lit< tt) e

    h_small : of_h.n ≤ 2 ^ 62 * ONE
    h_small = root_most (h_of v) 62 of_h (unfold of_bits in h_most v sound.usable_is)

    h_squared : Squared of_h.n (h_of v)
    h_squared = square_above of_h (2 ^ 62) h_small (lit< tt)

    z_small : of_z.n ≤ 2 ^ 62 * ONE
    z_small = let l : 2 ^ 60 ≤ 2 ^ 62 = lit≤ tt in le_trans of_z.most (mul-le-mul_right ONE l)

    pub f_not_zero : eq (f_of v) (of_bits binary32 0) ≡ false
    unfolding f_of
    f_not_zero =
        let k : (2 ^ 62) * (2 ^ 62) < 2 ^ 125 = lit< tt in
        not_zero (h_of v) v.z (in_root of_h) of_z.is (2 ^ 62) h_small z_small k
        (subst (λ (n : ℕ). 0 < n) (one_number (mul binary32 (h_of v) (h_of v)) (square_in h_squared) (record { sign = false; has = (aa (h_of v) v.z (in_root of_h) of_z.is (2 ^ 62) h_small z_small k).has })) h_squared.some)

    of_f : Rooted of_h.n of_z.n (f_of v)
    unfolding f_of
    of_f = rooted (h_of v) v.z (in_root of_h) of_z.is (2 ^ 62) h_small z_small (lit< tt) f_not_zero

    f_squared : Squared of_f.n (f_of v)
    f_squared = square_above of_f (2 ^ 63) (root_most (f_of v) 63 of_f (unfold of_bits in f_most v sound.usable_is)) (lit< tt)

    strong : Strong v of_x.n of_y.n of_z.n
    strong = record { H = of_h; h_small = h_small; hh = h_squared; F = of_f; ff = f_squared }

    -- H above zero makes H-as-H, F and F-as-F above zero too: no division by zero is left
    pub divisors : T (positive (h_of v)) × T (positive (mul binary32 (h_of v) (h_of v))) × T (positive (f_of v)) × T (positive (mul binary32 (f_of v) (f_of v)))
    divisors = (root_above of_h, square_positive h_squared, root_above of_f, square_positive f_squared)

  -- so 21 is due exactly where H is zero
  pub zero_by_h : zero_divisor v ≡ eq (h_of v) (of_bits binary32 0)
  unfolding zero_divisor
  zero_by_h = go (eq (h_of v) (of_bits binary32 0)) refl
    where
      go : (b : Bool) → eq (h_of v) (of_bits binary32 0) ≡ b → eq (h_of v) (of_bits binary32 0) || eq (f_of v) (of_bits binary32 0) ≡ eq (h_of v) (of_bits binary32 0)
      go true e = rw e refl
      go false e = rw (e, f_not_zero e) refl

  -- no rate is infinite
  pub seven_finite : (r : Xyz) → Slow r → zero_divisor v ≡ false → AllFinite (rates_of v r)
  unfolding rates_of
  seven_finite r l d =
      let x = in_units_of r.x l.x_held l.x_finite in
      let y = in_units_of r.y l.y_held l.y_finite in
      let z = in_units_of r.z l.z_held l.z_finite in
      let s = strong (sym zero_by_h ∙ d) in
      let k = four_finite v r of_x.is of_y.is of_z.is of_x.most of_y.most of_z.most x.1 y.1 z.1 (l.x_most x.0 x.1) (l.y_most y.0 y.1) (l.z_most z.0 z.1) s in
      record { x = l.x_finite; y = l.y_finite; z = l.z_finite; declination = k.0; inclination = k.1; h = k.2; f = k.3 }

-- ---- a field that Field answered with, and its rates
module _ (a : Asked) (year day : ℤ) (v : GeomagneticField) (h : field_says a year day ≡ answered v) where
  pub field_sound : Sound v
  unfolding field_says
  field_sound =
      let e = epoch_offset year day in
      let u : usable v ≡ true = field_usable (error_says (epoch_year_of year)) a year day v h in
      let is : record_of (strengths_of a e) (of_field a year day v h).error ≡ v = (of_field a year day v h).is in
      record {
        usable_is = u;
        x_held = subst (λ (w : GeomagneticField). T (fits binary32 w.x)) is (x_fits a e);
        y_held = subst (λ (w : GeomagneticField). T (fits binary32 w.y)) is (y_fits a e);
        z_held = subst (λ (w : GeomagneticField). T (fits binary32 w.z)) is (z_fits a e);
      }

pub all_finite : (a : Asked) (year day : ℤ) (u : YearlyRates) → rates_says a year day ≡ answered u → AllFinite u
all_finite a year day u h =
    let b = behind_answer a year day u h in
    let s = field_sound a year day b.field b.is_field in
    let l = rates_slow a (rated_accepted a year day b.field b.is_field) (rated_listed a year day b.field b.is_field) in
    subst (λ (q : YearlyRates). AllFinite q) b.is (seven_finite b.field s (component_rates a) l b.divides)

pub answer_finite : (a : Asked) (year day : ℤ) (r : Result YearlyRates Refusal) → said r ≡ rates_says a year day → (u : YearlyRates) → r ≡ Ok u → AllFinite u
answer_finite a year day r h u e = all_finite a year day u (sym h ∙ ap said e)

pub finite_if : (a : Asked) (year day : ℤ) (r : Result YearlyRates Refusal) → said r ≡ rates_says a year day → IfOk r AllFinite
finite_if a year day (Ok u) h = answer_finite a year day (Ok u) h u refl
finite_if a year day (Err k) h = tt
