-- The yearly rates (document 02, Wish 7; the Rust crate, lib.rs, the parts that are built for its tests alone): those of X, Y and Z, those of declination, inclination, H and F that follow
-- from them, the refusals, and the exact rates that the first three are near. Definitions only.
use Rattle.std.specs.Prelude.{Bool, ◌||◌, not, T, ℤ, Float}
use Rattle.std.specs.Float.{binary32}
use Rattle.std.specs.Float.Ieee.{of_bits, add, sub, mul, div, eq}
use Rattle.std.specs.Float.Ieee.Scale.{finite}
use Rattle.exact.specs.Within.{Within}
use Rattle.refusals.specs.Paper.{Paper, answered, paper, unless, after}
use Rattle.refusals.specs.declared.Refusal.TheVariants.{ZeroDivisor}
use Rattle.sums.specs.Arithmetic.{unrounded, sizes}
use Rattle.synthesis.specs.declared.Xyz.{Xyz}
use Rattle.strengths.specs.declared.GeomagneticField.{GeomagneticField}
use Rattle.strengths.specs.Strengths.{h_of, f_of}
use Rattle.field.specs.Field.{Asked, field_x, field_y, field_z, field_says}
use Rattle.field.specs.Rated.{component_rates, no_time, rated}
use Rattle.rates.specs.declared.YearlyRates.{YearlyRates}

-- ---- the four that follow, of a field v of strengths h and f whose X, Y and Z have the rates r (declination_rate, inclination_rate, h_rate, f_rate)
-- the f32 57.29578: how many degrees a radian has
abbrev pub degrees_in_radian : Float
degrees_in_radian = of_bits binary32 0x42652ee1

-- `to_degrees`: one product
abbrev pub to_degrees : Float → Float
to_degrees x = mul binary32 x degrees_in_radian

-- (X·X' + Y·Y') / H, in nT a year
unfoldable pub h_rate_of : (h : Float) → GeomagneticField → Xyz → Float
h_rate_of h v r = div binary32 (add binary32 (mul binary32 v.x r.x) (mul binary32 v.y r.y)) h

-- (X·X' + Y·Y' + Z·Z') / F, in nT a year
unfoldable pub f_rate : (f : Float) → GeomagneticField → Xyz → Float
f_rate f v r = div binary32 (add binary32 (add binary32 (mul binary32 v.x r.x) (mul binary32 v.y r.y)) (mul binary32 v.z r.z)) f

-- (Y'·X - Y·X') / (H-as-H), in degrees a year
unfoldable pub declination_rate : (h : Float) → GeomagneticField → Xyz → Float
declination_rate h v r = to_degrees (div binary32 (sub binary32 (mul binary32 r.y v.x) (mul binary32 v.y r.x)) (mul binary32 h h))

-- (Z'·H - Z·H') / (F-as-F), in degrees a year
unfoldable pub inclination_rate : (h f : Float) → GeomagneticField → Xyz → Float
inclination_rate h f v r = to_degrees (div binary32 (sub binary32 (mul binary32 r.z h) (mul binary32 v.z (h_rate_of h v r))) (mul binary32 f f))

-- the record of seven, by the H and the F of v
unfoldable pub rates_of : GeomagneticField → Xyz → YearlyRates
rates_of v r =
    record {
      x = r.x;
      y = r.y;
      z = r.z;
      declination = declination_rate (h_of v) v r;
      inclination = inclination_rate (h_of v) (f_of v) v r;
      h = h_rate_of (h_of v) v r;
      f = f_rate (f_of v) v r;
    }

-- ---- the call
-- H or F is zero
unfoldable pub zero_divisor : GeomagneticField → Bool
zero_divisor v = eq (h_of v) (of_bits binary32 0) || eq (f_of v) (of_bits binary32 0)

-- refusal 21 where H or F is zero, or the record of seven
unfoldable pub rates_with : Xyz → GeomagneticField → Paper YearlyRates
rates_with r v = unless (not (zero_divisor v)) (paper ZeroDivisor) (answered (rates_of v r))

-- Field's refusals in Field's order, then 21, then the rates
unfoldable pub rates_says : Asked → (year day : ℤ) → Paper YearlyRates
rates_says a year day = after (field_says a year day) (rates_with (component_rates a))

-- demand 3: the rates of X, Y and Z within the promised distance of the exact sum of the rates, with the sizes as its majorant
pub record RatesClose (a : Asked) (v : YearlyRates) : Type 0 where
  pub x : Within v.x (field_x unrounded (rated a) (no_time a)) (field_x sizes (rated a) (no_time a))
  pub y : Within v.y (field_y unrounded (rated a) (no_time a)) (field_y sizes (rated a) (no_time a))
  pub z : Within v.z (field_z unrounded (rated a) (no_time a)) (field_z sizes (rated a) (no_time a))

-- each of the seven is a number, and not infinite
pub record AllFinite (v : YearlyRates) : Type 0 where
  pub x : T (finite v.x)
  pub y : T (finite v.y)
  pub z : T (finite v.z)
  pub declination : T (finite v.declination)
  pub inclination : T (finite v.inclination)
  pub h : T (finite v.h)
  pub f : T (finite v.f)
