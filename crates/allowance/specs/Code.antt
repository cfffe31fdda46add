-- What each function of the code computes, in the recurrences' terms. Definitions only.
use Rattle.std.specs.Prelude.{List, ℕ, suc, ◌+◌, Float}
use Rattle.std.specs.Float.{binary32}
use Rattle.std.specs.Float.Ieee.{add, div}
use Rattle.exact.specs.Tests.{abs}
use Rattle.geocentric.specs.declared.Geocentric.{Geocentric}
use Rattle.synthesis.specs.declared.Xyz.{Xyz}
use Rattle.synthesis.specs.declared.angles.SinCos.{SinCos}
use Rattle.sums.specs.Arithmetic.{Pair, pair}
use Rattle.sums.specs.Recurrence.{downward, dpsn, gc, gs, pole_east, pole_gs, pole_x, pole_x_row, pole_y, pole_z, pole_z_row, power, psn, quotient, total, x_row, x_sum, x_term, y_row, y_sum, y_term, z_row, z_sum, z_term}
use Rattle.synthesis.specs.Sum.{Lent, inputs, lent_at, sum_x, sum_y, sum_z}
use Rattle.sums.specs.Paths.{POLE_ORDERS, five}
use Rattle.synthesis.specs.Code.{degree_part}
use Rattle.igrf.specs.Igrf.{made}
use Rattle.field.specs.Turn.{turn_x, turn_z}
use Rattle.allowance.specs.declared.inputs.Inputs.{Inputs}
use Rattle.allowance.specs.declared.terms.Parts.{Parts}
use Rattle.bounds.specs.Bounds.{bounds}

-- a sine and a cosine, and back
abbrev pub sin_cos : Pair Float → SinCos
sin_cos a = record { sin = a.fst; cos = a.snd }

abbrev pub pair_of : SinCos → Pair Float
pair_of u = pair u.sin u.cos

-- what is lent, as Sum names it
abbrev pub lent_of : Inputs → Lent
lent_of q = lent_at q.colatitude q.longitude q.ratio q.offset q.lists

-- what the terms of degree n and order m are made of, u the pair of the order's angle
unfoldable pub parts_of : Lent → ℕ → ℕ → Pair Float → Parts
parts_of a n m u =
    let i = inputs bounds a in
    record {
      gc = gc bounds (i.g n m) (i.h n m) u;
      gs = gs bounds (i.g n m) (i.h n m) u;
      ps = psn bounds i n m;
      dps = dpsn bounds i n m;
    }

-- ---- the degrees
-- the sums over the degrees 1 to N, where part makes that of degree j + 1 of j and the power of the ratio there
abbrev pub over_degrees : Lent → (ℕ → Float → Xyz) → ℕ → Xyz
over_degrees a part N =
    let i = inputs bounds a in
    record { x = total bounds i (λ j. (part j (power bounds i j)).x) N; y = total bounds i (λ j. (part j (power bounds i j)).y) N; z = total bounds i (λ j. (part j (power bounds i j)).z) N }

-- ---- the general path
-- the terms of degree n and order m
abbrev pub terms_of : Lent → ℕ → ℕ → Xyz
terms_of a n m = record { x = x_term bounds (inputs bounds a) n m; y = y_term bounds (inputs bounds a) n m; z = z_term bounds (inputs bounds a) n m }

-- the sums of degree n over its orders
abbrev pub row_sums : Lent → ℕ → Xyz
row_sums a n = record { x = x_row bounds (inputs bounds a) n; y = y_row bounds (inputs bounds a) n; z = z_row bounds (inputs bounds a) n }

-- the part of degree j + 1 in the sums
abbrev pub row_part : Lent → ℕ → Float → Xyz
row_part a j power = degree_part (j + 1) power (row_sums a (j + 1))

-- the sums over the degrees 1 to N
abbrev pub general : Lent → ℕ → Xyz
general a N = record { x = x_sum bounds (inputs bounds a) N; y = y_sum bounds (inputs bounds a) N; z = z_sum bounds (inputs bounds a) N }

-- ---- the near-pole path
-- the part of degree j + 1 in the sums
unfoldable pub pole_degree : Lent → ℕ → Float → Xyz
pole_degree a j power =
    let i = inputs bounds a in
    record {
      x = bounds.times power (pole_x_row bounds i POLE_ORDERS (suc j));
      y = pole_east bounds power (pole_gs bounds i (suc j) 1) (quotient bounds i (suc j)) (bounds.num (i.S (suc j) 1));
      z = downward bounds (suc j) power (pole_z_row bounds i POLE_ORDERS (suc j));
    }

-- the sums over the degrees 1 to N
abbrev pub near_pole : Lent → ℕ → Xyz
near_pole a N = record { x = pole_x bounds (inputs bounds a) POLE_ORDERS N; y = pole_y bounds (inputs bounds a) N; z = pole_z bounds (inputs bounds a) POLE_ORDERS N }

-- ---- after the sums
-- the majorants of Sum's three components
abbrev pub majorants_of : Lent → Xyz
majorants_of a = record { x = sum_x bounds a; y = sum_y bounds a; z = sum_z bounds a }

-- the same after the turn to geodetic axes: v at the place p, with the pair of the geodetic latitude
unfoldable pub turned_of : Xyz → Geocentric → (sp cp : Float) → Xyz
turned_of v p sp cp =
    record {
      x = turn_x bounds p.cos_theta p.sin_theta cp sp v.x v.z;
      y = v.y;
      z = turn_z bounds p.cos_theta p.sin_theta cp sp v.x v.z;
    }

-- ---- between two sets
-- the sizes of two coefficients over five years
unfoldable pub span : Float → Float → Float
span from to = div binary32 (add binary32 (abs to) (abs from)) five

-- of two lists of one length, in the place of the rates
abbrev pub spans : List Float → List Float → List Float
spans = made span
