-- One order and one degree more of the sums.
use mathlib.Core.Path.{◌≡◌, refl, sym, ap, ◌∙◌}
use Prim.Native.Nat.{ℕ, suc, ◌+◌}
use native.Mathlib.Numerals.{add-one}
use lib.Ieee.{Float, binary32, of_bits, add, mul}
use Rattle.exact.specs.Tests.{abs}
use Rattle.tables.specs.Degree.{place}
use Rattle.tables.specs.Tables.{schmidt_at}
use Rattle.synthesis.specs.declared.Xyz.{Xyz}
use Rattle.sums.specs.Recurrence.{downward, pole_angle, pole_gc, pole_gs, pole_x, pole_x_row, pole_y, pole_z, pole_z_row, power, quotient, total, x_row, x_sum, x_term, y_row, y_sum, y_term, z_row, z_sum, z_term}
use Rattle.sums.specs.Arithmetic.{pair, rounded}
use Rattle.sums.specs.Paths.{placed}
use Rattle.synthesis.specs.Sum.{Lent, inputs}
use Rattle.allowance.specs.declared.terms.Parts.{Parts}
use Rattle.bounds.specs.Bounds.{bounds}
use Rattle.synthesis.specs.Code.{degree_part, plus_of}
use Rattle.allowance.specs.Code.{general, near_pole, over_degrees, parts_of, pole_degree, row_part, row_sums}
use Rattle.allowance.proofs.Lits.{abs_one, abs_zero, lit_size}

-- the terms of the first k orders of degree n, added up
abbrev pub first_orders : Lent → ℕ → ℕ → Xyz
first_orders a n k =
    let i = inputs bounds a in
    record { x = total bounds i (x_term bounds i n) k; y = total bounds i (y_term bounds i n) k; z = total bounds i (z_term bounds i n) k }

pub more_power : (a : Lent) (j : ℕ) (ar ratio : Float) → ar ≡ power bounds (inputs bounds a) j → ratio ≡ abs a.ratio → mul binary32 ar ratio ≡ power bounds (inputs bounds a) (j + 1)
unfolding power inputs placed bounds
more_power a j ar ratio e f = rw (add-one, e, f)

-- one degree more
pub more_degrees : (a : Lent) (part : ℕ → Float → Xyz) (j : ℕ) (ar : Float) (tot t u : Xyz) → ar ≡ power bounds (inputs bounds a) j → tot ≡ over_degrees a part j → t ≡ part j ar → u ≡ plus_of tot t
    → u ≡ over_degrees a part (j + 1)
unfolding total plus_of rounded bounds
more_degrees a part j ar tot t u ep et ed eu = eu ∙ rw (et, ed, ep, add-one j)

-- the part of a degree: its order is its own size
part_is : (n : ℕ) (p : Float) (v : Xyz) → degree_part n p v ≡ record { x = bounds.times p v.x; y = bounds.times p v.y; z = downward bounds n p v.z }
unfolding degree_part rounded bounds
part_is n p v = rw (← lit_size n, ← lit_size 1)

-- on the general path
pub general_is : (a : Lent) (N : ℕ) → over_degrees a (row_part a) N ≡ general a N
unfolding x_sum y_sum z_sum
general_is a N = λ t.
    let i = inputs bounds a in
    let same : (j : ℕ) → row_part a j (power bounds i j) ≡ record { x = bounds.times (power bounds i j) (x_row bounds i (suc j)); y = bounds.times (power bounds i j) (y_row bounds i (suc j)); z = downward bounds (suc j) (power bounds i j) (z_row bounds i (suc j)) }
    = λ j. part_is (j + 1) (power bounds i j) (row_sums a (j + 1)) ∙ rw (add-one j) in
    record { x = total bounds i (λ j. (same j t).x) N; y = total bounds i (λ j. (same j t).y) N; z = total bounds i (λ j. (same j t).z) N }

-- near the pole
pub near_pole_is : (a : Lent) (N : ℕ) → over_degrees a (pole_degree a) N ≡ near_pole a N
unfolding pole_x pole_y pole_z pole_degree
near_pole_is a N = refl

-- one degree more, on either path
pub more_general_degrees : (a : Lent) (j : ℕ) (ar : Float) (tot r t u : Xyz) → ar ≡ power bounds (inputs bounds a) j → tot ≡ general a j → r ≡ row_sums a (j + 1) → t ≡ degree_part (j + 1) ar r → u ≡ plus_of tot t
    → u ≡ general a (j + 1)
more_general_degrees a j ar tot r t u ep et er ed eu = more_degrees a (row_part a) j ar tot t u ep (et ∙ sym (general_is a j)) (rw (ed, er)) eu ∙ general_is a (j + 1)

pub more_pole_degrees : (a : Lent) (j : ℕ) (ar : Float) (tot t u : Xyz) → ar ≡ power bounds (inputs bounds a) j → tot ≡ near_pole a j → t ≡ pole_degree a j ar → u ≡ plus_of tot t
    → u ≡ near_pole a (j + 1)
more_pole_degrees a j ar tot t u ep et ed eu = more_degrees a (pole_degree a) j ar tot t u ep (et ∙ sym (near_pole_is a j)) ed eu ∙ near_pole_is a (j + 1)

-- near the pole: the part of degree j + 1, from the parts of its orders 0 and 1
pub pole_degree_is : (a : Lent) (j : ℕ) (ar s k sin cos : Float) (w0 w1 : Parts) (d : Xyz)
    → sin ≡ abs a.sin_lambda → cos ≡ abs a.cos_lambda
    → w0 ≡ parts_of a (j + 1) 0 (pair (of_bits binary32 0) (of_bits binary32 0x3f800000)) → w1 ≡ parts_of a (j + 1) 1 (pair sin cos)
    → s ≡ abs (schmidt_at (place (j + 1) 1)) → k ≡ quotient bounds (inputs bounds a) (j + 1)
    → d ≡ degree_part (j + 1) ar (record {
      x = add binary32 (add binary32 (of_bits binary32 0) (mul binary32 w0.gc w0.dps)) (mul binary32 w1.gc w1.dps);
      y = of_bits binary32 0;
      z = add binary32 (add binary32 (of_bits binary32 0) (mul binary32 w0.gc w0.ps)) (mul binary32 w1.gc w1.ps);
    })
    → ◌≡◌ {A = Xyz} (record { x = d.x; y = mul binary32 (mul binary32 (mul binary32 ar w1.gs) k) s; z = d.z }) (pole_degree a j ar)
unfolding pole_degree degree_part parts_of pole_angle pole_gc pole_gs pole_x_row pole_z_row total inputs placed rounded bounds
pole_degree_is a j ar s k sin cos w0 w1 d esin ecos ew0 ew1 es ek ed =
    ap (λ (v : Xyz). record { x = v.x; y = mul binary32 (mul binary32 (mul binary32 ar w1.gs) k) s; z = v.z }) (ed ∙ part_is (j + 1) ar _)
    ∙ rw (ew0, ew1, esin, ecos, es, ek, abs_zero, abs_one, add-one j)
