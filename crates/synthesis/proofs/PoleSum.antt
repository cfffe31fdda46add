-- One more degree of the sum near the pole.
use mathlib.Core.Path.{◌≡◌, refl, sym, ap₂, ◌∙◌}
use Prim.Native.Nat.{ℕ, zero, suc, ◌+◌, ◌-◌, ◌<◌, ◌≤◌}
use native.Mathlib.Nat.{not-suc-le-zero}
use native.Mathlib.Omega.{arith}
use borrow.Author.Tests.{ne_eqb}
use lib.ListN.{get_or}
use lib.Ieee.{Float, nan, binary32, mul, of_bits}
use mathlib.Core.List.{List}
use Rattle.tables.specs.Tables.{schmidt_table}
use Rattle.tables.specs.Rule.{k_of}
use Rattle.tables.specs.Division.{k_divided}
use Rattle.tables.proofs.Factors.{k_whole, k_zero}
use Rattle.tables.specs.Degree.{M_LEN, N_LEGENDRE, place}
use Rattle.synthesis.specs.declared.rows.PDp.{PDp}
use Rattle.synthesis.specs.declared.near_pole.PoleRow.{PoleRow}
use Rattle.synthesis.specs.declared.date.Gh.{Gh}
use Rattle.synthesis.specs.declared.Xyz.{Xyz}
use Rattle.sums.specs.Arithmetic.{pair, rounded}
use Rattle.sums.specs.Recurrence.{Input, dpsn, legendre, lit, pole_angle, pole_east, pole_gc, pole_gs, pole_x, pole_x_row, pole_y, pole_z, pole_z_row, power, psn, quotient, total}
use Rattle.sums.specs.Paths.{POLE_ORDERS, placed}
use Rattle.synthesis.specs.declared.Colatitude.{Colatitude}
use Rattle.synthesis.specs.declared.Longitude.{Longitude}
use Rattle.synthesis.specs.declared.date.Dated.{Dated}
use Rattle.synthesis.specs.Sum.{Lent, inputs, lent_at}
use Rattle.synthesis.specs.Code.{ListsOf, add_pole_degree, gh_at, near_pole, next_q, next_row, pdp, pole_parts, term_of}
use Rattle.exact.proofs.Wholes.{lit_one, lit_zero}
use Rattle.synthesis.proofs.GeneralSum.{g_read, h_read, s_place}
use Rattle.synthesis.proofs.PlaceSizes.{most}
use Rattle.synthesis.proofs.TurnedSign.{less_term}

-- what degree n hands on, and what the degree before it did; before degree 0 the recurrence reads 0
abbrev pub row : Input Float → ℕ → PoleRow
row i n = record { r0 = pdp (legendre rounded i n 0); r1 = pdp (legendre rounded i n 1); q = quotient rounded i n }

unfoldable pub row_before : Input Float → ℕ → PoleRow
row_before i zero = record { r0 = pdp (pair (lit 0) (lit 0)); r1 = pdp (pair (lit 0) (lit 0)); q = lit 1 }
row_before i (suc n) = row i n

-- a degree's parts of the sums, ar the power of the ratio
abbrev parts : Input Float → ℕ → Float → Xyz
parts i n ar = record { x = pole_x_row rounded i POLE_ORDERS n; y = pole_east rounded ar (pole_gs rounded i n 1) (quotient rounded i n) (i.S n 1); z = pole_z_row rounded i POLE_ORDERS n }

abbrev gh : Float → Float → Gh
gh x y = record { g = x; h = y }

next_row_lem : (i : Input Float) (n : ℕ) → next_row (suc n) (i.K (suc n) 0) (i.K (suc n) 1) i.cos_theta i.sin_theta (row i n) (row_before i n) ≡ row i (suc n)
unfolding next_row next_q row_before legendre quotient rounded
next_row_lem i zero = rw lit_one
next_row_lem i (suc n) =
    let n1 : suc (suc n) ≡ 1 → ⊥ = λ h. omega arith in
    simp (ne_eqb (suc (suc n)) 1 n1)

parts_are : (i : Input Float) (n : ℕ) (ar : Float) → pole_parts (row i n) (gh (i.g n 0) (i.h n 0)) (gh (i.g n 1) (i.h n 1)) (i.S n 0) (i.S n 1) (record { sin = i.sin_lambda; cos = i.cos_lambda }) ar ≡ parts i n ar
unfolding pole_parts term_of pole_x_row pole_z_row pole_gc pole_gs pole_angle psn dpsn total rounded
parts_are i n ar = rw (lit_zero, lit_one, less_term (lit 0), less_term)

more_degrees : (i : Input Float) (n : ℕ) → add_pole_degree (near_pole i n) (suc n) (power rounded i n) (parts i (suc n) (power rounded i n)) ≡ near_pole i (suc n)
unfolding add_pole_degree pole_x pole_y pole_z total rounded
more_degrees i n = refl

-- what is lent, as the code holds it
abbrev asked : Colatitude → Longitude → Float → Dated → Lent
asked c l ratio d = lent_at c l ratio d.offset d.lists

-- the coefficients of degree n and order m, from the lists
dates : (c : Colatitude) (l : Longitude) (ratio : Float) (d : Dated) (top n m j : ℕ) → ListsOf top d.lists → 0 < n → n ≤ top → m ≤ n → j ≡ place n m - 1
    → gh_at d j ≡ gh ((inputs rounded (asked c l ratio d)).g n m) ((inputs rounded (asked c l ratio d)).h n m)
dates c l ratio d top n m j L z hn hm e = let a = asked c l ratio d in ap₂ gh (g_read a top n m j L z hn hm e) (h_read a top n m j L z hn hm e)

-- ---- the factors of the orders 0 and 1
-- those of degree 1 are 0
pub first_k : (m : ℕ) → of_bits binary32 0 ≡ k_of 1 m
unfolding of_bits
first_k m = sym (k_zero 1 m (omega arith))

-- those of the degree after n
pub next_k_lem : (n : ℕ) → n < M_LEN → (k_divided (lit n) (of_bits binary32 0) ≡ k_of (n + 1) 0) × (k_divided (lit n) (of_bits binary32 0x3f800000) ≡ k_of (n + 1) 1)
next_k_lem n h = (rw lit_zero (k_whole n 0 (omega arith) (omega arith)), rw lit_one (k_whole n 1 (omega arith) (omega arith)))

-- ---- the loop's invariant: n degrees are done
pub record Outer (a : Lent) (n : ℕ) (prev1 prev2 : PoleRow) (ar : Float) (tot : Xyz) : Type 0 where
  pub prev1_is : prev1 ≡ row (inputs rounded a) n
  pub prev2_is : prev2 ≡ row_before (inputs rounded a) n
  pub ar_is : ar ≡ power rounded (inputs rounded a) n
  pub tot_is : tot ≡ near_pole (inputs rounded a) n

-- P(0, 0) is 1, and all else is 0
abbrev zero_pdp : PDp
zero_pdp = record { p = of_bits binary32 0; dp = of_bits binary32 0 }

pub start : (a : Lent)
    → Outer a 0 (record { r0 = record { p = of_bits binary32 0x3f800000; dp = of_bits binary32 0 }; r1 = zero_pdp; q = of_bits binary32 0x3f800000 }) (record { r0 = zero_pdp; r1 = zero_pdp; q = of_bits binary32 0x3f800000 })
    (mul binary32 (mul binary32 a.ratio a.ratio) a.ratio) (record { x = of_bits binary32 0; y = of_bits binary32 0; z = of_bits binary32 0 })
unfolding inputs placed power quotient legendre row_before rounded pole_x pole_y pole_z total
start a = record { prev1_is = rw (lit_zero, lit_one); prev2_is = rw (lit_zero, lit_one); ar_is = refl; tot_is = rw lit_zero }

-- the next degree; its order 0 stands at place j of the tables
next : (c : Colatitude) (l : Longitude) (ratio : Float) (d : Dated) (top n j : ℕ) (ss : List Float) (prev1 prev2 new : PoleRow) (ar : Float) (tot tot' v : Xyz)
    → ListsOf top d.lists → suc n ≤ top → j ≡ place (suc n) 0 → ss ≡ schmidt_table → Outer (asked c l ratio d) n prev1 prev2 ar tot
    → new ≡ next_row (suc n) (k_of (suc n) 0) (k_of (suc n) 1) c.cos c.sin prev1 prev2
    → v ≡ pole_parts new (gh_at d (j - 1)) (gh_at d j) (get_or ss j nan) (get_or ss (j + 1) nan) (record { sin = l.sin; cos = l.cos }) ar
    → tot' ≡ add_pole_degree tot (suc n) ar v
    → Outer (asked c l ratio d) (suc n) new prev1 (mul binary32 ar ratio) tot'
unfolding inputs placed power row_before rounded
next c l ratio d top n j ss prev1 prev2 new ar tot tot' v L ht ej es o en ev et =
    let i = inputs rounded (asked c l ratio d) in
    let z : 0 < suc n = omega arith in
    let hn : suc n < M_LEN = omega (arith, L.1) in
    let h1 : 1 ≤ suc n = omega arith in
    let p0 : (j ≡ place (suc n) 0) × (j < N_LEGENDRE) = (ej, omega (arith, most (suc n) hn)) in
    let p1 : (j + 1 ≡ place (suc n) 1) × (j + 1 < N_LEGENDRE) = (omega arith, omega (arith, most (suc n) hn)) in
    let er : new ≡ row i (suc n) = en ∙ rw (o.prev1_is, o.prev2_is) (next_row_lem i n) in
    let d0 = dates c l ratio d top (suc n) 0 (j - 1) L z ht (omega arith) (omega arith) in
    let d1 = dates c l ratio d top (suc n) 1 j L z ht h1 (omega arith) in
    let ep : v ≡ parts i (suc n) (power rounded i n) = ev ∙ rw (er, d0, d1, s_place ss j (suc n) 0 es p0, s_place ss (j + 1) (suc n) 1 es p1, o.ar_is) (parts_are i (suc n) (power rounded i n)) in
    record {
      prev1_is = er;
      prev2_is = o.prev1_is;
      ar_is = rw o.ar_is;
      tot_is = et ∙ rw (o.tot_is, o.ar_is, ep) (more_degrees i n);
    }

pub next_degree : (c : Colatitude) (l : Longitude) (ratio : Float) (d : Dated) (top n j : ℕ) (ss : List Float) (prev1 prev2 new : PoleRow) (ar : Float) (tot tot' v : Xyz)
    → 0 < n → ListsOf top d.lists → n ≤ top → j ≡ place n 0 → ss ≡ schmidt_table → Outer (asked c l ratio d) (n - 1) prev1 prev2 ar tot
    → new ≡ next_row n (k_of n 0) (k_of n 1) c.cos c.sin prev1 prev2
    → v ≡ pole_parts new (gh_at d (j - 1)) (gh_at d j) (get_or ss j nan) (get_or ss (j + 1) nan) (record { sin = l.sin; cos = l.cos }) ar
    → tot' ≡ add_pole_degree tot n ar v
    → Outer (asked c l ratio d) (n + 1 - 1) new prev1 (mul binary32 ar ratio) tot'
next_degree c l ratio d top zero j ss prev1 prev2 new ar tot tot' v z L hn ej es o en ev et = absurd (not-suc-le-zero z)
next_degree c l ratio d top (suc n) j ss prev1 prev2 new ar tot tot' v z L hn ej es o en ev et =
    let u : suc n + 1 - 1 ≡ suc n = omega arith in
    let w : suc n - 1 ≡ n = omega arith in
    rw u (next c l ratio d top n j ss prev1 prev2 new ar tot tot' v L hn ej es (rw w at o) en ev et)
