-- Declination and inclination: within 2 ^ -15 degree of the exact angle, and exact at the ends. Assumes nothing.
use mathlib.Core.Path.{◌≡◌, refl, sym, ap, ◌∙◌, subst}
use Prim.Native.Nat.{ℕ, ◌*◌}
use mathlib.Core.Bool.{Bool, true, false}
use native.Mathlib.Omega.{arith}
use borrow.Author.Tests.{le-ltb}
use lib.Dec.{T}
use lib.IntN.{ℤ}
use lib.Ieee.{Float, nan, inf, fin, binary32, of_bits, fits, lt, up, down}
use Rattle.exact.specs.Exact.{units_of}
use Rattle.exact.specs.Tests.{capped}
use Rattle.refusals.specs.Paper.{answered, paper, said, unless}
use Rattle.refusals.specs.declared.Refusal.{Refusal}
use Rattle.refusals.specs.declared.Refusal.TheVariants.{Unusable}
use Rattle.std.specs.Prelude.{Result}
use Rattle.refusals.proofs.Laws.{passed, answered_one}
use Rattle.roots.specs.Root.{clear}
use Rattle.direction.specs.Arc.{coarse, Quadrant, Pointed}
use Rattle.direction.specs.Direction.{direction_of}
use Rattle.direction.proofs.Laws.{said_points}
use Rattle.strengths.specs.declared.GeomagneticField.{GeomagneticField}
use Rattle.strengths.specs.Strengths.{max_component, usable, h_of, strength_says}
use Rattle.strengths.specs.Angles.{declination_says, declination_of, inclination_of, AngleOf}
use Rattle.strengths.proofs.StrengthSizes.{h_finite, h_clear, component_finite, components_finite}

-- ---- of two components
answered_both : (x y d : Float) → declination_says x y ≡ answered d → T (capped max_component x) × T (capped max_component y) × (direction_of x y ≡ d)
unfolding declination_says
answered_both x y d e =
    let p = passed (capped max_component x) Unusable (unless (capped max_component y) (paper Unusable) (answered (direction_of x y))) d e in
    let q = passed (capped max_component y) Unusable (answered (direction_of x y)) d p.1 in
    (subst T (sym p.0) tt, subst T (sym q.0) tt, answered_one (direction_of x y) d q.1)

pub declination_near : (x y : Float) (r : Result Float Refusal) → fits binary32 y ≡ true → said r ≡ declination_says x y → (said r ≡ declination_says x y) × AngleOf x y r
declination_near x y r h e = (e, λ d m z. let q = answered_both x y d (sym e ∙ ap said m) in said_points x y d (subst T (sym h) tt) (sym q.2) (component_finite x q.0) (component_finite y q.1) z)

-- the ways of `declination`
pub x_refused : (x y : Float) → capped max_component x ≡ false → paper Unusable ≡ declination_says x y
unfolding declination_says
x_refused x y h = rw h

pub y_refused : (x y : Float) → capped max_component x ≡ true → capped max_component y ≡ false → paper Unusable ≡ declination_says x y
unfolding declination_says
y_refused x y h k = rw (h, k)

pub declined : (x y d : Float) → capped max_component x ≡ true → capped max_component y ≡ true → d ≡ direction_of x y → answered d ≡ declination_says x y
unfolding declination_says
declined x y d h k e = rw (h, k, e)

-- ---- of a record
answered_one_of : (v : GeomagneticField) (a d : Float) → strength_says v a ≡ answered d → (usable v ≡ true) × (a ≡ d)
unfolding strength_says
answered_one_of v a d e = let p = passed (usable v) Unusable (answered a) d e in (p.0, answered_one a d p.1)

pub field_declination_near : (v : GeomagneticField) (r : Result Float Refusal) → fits binary32 v.y ≡ true → said r ≡ strength_says v (declination_of v) → (said r ≡ strength_says v (declination_of v)) × AngleOf v.x v.y r
unfolding declination_of
field_declination_near v r h e =
    (e, λ d m z. let q = answered_one_of v (direction_of v.x v.y) d (sym e ∙ ap said m) in let f = components_finite v q.0 in said_points v.x v.y d (subst T (sym h) tt) (sym q.1) f.0 f.1 z)

pub inclination_near : (v : GeomagneticField) (r : Result Float Refusal) → fits binary32 v.z ≡ true → said r ≡ strength_says v (inclination_of v) → (said r ≡ strength_says v (inclination_of v)) × AngleOf (h_of v) v.z r
unfolding inclination_of
inclination_near v r h e =
    (e, λ d m z. let q = answered_one_of v (direction_of (h_of v) v.z) d (sym e ∙ ap said m) in said_points (h_of v) v.z d (subst T (sym h) tt) (sym q.1) (h_finite v q.0) (components_finite v q.0).2 z)

-- H is not below zero: so the inclination is the angle of (H, Z) from 0 to 90 degrees, with the sign of Z
clear_above : (x : Float) → T (clear x) → lt x (of_bits binary32 0) ≡ false
unfolding clear lt of_bits
clear_above nan c = refl
clear_above (inf true) c = absurd c
clear_above (inf false) c = refl
clear_above (fin true m e) c = absurd c
clear_above (fin false m e) c = le-ltb (m * up e * 1) (0 * down e) (omega arith)

pub inclined : (v : GeomagneticField) (s : Bool) (m : ℕ) (e : ℤ) → usable v ≡ true → Pointed (h_of v) v.z (fin s m e) → (s ≡ lt v.z (of_bits binary32 0)) × Quadrant coarse (units_of (h_of v)) (units_of v.z) (m * up e) (down e)
inclined v s m e u p = (p.0, rw (clear_above (h_of v) (h_clear v u)) at p.1)
