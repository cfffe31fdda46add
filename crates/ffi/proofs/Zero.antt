-- What a returned 0 means for the IGRF profile: what is promised of its answer holds of what is written. Assumes nothing.
use mathlib.Core.Path.{◌≡◌, refl, sym, ◌∙◌}
use mathlib.Core.List.{List}
use Prim.Native.Nat.{ℕ}
use lib.Ieee.{Float}
use Rattle.std.specs.Prelude.{Ok, Err, IfOk, Result}
use Rattle.refusals.specs.declared.Refusal.{Refusal}
use Rattle.refusals.specs.Paper.{said}
use Rattle.refusals.proofs.Laws.{not_zero}
use Rattle.synthesis.specs.declared.Xyz.{Xyz}
use Rattle.rates.specs.declared.YearlyRates.{YearlyRates}
use Rattle.allowance.specs.declared.Allowances.{Allowances}
use Rattle.ffi.specs.Told.{allowance_floats, number_of, result_place, rate_floats, xyz_floats}

-- a call gives the result r and promises P of an answer; n is the number that is told of it, and x what the place holds, as w writes it. Where n is 0, x is an answer with P
abbrev pub Meant : {A : Type 0} → (A → List Float) → Type 1
Meant {A} w =
    (r : Result A Refusal) (P : A → Type 0) → IfOk r P → (n : ℕ) → n ≡ number_of (said r) → (held x : List Float) → x ≡ result_place w held (said r) → n ≡ 0 → (v : A) × (x ≡ w v) × P v

-- no refusal has the number 0
pub where_zero : {A : Type 0} (w : A → List Float) → Meant w
where_zero w (Ok v) P h n e held x f z = (v, f, h)
where_zero w (Err k) P h n e held x f z = absurd (not_zero k (sym e ∙ z))

of_result : {A : Type 0} (r : Result A Refusal) → 0 ≡ number_of (said r) → (v : A) × (r ≡ Ok v)
of_result (Ok v) e = (v, refl)
of_result (Err k) e = absurd (not_zero k (sym e))

-- so of each answer of the profile
of_igrf : (r : Result Xyz Refusal) → 0 ≡ number_of (said r) → (v : Xyz) × (r ≡ Ok v)
of_igrf = of_result

of_rates : (r : Result YearlyRates Refusal) → 0 ≡ number_of (said r) → (v : YearlyRates) × (r ≡ Ok v)
of_rates = of_result

of_allowance : (r : Result Allowances Refusal) → 0 ≡ number_of (said r) → (v : Allowances) × (r ≡ Ok v)
of_allowance = of_result

pub igrf_where_zero : Meant xyz_floats
igrf_where_zero = where_zero xyz_floats

pub rates_where_zero : Meant rate_floats
rates_where_zero = where_zero rate_floats

pub allowance_where_zero : Meant allowance_floats
allowance_where_zero = where_zero allowance_floats
