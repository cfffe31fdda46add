-- What a caller in another language is told of an answer: one number, and what the places hold that it lent for results. Definitions only.
use Rattle.std.specs.Prelude.{◌||◌, cond, List, [], ◌∷◌, ℕ, eqb, ℤ, pos, nat_abs, get_or, Float, Option, Some, None}
use Rattle.refusals.specs.Paper.{Paper, Verdict, answered, refused, after, told}
use Rattle.trig.specs.declared.Pair.{Pair}
use Rattle.models.specs.declared.epochs.EpochOffset.{EpochOffset}
use Rattle.synthesis.specs.declared.Xyz.{Xyz}
use Rattle.strengths.specs.declared.GeomagneticField.{GeomagneticField}
use Rattle.strengths.specs.declared.WarningZone.{WarningZone}
use Rattle.strengths.specs.declared.WarningZone.TheVariants.{Blackout, Caution}
use Rattle.stored.specs.Stored.{entries_in, says_of, stored_says}
use Rattle.field.specs.Field.{asked, field_says}
use Rattle.rates.specs.declared.YearlyRates.{YearlyRates}
use Rattle.allowance.specs.declared.Allowances.{Allowances}

-- ---- of any answer
-- the number that is returned: 0 for an answer, and a refusal's own
abbrev pub number_of : {A : Type 0} → Paper A → ℕ
number_of (answered a) = 0
number_of (refused n f z) = n

-- a result's place: the answer, as w writes it; where there is none it keeps what it held
abbrev pub result_place : {A B : Type 0} → (A → B) → B → Paper A → B
result_place w held (answered a) = w a
result_place w held (refused n f z) = held

-- the place for refusal 7's list and index
abbrev pub entry_place : {A : Type 0} → List ℕ → Paper A → List ℕ
entry_place held (answered a) = held
entry_place held (refused n f z) = cond (eqb n 7) (nat_abs (get_or z 0 (pos 0)) ∷ nat_abs (get_or z 1 (pos 0)) ∷ []) held

-- the place for refusal 8's two years, the day's and the set's
abbrev pub years_place : {A : Type 0} → List ℤ → Paper A → List ℤ
years_place held (answered a) = held
years_place held (refused n f z) = cond (eqb n 8) z held

-- the place for where a reader stopped: the line of refusals 13 and 14, the place in the bytes of 17, 18 and 19
abbrev pub where_place : {A : Type 0} → ℕ → Paper A → ℕ
where_place held (answered a) = held
where_place held (refused n f z) = cond (eqb n 13 || eqb n 14 || eqb n 17 || eqb n 18 || eqb n 19) (nat_abs (get_or z 0 (pos 0))) held

-- ---- of a call that says only whether something is refused: 0 where nothing is
abbrev pub verdict_number : Verdict → ℕ
verdict_number v = number_of {A = ℕ} (told v (answered 0))

abbrev pub verdict_entry : List ℕ → Verdict → List ℕ
verdict_entry held v = entry_place {A = ℕ} held (told v (answered 0))

-- ---- Field of a stored set
-- what the reader refuses, then what Field says of the set that is read
unfoldable pub stored_field : List ℕ → (height sin_phi cos_phi sin_lambda cos_lambda : Float) → (year day : ℤ) → Paper GeomagneticField
stored_field s height sp cp sl cl year day =
    after (stored_says s) (λ m. field_says (asked height sp cp sl cl m.year m.lists.g m.lists.h m.lists.g_dot m.lists.h_dot) year day)

-- the same of bytes of either form
unfoldable pub either_field : List ℕ → (height sin_phi cos_phi sin_lambda cos_lambda : Float) → (year day : ℤ) → Paper GeomagneticField
either_field s height sp cp sl cl year day =
    after (says_of (entries_in s) s) (λ m. field_says (asked height sp cp sl cl m.year m.lists.g m.lists.h m.lists.g_dot m.lists.h_dot) year day)

-- ---- how each answer is written
-- X', Y and Z', in this order
abbrev pub sum_floats : Xyz → List Float
sum_floats v = v.x ∷ v.y ∷ v.z ∷ []

-- of the IGRF profile X, Y and Z, in this order
abbrev pub xyz_floats : Xyz → List Float
xyz_floats v = v.x ∷ v.y ∷ v.z ∷ []

-- X, Y and Z, in this order
abbrev pub field_floats : GeomagneticField → List Float
field_floats v = v.x ∷ v.y ∷ v.z ∷ []

-- the allowances of X, Y and Z, in this order
abbrev pub allowance_floats : Allowances → List Float
allowance_floats v = v.x ∷ v.y ∷ v.z ∷ []

-- the rates, in the record's order
abbrev pub rate_floats : YearlyRates → List Float
rate_floats v = v.x ∷ v.y ∷ v.z ∷ v.declination ∷ v.inclination ∷ v.h ∷ v.f ∷ []

-- the error figures, in the record's order
abbrev pub error_floats : GeomagneticField → List Float
error_floats v =
    let e = v.error in
    e.declination_sigma_c ∷ e.declination_sigma_v ∷ e.inclination ∷ e.f ∷ e.h ∷ e.x ∷ e.y ∷ e.z ∷ []

-- a zone: 0 none, 1 blackout, 2 caution
abbrev pub zone_number : Option WarningZone → ℕ
zone_number (Some Blackout) = 1
zone_number (Some Caution) = 2
zone_number None = 0

-- an epoch's year and its offset
abbrev pub year_of : EpochOffset → ℤ
year_of e = e.epoch_year

abbrev pub offset_of : EpochOffset → Float
offset_of e = e.offset

-- the two of a pair
abbrev pub sine_of : Pair → Float
sine_of p = p.sine

abbrev pub cosine_of : Pair → Float
cosine_of p = p.cosine

-- a strength or a direction, as it is
abbrev pub itself : Float → Float
itself x = x

-- a year, as it is
abbrev pub whole : ℤ → ℤ
whole y = y

-- ---- grid variation: whether there is one, and the place for it, which keeps what it held where there is none
abbrev pub is_given : Option Float → ℕ
is_given (Some x) = 1
is_given None = 0

abbrev pub variation_place : Float → Paper (Option Float) → Float
variation_place held (answered (Some x)) = x
variation_place held (answered None) = held
variation_place held (refused n f z) = held
