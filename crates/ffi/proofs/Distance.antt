-- What a returned 0 means: there is an answer. So Field's promised distance holds of what `njerumoy_field`, `njerumoy_field_in_degrees`, `njerumoy_field_stored`, `njerumoy_field_stored_either` and `njerumoy_field_listed` have written, and that of the rates of what `njerumoy_rates` has. Assumes nothing.
use Rattle.refusals.specs.Paper.{Verdict, Paper, answered, refused, paper, unless, after, told}
use Rattle.std.specs.Prelude.{Ok, Err}
use mathlib.Core.Path.{◌≡◌, refl, sym, ap, ◌∙◌}
use mathlib.Core.Bool.{Bool, true, false, not, cond}
use mathlib.Core.List.{List, [], ◌∷◌}
use Prim.Native.Nat.{ℕ}
use native.Mathlib.Omega.{arith}
use lib.IntN.{ℤ}
use lib.Ieee.{Float}
use seplogic.Ra.Ura.{Ura}
use base.Logic.{SProp, ent}
use prog.Memory.{Memory}
use prog.Routine.{Routine}
use types.Logic.{Logic}
use contract.Monad.{Fun, fact}
use contract.Lifetimes.{Lfts}
use denote.Ref.{Bor}
use denote.MutBor.{MutBor}
use denote.Triple.Entry.{Args}
use denote.Triple.Clauses.{at_exit}
use borrow.Fn.Kinds.{Dens, ended_of}
use Rattle.refusals.specs.declared.Refusal.{Refusal}
use Rattle.refusals.specs.declared.Refusal.TheVariants.{DayOfYear, OtherEpoch, Unusable, NoErrorRecord, Angle, ZeroDivisor}
use Rattle.refusals.proofs.Laws.{not_zero}
use Rattle.refusals.proofs.Clauses.{says_first}
use Rattle.models.specs.declared.errors.WmmErrorModel.{WmmErrorModel}
use Rattle.models.specs.declared.records.ErrorRecord.{ErrorRecord}
use Rattle.models.specs.Epochs.{unknown_epoch, day_exists, epoch_year_of, same_year, known_epoch, epoch_offset, epoch_says}
use Rattle.models.specs.Records.{figures_ok, figures_says, listed_errors}
use Rattle.models.specs.Errors.{built_in, error_says}
use Rattle.lists.specs.Lists.{lists_verdict}
use Rattle.lists.specs.Sets.{ModelSet}
use Rattle.stored.specs.Stored.{entries_in, says_of, stored_says, stored_verdict, verdict_of}
use Rattle.trig.specs.declared.Pair.{Pair}
use Rattle.trig.specs.Fixed.{accepted, sine_says}
use Rattle.strengths.specs.declared.GeomagneticField.{GeomagneticField}
use Rattle.field.specs.Field.{Asked, asked, shown_says, dated_says, components_says, field_with, field_says, listed_field, FieldClose}
use Rattle.field.proofs.Answers.{field_close, answer_close, of_place}
use Rattle.degrees.specs.Degrees.{Place, place, paired, degrees_says}
use Rattle.rates.specs.declared.YearlyRates.{YearlyRates}
use Rattle.rates.specs.Rates.{AllFinite, RatesClose, rates_says, rates_with, zero_divisor}
use Rattle.rates.proofs.Answers as rate_answers
use Rattle.rates.proofs.Laws.{all_finite}
use Rattle.ffi.specs.Told.{number_of, result_place, field_floats, error_floats, rate_floats, stored_field, either_field}
use Rattle.ffi.proofs.yearly.njerumoy_rates.Kinds as rates_kinds
use Rattle.ffi.proofs.yearly.njerumoy_rates.Reads as rates_reads
use Rattle.ffi.proofs.fields.njerumoy_field.Kinds as kinds
use Rattle.ffi.proofs.fields.njerumoy_field.Reads as reads
use Rattle.ffi.proofs.fields.njerumoy_field_in_degrees.Kinds as degrees_kinds
use Rattle.ffi.proofs.fields.njerumoy_field_in_degrees.Reads as degrees_reads
use Rattle.ffi.proofs.sets.njerumoy_field_stored.Kinds as stored_kinds
use Rattle.ffi.proofs.sets.njerumoy_field_stored.Reads as stored_reads
use Rattle.ffi.proofs.forms.njerumoy_field_stored_either.Kinds as either_kinds
use Rattle.ffi.proofs.forms.njerumoy_field_stored_either.Reads as either_reads
use Rattle.ffi.specs.contracts.listed.njerumoy_field_listed as listed

-- ---- no refusal has the number 0
-- where the number of p is 0, p is an answer
abbrev Answers : {A : Type 0} → Paper A → Type 0
Answers {A} p = 0 ≡ number_of p → (a : A) × (p ≡ answered a)

answers : {A : Type 0} (a : A) → Answers (answered a)
answers a e = (a, refl)

module _ {A : Type 0} where
  behind_test : (b : Bool) (k : Refusal) (p : Paper A) → Answers p → Answers (unless b (paper k) p)
  behind_test true k p h = h
  behind_test false k p h = λ e. absurd (not_zero k (sym e))

  behind_verdict : (u : Verdict) (p : Paper A) → Answers p → Answers (told u p)
  behind_verdict (Ok _) p h = h
  behind_verdict (Err k) p h = λ e. absurd (not_zero k (sym e))

not_refused : {A : Type 0} (n : ℕ) (x : List Float) (z : List ℤ) → Answers {A = A} (refused n x z) → 0 ≡ n → ⊥
not_refused n x z h e = let q = h e in let o : ◌≡◌ {A = ℕ} 0 1 = cc in omega arith

behind_answer : {A B : Type 0} (p : Paper A) (f : A → Paper B) → Answers p → ((a : A) → Answers (f a)) → Answers (after p f)
behind_answer (answered a) f h t = t a
behind_answer (refused n x z) f h t = λ e. absurd (not_refused n x z h e)

-- what is said behind two answers, and the two
behind_two : {A B C : Type 0} (p : Paper A) (q : Paper B) (f : A → B → Paper C) → Answers p → Answers q → ((a : A) (b : B) → Answers (f a b)) → 0 ≡ number_of (after p (λ a. after q (f a)))
    → (a : A) × (b : B) × (c : C) × (p ≡ answered a) × (q ≡ answered b) × (after p (λ a. after q (f a)) ≡ answered c) × (f a b ≡ answered c)
behind_two (answered a) (answered b) f h k t e = let r = t a b e in (a, b, r.0, refl, refl, r.1, r.1)
behind_two (answered a) (refused n x z) f h k t e = absurd (not_refused n x z k e)
behind_two (refused n x z) q f h k t e = absurd (not_refused n x z h e)

behind_choice : {A : Type 0} (b : Bool) (p q : Paper A) → Answers p → Answers q → Answers (cond b p q)
behind_choice true p q h k = h
behind_choice false p q h k = k

-- the figures of a list
listed_answers : (rs : List ErrorRecord) (year : ℤ) → Answers (listed_errors rs year)
unfolding listed_errors figures_says
listed_answers [] year = λ e. absurd (not_zero NoErrorRecord (sym e))
listed_answers (r ∷ rs) year = behind_choice (same_year year r.epoch_year) _ _ (behind_test (figures_ok r.figures) Unusable _ (answers r.figures)) (listed_answers rs year)

error_answers : (year : ℤ) → Answers (error_says year)
unfolding error_says
error_answers year = behind_test (known_epoch year) unknown_epoch _ (listed_answers built_in year)

components_answer : (a : Asked) (year day : ℤ) → Answers (components_says a year day)
unfolding components_says dated_says shown_says epoch_says
components_answer a year day =
    behind_verdict (of_place a) _
    (behind_answer (epoch_says year day) (dated_says a)
    (behind_test (day_exists year day) DayOfYear _ (behind_test (known_epoch (epoch_year_of year)) unknown_epoch _ (answers _)))
    (λ e. behind_test (known_epoch a.set_epoch) unknown_epoch _
    (behind_verdict (lists_verdict a.g a.h a.g_dot a.h_dot) _ (behind_test (same_year a.set_epoch e.epoch_year) (OtherEpoch _ _) _ (answers _)))))

-- Field, with any figures
field_with_answers : (figures : Paper WmmErrorModel) → Answers figures → (a : Asked) (year day : ℤ) → Answers (field_with figures a year day)
unfolding field_with
field_with_answers figures h a year day = behind_answer (components_says a year day) _ (components_answer a year day) (λ v. behind_answer figures _ h (λ m. answers _))

field_answers : (a : Asked) (year day : ℤ) → Answers (field_says a year day)
unfolding field_says
field_answers a year day = field_with_answers (error_says (epoch_year_of year)) (error_answers (epoch_year_of year)) a year day

listed_field_answers : (rs : List ErrorRecord) (a : Asked) (year day : ℤ) → Answers (listed_field rs a year day)
unfolding listed_field
listed_field_answers rs a year day = field_with_answers (listed_errors rs (epoch_year_of year)) (listed_answers rs (epoch_year_of year)) a year day

pair_answers : (x : Float) → Answers (sine_says x)
unfolding sine_says
pair_answers x = behind_test (accepted x) Angle _ (answers _)

-- Field in degrees: where its number is 0, there are the two pairs and what Field says of them
degrees_answers : (a : Place) (year day : ℤ) → 0 ≡ number_of (degrees_says a year day)
    → (p : Pair) × (q : Pair) × (v : GeomagneticField) × (sine_says a.latitude ≡ answered p) × (sine_says a.longitude ≡ answered q) × (degrees_says a year day ≡ answered v) × (field_says (paired a p q) year day ≡ answered v)
unfolding degrees_says
degrees_answers a year day = behind_two (sine_says a.latitude) (sine_says a.longitude) (λ p q. field_says (paired a p q) year day) (pair_answers a.latitude) (pair_answers a.longitude) (λ p q. field_answers (paired a p q) year day)

-- what is said behind an answer, and that answer
behind_one : {A C : Type 0} (p : Paper A) (f : A → Paper C) → Answers p → ((a : A) → Answers (f a)) → 0 ≡ number_of (after p f) → (a : A) × (c : C) × (p ≡ answered a) × (after p f ≡ answered c) × (f a ≡ answered c)
behind_one (answered a) f h t e = let r = t a e in (a, r.0, refl, r.1, r.1)
behind_one (refused n x z) f h t e = absurd (not_refused n x z h e)

stored_answers : (s : List ℕ) → Answers (stored_says s)
unfolding stored_says
stored_answers s = behind_verdict (stored_verdict s) _ (answers _)

-- what Field is asked, with the set that is read
abbrev pub with_set : (height sin_phi cos_phi sin_lambda cos_lambda : Float) → ModelSet → Asked
with_set height sp cp sl cl m = asked height sp cp sl cl m.year m.lists.g m.lists.h m.lists.g_dot m.lists.h_dot

-- Field of a stored set: where its number is 0, there is the set that was read and what Field says of it
stored_field_answers : (s : List ℕ) (height sp cp sl cl : Float) (year day : ℤ) → 0 ≡ number_of (stored_field s height sp cp sl cl year day)
    → (m : ModelSet) × (v : GeomagneticField) × (stored_says s ≡ answered m) × (stored_field s height sp cp sl cl year day ≡ answered v) × (field_says (with_set height sp cp sl cl m) year day ≡ answered v)
unfolding stored_field
stored_field_answers s height sp cp sl cl year day = behind_one (stored_says s) (λ m. field_says (with_set height sp cp sl cl m) year day) (stored_answers s) (λ m. field_answers (with_set height sp cp sl cl m) year day)

-- the same of bytes of either form
either_answers : (s : List ℕ) → Answers (says_of (entries_in s) s)
unfolding says_of
either_answers s = behind_verdict (verdict_of (entries_in s) s) _ (answers _)

either_field_answers : (s : List ℕ) (height sp cp sl cl : Float) (year day : ℤ) → 0 ≡ number_of (either_field s height sp cp sl cl year day)
    → (m : ModelSet) × (v : GeomagneticField) × (says_of (entries_in s) s ≡ answered m) × (either_field s height sp cp sl cl year day ≡ answered v) × (field_says (with_set height sp cp sl cl m) year day ≡ answered v)
unfolding either_field
either_field_answers s height sp cp sl cl year day = behind_one (says_of (entries_in s) s) (λ m. field_says (with_set height sp cp sl cl m) year day) (either_answers s) (λ m. field_answers (with_set height sp cp sl cl m) year day)

-- ---- the entries
-- whatever is passed: if it returns 0, what it has written are the floats of one record, whose X, Y and Z lie within the promised distance
pub njerumoy_field_distance : (κs : Lfts 8) (height sin_phi cos_phi sin_lambda cos_lambda : Float) (year day epoch_year : ℤ) (g h g_dot h_dot : Bor (List Float)) (xyz errors : MutBor (List Float)) (entry : MutBor (List ℕ)) (years : MutBor (List ℤ))
    (xyz' errors' : List Float) (entry' : List ℕ) (years' : List ℤ)
    → (let a : Dens κs kinds.ps = (height, (sin_phi, (cos_phi, (sin_lambda, (cos_lambda, (year, (day, (epoch_year, (g, (h, (g_dot, (h_dot, (xyz, (errors, (entry, (years, tt)))))))))))))))) in
    reads.Post κs a 0 (at_exit (ended_of 8 kinds.ps kinds.r) κs a (tt, (tt, (tt, (tt, (tt, (tt, (tt, (tt, (tt, (tt, (tt, (tt, (xyz', (errors', (entry', (years', tt))))))))))))))))))
    → (v : GeomagneticField) × (xyz' ≡ field_floats v) × (errors' ≡ error_floats v) × FieldClose (asked height sin_phi cos_phi sin_lambda cos_lambda epoch_year g.now h.now g_dot.now h_dot.now) (epoch_offset year day) v
njerumoy_field_distance κs height sin_phi cos_phi sin_lambda cos_lambda year day epoch_year g h g_dot h_dot xyz errors entry years xyz' errors' entry' years' c =
    let a : Asked = asked height sin_phi cos_phi sin_lambda cos_lambda epoch_year g.now h.now g_dot.now h_dot.now in
    let q = field_answers a year day c.0.0 in
    let v = q.0 in
    (v, c.0.1 ∙ ap (result_place field_floats _) q.1, c.0.2 ∙ ap (result_place error_floats _) q.1, field_close a year day (Ok v) (sym q.1) v refl)

-- the same of the yearly rates, of the exact rates; and each of the seven is finite
rates_answer : (a : Asked) (year day : ℤ) → Answers (rates_says a year day)
unfolding rates_says rates_with
rates_answer a year day = behind_answer (field_says a year day) _ (field_answers a year day) (λ v. behind_test (not (zero_divisor v)) ZeroDivisor _ (answers _))

pub njerumoy_rates_distance : (κs : Lfts 7) (height sin_phi cos_phi sin_lambda cos_lambda : Float) (year day epoch_year : ℤ) (g h g_dot h_dot : Bor (List Float)) (rates : MutBor (List Float)) (entry : MutBor (List ℕ)) (years : MutBor (List ℤ))
    (rates' : List Float) (entry' : List ℕ) (years' : List ℤ)
    → (let a : Dens κs rates_kinds.ps = (height, (sin_phi, (cos_phi, (sin_lambda, (cos_lambda, (year, (day, (epoch_year, (g, (h, (g_dot, (h_dot, (rates, (entry, (years, tt))))))))))))))) in
    rates_reads.Post κs a 0 (at_exit (ended_of 7 rates_kinds.ps rates_kinds.r) κs a (tt, (tt, (tt, (tt, (tt, (tt, (tt, (tt, (tt, (tt, (tt, (tt, (rates', (entry', (years', tt)))))))))))))))))
    → (v : YearlyRates) × (rates' ≡ rate_floats v) × RatesClose (asked height sin_phi cos_phi sin_lambda cos_lambda epoch_year g.now h.now g_dot.now h_dot.now) v × AllFinite v
njerumoy_rates_distance κs height sin_phi cos_phi sin_lambda cos_lambda year day epoch_year g h g_dot h_dot rates entry years rates' entry' years' c =
    let a : Asked = asked height sin_phi cos_phi sin_lambda cos_lambda epoch_year g.now h.now g_dot.now h_dot.now in
    let q = rates_answer a year day c.0.0 in
    let v = q.0 in
    (v, c.0.1 ∙ ap (result_place rate_floats _) q.1, rate_answers.answer_close a year day (Ok v) (sym q.1) v refl, all_finite a year day v q.1)

-- the same of the entry in degrees, of the exact field of the pairs that are made of the two angles
pub njerumoy_field_in_degrees_distance : (κs : Lfts 8) (height latitude longitude : Float) (year day epoch_year : ℤ) (g h g_dot h_dot : Bor (List Float)) (xyz errors : MutBor (List Float)) (entry : MutBor (List ℕ)) (years : MutBor (List ℤ))
    (xyz' errors' : List Float) (entry' : List ℕ) (years' : List ℤ)
    → (let a : Dens κs degrees_kinds.ps = (height, (latitude, (longitude, (year, (day, (epoch_year, (g, (h, (g_dot, (h_dot, (xyz, (errors, (entry, (years, tt)))))))))))))) in
    degrees_reads.Post κs a 0 (at_exit (ended_of 8 degrees_kinds.ps degrees_kinds.r) κs a (tt, (tt, (tt, (tt, (tt, (tt, (tt, (tt, (tt, (tt, (xyz', (errors', (entry', (years', tt))))))))))))))))
    → (p : Pair) × (q : Pair) × (v : GeomagneticField) × (sine_says latitude ≡ answered p) × (sine_says longitude ≡ answered q) × (xyz' ≡ field_floats v) × (errors' ≡ error_floats v)
    × FieldClose (paired (place height latitude longitude epoch_year g.now h.now g_dot.now h_dot.now) p q) (epoch_offset year day) v
njerumoy_field_in_degrees_distance κs height latitude longitude year day epoch_year g h g_dot h_dot xyz errors entry years xyz' errors' entry' years' c =
    let a : Place = place height latitude longitude epoch_year g.now h.now g_dot.now h_dot.now in
    let r = degrees_answers a year day c.0.0 in
    let v = r.2 in
    (r.0, r.1, v, r.3, r.4, c.0.1 ∙ ap (result_place field_floats _) r.5, c.0.2 ∙ ap (result_place error_floats _) r.5, field_close (paired a r.0 r.1) year day (Ok v) (sym r.6) v refl)

-- the same of the entry with a stored set, of the set that is read
pub njerumoy_field_stored_distance : (κs : Lfts 6) (stored : Bor (List ℕ)) (height sin_phi cos_phi sin_lambda cos_lambda : Float) (year day : ℤ) (xyz errors : MutBor (List Float)) (entry : MutBor (List ℕ)) (years : MutBor (List ℤ)) (place : MutBor ℕ)
    (xyz' errors' : List Float) (entry' : List ℕ) (years' : List ℤ) (place' : ℕ)
    → (let a : Dens κs stored_kinds.ps = (stored, (height, (sin_phi, (cos_phi, (sin_lambda, (cos_lambda, (year, (day, (xyz, (errors, (entry, (years, (place, tt))))))))))))) in
    stored_reads.Post κs a 0 (at_exit (ended_of 6 stored_kinds.ps stored_kinds.r) κs a (tt, (tt, (tt, (tt, (tt, (tt, (tt, (tt, (xyz', (errors', (entry', (years', (place', tt)))))))))))))))
    → (m : ModelSet) × (v : GeomagneticField) × (stored_says stored.now ≡ answered m) × (xyz' ≡ field_floats v) × (errors' ≡ error_floats v) × FieldClose (with_set height sin_phi cos_phi sin_lambda cos_lambda m) (epoch_offset year day) v
njerumoy_field_stored_distance κs stored height sin_phi cos_phi sin_lambda cos_lambda year day xyz errors entry years place xyz' errors' entry' years' place' c =
    let r = stored_field_answers stored.now height sin_phi cos_phi sin_lambda cos_lambda year day c.0.0 in
    let v = r.1 in
    (r.0, v, r.2, c.0.1 ∙ ap (result_place field_floats _) r.3, c.0.2 ∙ ap (result_place error_floats _) r.3, field_close (with_set height sin_phi cos_phi sin_lambda cos_lambda r.0) year day (Ok v) (sym r.4) v refl)

-- the same of the entry with a stored set of either form
pub njerumoy_field_stored_either_distance : (κs : Lfts 6) (stored : Bor (List ℕ)) (height sin_phi cos_phi sin_lambda cos_lambda : Float) (year day : ℤ) (xyz errors : MutBor (List Float)) (entry : MutBor (List ℕ)) (years : MutBor (List ℤ)) (place : MutBor ℕ)
    (xyz' errors' : List Float) (entry' : List ℕ) (years' : List ℤ) (place' : ℕ)
    → (let a : Dens κs either_kinds.ps = (stored, (height, (sin_phi, (cos_phi, (sin_lambda, (cos_lambda, (year, (day, (xyz, (errors, (entry, (years, (place, tt))))))))))))) in
    either_reads.Post κs a 0 (at_exit (ended_of 6 either_kinds.ps either_kinds.r) κs a (tt, (tt, (tt, (tt, (tt, (tt, (tt, (tt, (xyz', (errors', (entry', (years', (place', tt)))))))))))))))
    → (m : ModelSet) × (v : GeomagneticField) × (says_of (entries_in stored.now) stored.now ≡ answered m) × (xyz' ≡ field_floats v) × (errors' ≡ error_floats v) × FieldClose (with_set height sin_phi cos_phi sin_lambda cos_lambda m) (epoch_offset year day) v
njerumoy_field_stored_either_distance κs stored height sin_phi cos_phi sin_lambda cos_lambda year day xyz errors entry years place xyz' errors' entry' years' place' c =
    let r = either_field_answers stored.now height sin_phi cos_phi sin_lambda cos_lambda year day c.0.0 in
    let v = r.1 in
    (r.0, v, r.2, c.0.1 ∙ ap (result_place field_floats _) r.3, c.0.2 ∙ ap (result_place error_floats _) r.3, field_close (with_set height sin_phi cos_phi sin_lambda cos_lambda r.0) year day (Ok v) (sym r.4) v refl)

-- the same of the entry with a lent list, over its clauses
pub njerumoy_field_listed_distance : {M : Type 1} {𝓤 : Ura M} (𝓛 : Logic 𝓤) (mem : Memory → SProp 𝓤) (run : Routine → Fun 𝓤) (κs : Lfts 9) (height sin_phi cos_phi sin_lambda cos_lambda : Float) (year day epoch_year : ℤ)
    (g h g_dot h_dot : Bor (List Float)) (records : Bor (List ErrorRecord)) (xyz errors : MutBor (List Float)) (entry : MutBor (List ℕ)) (years : MutBor (List ℤ)) (xyz' errors' : List Float) (entry' : List ℕ) (years' : List ℤ)
    → (let a : Args listed.signature κs = (height, (sin_phi, (cos_phi, (sin_lambda, (cos_lambda, (year, (day, (epoch_year, (g, (h, (g_dot, (h_dot, (records, (xyz, (errors, (entry, (years, tt))))))))))))))))) in
    ent 𝓤 ((listed.clauses 𝓛 mem run κs a).ensures tt 0 (at_exit listed.ended κs a (tt, (tt, (tt, (tt, (tt, (tt, (tt, (tt, (tt, (tt, (tt, (tt, (tt, (xyz', (errors', (entry', (years', tt)))))))))))))))))))
    (fact 𝓤 ((v : GeomagneticField) × (xyz' ≡ field_floats v) × (errors' ≡ error_floats v) × FieldClose (asked height sin_phi cos_phi sin_lambda cos_lambda epoch_year g.now h.now g_dot.now h_dot.now) (epoch_offset year day) v)))
unfolding listed_field
njerumoy_field_listed_distance {𝓤 = 𝓤} 𝓛 mem run κs height sin_phi cos_phi sin_lambda cos_lambda year day epoch_year g h g_dot h_dot records xyz errors entry years xyz' errors' entry' years' =
    let a : Asked = asked height sin_phi cos_phi sin_lambda cos_lambda epoch_year g.now h.now g_dot.now h_dot.now in
    says_first 𝓤 (λ c.
    let q = listed_field_answers records.now a year day c.0 in
    let v = q.0 in
    (v, c.1 ∙ ap (result_place field_floats _) q.1, c.2 ∙ ap (result_place error_floats _) q.1, answer_close (listed_errors records.now (epoch_year_of year)) a year day (Ok v) (sym q.1) v refl))
