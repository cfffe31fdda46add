-- The laws of a day that Epoch accepts, in naturals.
use Rattle.std.specs.Prelude.{◌≡◌, refl, Bool, true, false, not, cond, ◌||◌, ◌⊎◌, ℕ, zero, suc, ◌-◌, ◌*◌, ◌/◌, ◌≤◌, ℤ, pos, negsuc, neg_ℤ, ◌*ℤ◌, ◌-ℤ◌}
use Rattle.std.proofs.Common.{sym, ap, subst, ◌∙◌, inl, inr, ⊎_elim, arith, eqb-true, ltb-false, le-ltb}
use Rattle.std.specs.Int.Signed.{lt_z}
use Rattle.refusals.specs.Paper.{answered, paper, unless}
use Rattle.refusals.specs.declared.Refusal.{Refusal}
use Rattle.refusals.specs.declared.Refusal.TheVariants.{DayOfYear}
use Rattle.refusals.proofs.Laws.{answered_one}
use Rattle.models.specs.declared.epochs.EpochOffset.{EpochOffset}
use Rattle.models.specs.Calendar.{leap_year, days_in_year}
use Rattle.models.specs.Epochs.{day_exists, day_from, days_from, served_from, unknown_epoch, EPOCH_YEARS, epoch_year_of, is_year, known_epoch, offset_of, natural_offset, epoch_offset, epoch_says}
use Rattle.models.specs.Dated.{Dated}
use Rattle.models.specs.Tested.{InEpoch, InYear}

-- ---- the year
either : (a b : Bool) → a || b ≡ true → (a ≡ true) ⊎ (b ≡ true)
either true b h = inl refl
either false b h = inr h

which : (y : ℕ) → (is_year 2020 (pos y) ≡ true) ⊎ (is_year 2025 (pos y) ≡ true) → (y ≡ 2020) ⊎ (y ≡ 2025)
which y (inl h) = inl (eqb-true y 2020 h)
which y (inr h) = inr (eqb-true y 2025 h)

never : ◌≡◌ {A = ℕ} 0 1 → ⊥
never h = omega arith

not_minus : (r : ℕ) → known_epoch (neg_ℤ (pos r)) ≡ false
unfolding known_epoch
not_minus zero = refl
not_minus (suc r) = refl

neg_epochs : (r : ℕ) → neg_ℤ (pos r) *ℤ pos EPOCH_YEARS ≡ neg_ℤ (pos (r * EPOCH_YEARS))
neg_epochs zero = refl
neg_epochs (suc r) = refl

-- no year below zero has a known epoch
pub below_zero : (y : ℕ) → known_epoch (epoch_year_of (negsuc y)) ≡ false
unfolding epoch_year_of
below_zero y = rw (neg_epochs (suc y / EPOCH_YEARS)) (not_minus (suc y / EPOCH_YEARS * EPOCH_YEARS))

-- a year that is neither before a first one nor after 2029
in_epoch : (first : ℕ) (year : ℤ) → lt_z year (pos first) ≡ false → lt_z (pos 2029) year ≡ false → InEpoch year
unfolding epoch_year_of
in_epoch first (pos y) early late = record { y = y; ep = y / EPOCH_YEARS * EPOCH_YEARS; year_is = refl; epoch_is = refl; latest = ltb-false 2029 y late; since = omega arith; until = omega arith }
in_epoch first (negsuc y) early late = absurd (never (cc))

-- a year of a known epoch is one from 2020 on
not_outside : (year : ℤ) → known_epoch (epoch_year_of year) ≡ true → (lt_z year (pos 2020) ≡ false) × (lt_z (pos 2029) year ≡ false)
unfolding epoch_year_of known_epoch
not_outside (pos y) h =
    let ep = y / EPOCH_YEARS * EPOCH_YEARS in
    ⊎_elim
    (λ (e : ep ≡ 2020). (le-ltb y 2020 (omega (arith, e)), le-ltb 2029 y (omega (arith, e))))
    (λ (e : ep ≡ 2025). (le-ltb y 2020 (omega (arith, e)), le-ltb 2029 y (omega (arith, e))))
    (which ep (either (is_year 2020 (pos ep)) (is_year 2025 (pos ep)) h))
not_outside (negsuc y) h = absurd (never (let b = below_zero y in cc))

-- ---- the day
in_year : (year day : ℤ) → lt_z day (pos 1) ≡ false → lt_z (pos (days_in_year year)) day ≡ false → InYear year day
in_year year (pos d) low high =
    record { d = d; day_is = refl; first = ltb-false d 1 low; last = ltb-false (days_in_year year) d high }
in_year year (negsuc d) low high = absurd (never (cc))

pub longest_year : (year : ℤ) → days_in_year year ≤ 366
longest_year year = go (leap_year year)
  where
    go : (t : Bool) → cond t 366 365 ≤ 366
    go true = omega arith
    go false = omega arith

-- ---- the offset
minus : (a b : ℕ) → b ≤ a → pos a -ℤ pos b ≡ pos (a - b)
minus a zero h = ap pos (omega arith)
minus a (suc b) h = rw (le-ltb a (suc b) h)

offset_of_lem : {year epoch day : ℤ} {y ep d : ℕ} → year ≡ pos y → epoch ≡ pos ep → day ≡ pos d → ep ≤ y → 1 ≤ d
    → offset_of year epoch day ≡ natural_offset y ep d (days_in_year year)
unfolding offset_of
offset_of_lem {y = y} {ep = ep} {d = d} e f g h k = rw (e, f, g, minus y ep h, minus d 1 k)

-- ---- a day that passes the tests
pub accepted : (first : ℕ) (year day : ℤ) → lt_z day (pos 1) ≡ false → lt_z (pos (days_in_year year)) day ≡ false → lt_z year (pos first) ≡ false → lt_z (pos 2029) year ≡ false → Dated year day (epoch_offset year day)
accepted first year day low high early late =
    let e = in_epoch first year early late in
    let i = in_year year day low high in
    record {
      y = e.y;
      ep = e.ep;
      d = i.d;
      n = days_in_year year;
      year_is = e.year_is;
      epoch_is = e.epoch_is;
      day_is = i.day_is;
      days_are = refl;
      latest = e.latest;
      since = e.since;
      until = e.until;
      first = i.first;
      last = i.last;
      longest = longest_year year;
      offset_is = offset_of_lem e.year_is e.epoch_is i.day_is e.since i.first;
    }

no_or : (a b : Bool) → not (a || b) ≡ true → (a ≡ false) × (b ≡ false)
no_or true b h = absurd (never (cc))
no_or false true h = absurd (never (cc))
no_or false false h = (refl, refl)

-- of two tests behind which stands an answer, both passed
both_passed : {A : Type 0} (a b : Bool) (k l : Refusal) (x y : A) → unless a (paper k) (unless b (paper l) (answered x)) ≡ answered y → (a ≡ true) × (b ≡ true) × (x ≡ y)
both_passed true true k l x y h = (refl, refl, answered_one x y h)
both_passed true false k l x y h = absurd (never (cc))
both_passed false b k l x y h = absurd (never (cc))

-- a day that is answered for, of Epoch and of the years from a first one on
pub dated : (year day : ℤ) (e : EpochOffset) → epoch_says year day ≡ answered e → Dated year day e
unfolding epoch_says day_exists
dated year day e h =
    let p = both_passed (day_exists year day) (known_epoch (epoch_year_of year)) DayOfYear unknown_epoch (epoch_offset year day) e h in
    let t = no_or (lt_z day (pos 1)) (lt_z (pos (days_in_year year)) day) p.0 in
    let y = not_outside year p.1 in
    subst (λ (r : EpochOffset). Dated year day r) p.2 (accepted 2020 year day t.0 t.1 y.0 y.1)

pub dated_from : (first : ℕ) (year day : ℤ) (e : EpochOffset) → day_from first year day ≡ answered e → Dated year day e
unfolding day_from served_from day_exists
dated_from first year day e h =
    let p = both_passed (day_exists year day) (served_from first year) DayOfYear (days_from first) (epoch_offset year day) e h in
    let t = no_or (lt_z day (pos 1)) (lt_z (pos (days_in_year year)) day) p.0 in
    let y = no_or (lt_z year (pos first)) (lt_z (pos 2029) year) p.1 in
    subst (λ (r : EpochOffset). Dated year day r) p.2 (accepted first year day t.0 t.1 y.0 y.1)

-- and its epoch is a known one
pub known_day : (year day : ℤ) (e : EpochOffset) → epoch_says year day ≡ answered e → known_epoch e.epoch_year ≡ true
unfolding epoch_says
known_day year day e h =
    let p = both_passed (day_exists year day) (known_epoch (epoch_year_of year)) DayOfYear unknown_epoch (epoch_offset year day) e h in
    ap (λ (r : EpochOffset). known_epoch r.epoch_year) (sym p.2) ∙ p.1
