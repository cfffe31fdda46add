-- `models::epochs::day_from` meets its contract. Each test of the code is one of the definition's, that of the year by
-- its own numbers, and where all pass, a u16 holds the year, the epoch year and the day. Assumes nothing.
use mathlib.Core.Path.{◌≡◌, refl, sym, ap, ◌∙◌}
use mathlib.Core.Bool.{true, false}
use borrow.Author.Rules.{rules}
use Prim.Native.Nat.{ℕ, ◌<◌, ◌^◌}
use native.Mathlib.Omega.{arith}
use lib.Dec.{T}
use lib.IntN.{ℤ, pos, nat_abs}
use lib.Signed.{lt_z, non_neg}
use mir.Syntax.{w16, w32}
use mir.Val.{Fits, SFits, of_z, to_z}
use mir.ValLaws.{to_z-of_z, to_z_pos}
use Rattle.models.specs.Calendar.{days_in_year}
use Rattle.models.specs.Epochs.{day_exists, day_from, epoch_year_of, natural_offset, epoch_offset, offset_of, served_from}
use Rattle.models.specs.Signed.{fits_epoch}
use Rattle.models.specs.Dated.{Dated}
use Rattle.models.proofs.Dated.{accepted, longest_year}
use Rattle.models.proofs.epochs.day_from.Goals as goal
use Rattle.models.proofs.epochs.day_from.Goals.{then-day_of_year-lt1-via-then-day_of_year-lt1, then-day_of_year-lt1-via-else-day_of_year-lt1+then-days-day_of_year, then-year-first-via-then-year-first, then-year-first-via-else-year-first+then-year-gt-LAST_YEAR}

-- ---- the tests, over the numbers that the words stand for
low : {d : ℤ} → SFits w32 d → lt_z (to_z w32 (of_z w32 d)) (pos 1) ≡ lt_z d (pos 1)
low {d = d} f = rw (to_z-of_z w32 d f)

high : {y d : ℤ} {n : ℕ} → SFits w32 y → SFits w32 d → n ≡ days_in_year (to_z w32 (of_z w32 y)) → lt_z (to_z w32 n) (to_z w32 (of_z w32 d)) ≡ lt_z (pos (days_in_year y)) d
high {y = y} {d = d} f g e =
    let h : days_in_year y < 2 ^ 31 = omega (arith, longest_year y) in
    rw (e, to_z-of_z w32 y f, to_z-of_z w32 d g, to_z_pos w32 (days_in_year y) h)

first_is : {f : ℕ} → Fits w16 f → to_z w32 f ≡ pos f
first_is {f = f} k = to_z_pos w32 f (omega (arith, k.fits))

early : {y : ℤ} {f : ℕ} → SFits w32 y → Fits w16 f → lt_z (to_z w32 (of_z w32 y)) (to_z w32 f) ≡ lt_z y (pos f)
early {y = y} g k = rw (to_z-of_z w32 y g, first_is k)

late : {y : ℤ} → SFits w32 y → lt_z (pos 2029) (to_z w32 (of_z w32 y)) ≡ lt_z (pos 2029) y
late {y = y} g = rw (to_z-of_z w32 y g)

served : (y : ℤ) (f : ℕ) → lt_z y (pos f) ≡ false → lt_z (pos 2029) y ≡ false → served_from f y ≡ true
unfolding served_from
served y f e l = rw (e, l)

too_early : (y : ℤ) (f : ℕ) → lt_z y (pos f) ≡ true → served_from f y ≡ false
unfolding served_from
too_early y f e = rw (e)

too_late : (y : ℤ) (f : ℕ) → lt_z y (pos f) ≡ false → lt_z (pos 2029) y ≡ true → served_from f y ≡ false
unfolding served_from
too_late y f e l = rw (e, l)

too_low : (y d : ℤ) → lt_z d (pos 1) ≡ true → day_exists y d ≡ false
unfolding day_exists
too_low y d e = rw (e)

too_high : (y d : ℤ) → lt_z d (pos 1) ≡ false → lt_z (pos (days_in_year y)) d ≡ true → day_exists y d ≡ false
unfolding day_exists
too_high y d e l = rw (e, l)

-- the day is below 1, or above the year's length
pub returns-then-day_of_year-lt1 : goal.returns-then-day_of_year-lt1
unfolding day_from
returns-then-day_of_year-lt1 c =
    let f : SFits w32 c.args.day.year = search rules in
    let g : SFits w32 c.args.day.day_of_year = search rules in
    let n : day_exists c.args.day.year c.args.day.day_of_year ≡ false =
    elim c.then-day_of_year-lt1.branch [
      | then-day_of_year-lt1-via-then-day_of_year-lt1 w ↦ too_low _ _ (sym (low g) ∙ w.if-day_of_year-lt1.true)
      | then-day_of_year-lt1-via-else-day_of_year-lt1+then-days-day_of_year w ↦ too_high _ _ (sym (low g) ∙ w.if-day_of_year-lt1.false) (sym (high f g c.days_in_year-days.ensures) ∙ w.if-days-day_of_year.true)
    ] in
    rw n

-- the year is before the first one, or after the last
pub returns-then-year-first : goal.returns-then-year-first
unfolding day_from day_exists
returns-then-year-first c =
    let f : SFits w32 c.args.day.year = search rules in
    let g : SFits w32 c.args.day.day_of_year = search rules in
    let n : served_from c.args.first c.args.day.year ≡ false =
    elim c.then-year-first.branch [
      | then-year-first-via-then-year-first w ↦ too_early _ _ (sym (early f c.ranges.first) ∙ w.if-year-first.true)
      | then-year-first-via-else-year-first+then-year-gt-LAST_YEAR w ↦ too_late _ _ (sym (early f c.ranges.first) ∙ w.if-year-first.false) (sym (late f) ∙ w.if-year-gt-LAST_YEAR.true)
    ] in
    simp (sym (low g) ∙ c.if-day_of_year-lt1.false, sym (high f g c.days_in_year-days.ensures) ∙ c.if-days-day_of_year.false, n, first_is c.ranges.first) refl

-- ---- where every test passed
epoch_of : {y e : ℤ} → SFits w32 y → e ≡ epoch_year_of (to_z w32 (of_z w32 y)) → to_z w32 (of_z w32 e) ≡ epoch_year_of y
epoch_of {y = y} f h = rw (h, to_z-of_z w32 y f, to_z-of_z w32 (epoch_year_of y) (fits_epoch y f))

days : {y : ℤ} {n : ℕ} → SFits w32 y → n ≡ days_in_year (to_z w32 (of_z w32 y)) → n ≡ days_in_year y
days {y = y} f e = e ∙ ap days_in_year (to_z-of_z w32 y f)

narrow : {z : ℤ} {n : ℕ} → z ≡ pos n → n < 2 ^ 16 → T (non_neg z) × Fits w16 (nat_abs z)
narrow e h = rw e (tt, record { fits = h })

offset_at : {a b e : ℤ} {m y ep d n : ℕ} → a ≡ pos y → e ≡ pos ep → b ≡ pos d → m ≡ n → natural_offset (nat_abs a) (nat_abs e) (nat_abs b) m ≡ natural_offset y ep d n
offset_at h k l q = rw (h, k, l, q)

dates : {y d : ℤ} {f n : ℕ} → SFits w32 y → SFits w32 d → Fits w16 f → n ≡ days_in_year (to_z w32 (of_z w32 y))
    → lt_z (to_z w32 (of_z w32 d)) (pos 1) ≡ false → lt_z (to_z w32 n) (to_z w32 (of_z w32 d)) ≡ false
    → lt_z (to_z w32 (of_z w32 y)) (to_z w32 f) ≡ false → lt_z (pos 2029) (to_z w32 (of_z w32 y)) ≡ false → Dated y d (epoch_offset y d)
dates {y = y} {d = d} {f = f} g h k n a b e l = accepted f y d (sym (low h) ∙ a) (sym (high g h n) ∙ b) (sym (early g k) ∙ e) (sym (late g) ∙ l)

pub overflow_cast-epoch_year : goal.overflow_cast-epoch_year
overflow_cast-epoch_year c =
    let f : SFits w32 c.args.day.year = search rules in
    let g : SFits w32 c.args.day.day_of_year = search rules in
    let d = dates f g c.ranges.first c.days_in_year-days.ensures (assumption (c)) (assumption (c)) (assumption (c)) (assumption (c)) in
    narrow (epoch_of f c.date_to_epoch_year-epoch_year.ensures ∙ d.epoch_is) (omega (arith, d.since, d.latest))

pub years_since_epoch-offset-requires-clause-epoch_year_le_year : goal.years_since_epoch-offset-requires-clause-epoch_year_le_year
years_since_epoch-offset-requires-clause-epoch_year_le_year c =
    let f : SFits w32 c.args.day.year = search rules in
    let g : SFits w32 c.args.day.day_of_year = search rules in
    let d = dates f g c.ranges.first c.days_in_year-days.ensures (assumption (c)) (assumption (c)) (assumption (c)) (assumption (c)) in
    rw (epoch_of f c.date_to_epoch_year-epoch_year.ensures ∙ d.epoch_is, to_z-of_z w32 c.args.day.year f ∙ d.year_is) d.since

pub returns : goal.returns
unfolding day_from day_exists
returns c =
    let f : SFits w32 c.args.day.year = search rules in
    let g : SFits w32 c.args.day.day_of_year = search rules in
    let y = c.args.day.year in
    let b = c.args.day.day_of_year in
    let d = dates f g c.ranges.first c.days_in_year-days.ensures (assumption (c)) (assumption (c)) (assumption (c)) (assumption (c)) in
    let yw = to_z-of_z w32 y f in
    let bw = to_z-of_z w32 b g in
    let ew = epoch_of f c.date_to_epoch_year-epoch_year.ensures in
    let n : c.days_in_year-days.result ≡ d.n = days f c.days_in_year-days.ensures ∙ sym d.days_are in
    let o : c.years_since_epoch-offset.result ≡ offset_of y (epoch_year_of y) b =
    c.years_since_epoch-offset.ensures ∙ offset_at (yw ∙ d.year_is) (ew ∙ d.epoch_is) (bw ∙ d.day_is) n ∙ sym d.offset_is in
    let s : served_from c.args.first y ≡ true = served y c.args.first (sym (early f c.ranges.first) ∙ c.if-year-first.false) (sym (late f) ∙ c.if-year-gt-LAST_YEAR.false) in
    simp (sym (low g) ∙ c.if-day_of_year-lt1.false, sym (high f g c.days_in_year-days.ensures) ∙ c.if-days-day_of_year.false, s, ew, o)
