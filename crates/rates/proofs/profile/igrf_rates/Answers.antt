use Rattle.std.proofs.Common.{◌≡◌, ap, sym, ◌∙◌, rules}
use Rattle.refusals.specs.Paper.{paper, said}
use Rattle.rates.specs.declared.YearlyRates.{YearlyRates}
use Rattle.igrf.specs.Igrf.{profile_of}
use Rattle.rates.specs.Profile.{igrf_rates_says}
use Rattle.rates.specs.Rates.{rates_with}
use Rattle.rates.proofs.Answers.{divided_by, not_divided}
use Rattle.rates.proofs.OfProfile.{close_if, finite_if, igrf_refused, no_divisor, rates_by, rates_given}
use Rattle.rates.proofs.profile.igrf_rates.Goals as goal

pub returns-in_err-c-clause-answer : goal.returns-in_err-c-clause-answer
returns-in_err-c-clause-answer c =
    let d = c.args.day in
    let a = profile_of c.args.place c.args.first c.args.second in
    let e : paper {A = YearlyRates} c.in_err-c.field-0.0 ≡ igrf_rates_says a d.year d.day_of_year = igrf_refused a d.year d.day_of_year _ (sym (ap said c.in_err-c.was) ∙ c.igrf.ensures.answer) in
    search rules

pub returns-in_err-h-clause-answer : goal.returns-in_err-h-clause-answer
returns-in_err-h-clause-answer c =
    let d = c.args.day in
    let a = profile_of c.args.place c.args.first c.args.second in
    let n = not_divided _ _ _ (sym c.divisor.ensures ∙ c.in_err-h.was) in
    let e : paper {A = YearlyRates} c.in_err-h.field-0.0 ≡ igrf_rates_says a d.year d.day_of_year =
    ap paper n.1 ∙ no_divisor a d.year d.day_of_year _ (sym (ap said c.in_ok-c.was) ∙ c.igrf.ensures.answer) (rw c.bare_record-v.ensures at n.0) in
    search rules

pub returns-in_err-r-clause-answer : goal.returns-in_err-r-clause-answer
returns-in_err-r-clause-answer c =
    let d = c.args.day in
    let a = profile_of c.args.place c.args.first c.args.second in
    absurd (rates_given a d.year d.day_of_year _ (sym (ap said c.in_ok-c.was) ∙ c.igrf.ensures.answer) _ c.bare_record-v.ensures c.in_err-r.field-0.0 (sym (ap said c.in_err-r.was) ∙ c.igrf_component_rates.ensures.answer))

pub rates_with-requires : goal.rates_with-requires
rates_with-requires c = let d = divided_by _ _ _ (sym c.divisor.ensures ∙ c.in_ok-h.was) in (d.1, rw d.1 d.0)

answer : (c : goal.After-rates_with) → said c.rates_with.result ≡ igrf_rates_says (profile_of c.args.place c.args.first c.args.second) c.args.day.year c.args.day.day_of_year
answer c =
    let d = c.args.day in
    let a = profile_of c.args.place c.args.first c.args.second in
    rates_by a d.year d.day_of_year _ (sym (ap said c.in_ok-c.was) ∙ c.igrf.ensures.answer) _ (sym (ap said c.in_ok-r.was) ∙ c.igrf_component_rates.ensures.answer) _
    (c.rates_with.ensures ∙ ap (rates_with c.in_ok-r.r) c.bare_record-v.ensures)

pub returns-clause-answer : goal.returns-clause-answer
returns-clause-answer c = answer c

pub returns-clause-distance : goal.returns-clause-distance
returns-clause-distance c = close_if _ _ _ _ (answer c)

pub returns-clause-finite : goal.returns-clause-finite
returns-clause-finite c = finite_if _ _ _ _ (answer c)
