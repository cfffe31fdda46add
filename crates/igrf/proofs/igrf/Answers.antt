use Rattle.std.proofs.Common.{◌≡◌, ap, sym, ◌∙◌, false, rules}
use Rattle.refusals.specs.Paper.{said}
use Rattle.igrf.specs.Igrf.{early, igrf_says, profile_of}
use Rattle.igrf.proofs.Laws.{by_accepted}
use Rattle.igrf.proofs.Shown.{close_if, igrf_late}
use Rattle.igrf.proofs.igrf.Goals as goal

pub returns-in_err-e-clause-answer : goal.returns-in_err-e-clause-answer
returns-in_err-e-clause-answer c = rw (by_accepted false (profile_of c.args.place c.args.first c.args.second) c.args.day.year c.args.day.day_of_year) (search rules)

since : (c : goal.After-xyz_uncapped) → said c.xyz_uncapped.result ≡ igrf_says (profile_of c.args.place c.args.first c.args.second) c.args.day.year c.args.day.day_of_year
since c =
    let a = c.args in
    let s : early a.day.year ≡ false = search rules in
    c.xyz_uncapped.ensures.answer ∙ igrf_late a.place a.first a.second a.day.year a.day.day_of_year _ (sym c.accepted.ensures ∙ ap said c.in_ok-e.was) s

pub returns-then-early-clause-distance : goal.returns-then-early-clause-distance
returns-then-early-clause-distance c = close_if _ _ _ _ c.xyz_between.ensures

pub returns-clause-answer : goal.returns-clause-answer
returns-clause-answer c = since c

pub returns-clause-distance : goal.returns-clause-distance
returns-clause-distance c = close_if _ _ _ _ (since c)
