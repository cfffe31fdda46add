use Rattle.std.proofs.Common.{◌≡◌, ap, sym, ◌∙◌, true, false, rules}
use Rattle.refusals.specs.Paper.{said}
use Rattle.lists.specs.declared.Lists.{Lists}
use Rattle.igrf.specs.Igrf.{early, rate_says, profile_of}
use Rattle.igrf.proofs.Laws.{by_accepted}
use Rattle.igrf.proofs.Shown.{rates_close_if, rates_late}
use Rattle.igrf.proofs.igrf_component_rates.Goals as goal

pub returns-in_err-epoch-clause-answer : goal.returns-in_err-epoch-clause-answer
returns-in_err-epoch-clause-answer c = rw (by_accepted true (profile_of c.args.place c.args.first c.args.second) c.args.day.year c.args.day.day_of_year) (search rules)

since : (c : goal.After-xyz_uncapped) → said c.xyz_uncapped.result ≡ rate_says (profile_of c.args.place c.args.first c.args.second) c.args.day.year c.args.day.day_of_year
since c =
    let a = c.args in
    let s : early a.day.year ≡ false = search rules in
    let e = c.rated.ensures.answer in
    c.xyz_uncapped.ensures.answer
    ∙ rates_late a.place a.first a.second a.day.year a.day.day_of_year _ (sym c.accepted.ensures ∙ ap said c.in_ok-epoch.was) s c.rated.result (ap (λ (l : Lists). l.g.now) e) (ap (λ (l : Lists). l.h.now) e)
    (ap (λ (l : Lists). l.g_dot.now) e) (ap (λ (l : Lists). l.h_dot.now) e)

pub returns-then-early-clause-distance : goal.returns-then-early-clause-distance
returns-then-early-clause-distance c = rates_close_if _ _ _ _ c.yearly_between.ensures

pub returns-clause-answer : goal.returns-clause-answer
returns-clause-answer c = since c

pub returns-clause-distance : goal.returns-clause-distance
returns-clause-distance c = rates_close_if _ _ _ _ (since c)
