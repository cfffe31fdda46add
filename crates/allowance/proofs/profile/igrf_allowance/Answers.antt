use Rattle.std.proofs.Common.{◌≡◌, ap, sym, ◌∙◌, true, false, rules}
use Rattle.std.specs.Prelude.{Ok}
use Rattle.refusals.specs.Paper.{answered, said}
use Rattle.igrf.specs.Igrf.{early, profile_of}
use Rattle.igrf.proofs.Lists.{few, few_h, gap_g, gap_h, made_long}
use Rattle.allowance.specs.Code.{span}
use Rattle.allowance.specs.Profile.{igrf_allowance_says}
use Rattle.allowance.proofs.OfProfile.{covers_if, day_known, early_said, late_said, pair_long, set_long}
use Rattle.allowance.proofs.profile.igrf_allowance.Goals as goal

pub returns-in_err-e-clause-answer : goal.returns-in_err-e-clause-answer
returns-in_err-e-clause-answer c = absurd (day_known _ _ _ _ (sym (ap said c.in_ok-igrf.was) ∙ c.igrf.ensures.answer) _ (sym (ap said c.in_err-e.was) ∙ c.igrf_epoch.ensures))

-- before 2025 the lists of both sets are of one degree
pub shared_ref_as_front-lists : goal.shared_ref_as_front-lists
shared_ref_as_front-lists c =
    let s : early c.args.day.year ≡ true = search rules in
    few (pair_long (profile_of c.args.place c.args.first c.args.second) _ _ _ (sym (ap said c.in_ok-igrf.was) ∙ c.igrf.ensures.answer) s)

pub shared_ref_as_front-lists-then-early : goal.shared_ref_as_front-lists-then-early
shared_ref_as_front-lists-then-early c =
    let s : early c.args.day.year ≡ true = search rules in
    few_h (pair_long (profile_of c.args.place c.args.first c.args.second) _ _ _ (sym (ap said c.in_ok-igrf.was) ∙ c.igrf.ensures.answer) s)

pub allowance_at-requires : goal.allowance_at-requires
allowance_at-requires c =
    let s : early c.args.day.year ≡ true = search rules in
    let l = pair_long (profile_of c.args.place c.args.first c.args.second) _ _ _ (sym (ap said c.in_ok-igrf.was) ∙ c.igrf.ensures.answer) s in
    rw (gap_g l span c.between-gap.ensures.answer, gap_h l span c.between-gap.ensures.answer) (made_long _ _ l)

before : (c : goal.After-allowance_at) → answered c.allowance_at.result ≡ igrf_allowance_says (profile_of c.args.place c.args.first c.args.second) c.args.day.year c.args.day.day_of_year
before c =
    let s : early c.args.day.year ≡ true = search rules in
    let l = pair_long (profile_of c.args.place c.args.first c.args.second) _ _ _ (sym (ap said c.in_ok-igrf.was) ∙ c.igrf.ensures.answer) s in
    early_said (profile_of c.args.place c.args.first c.args.second) _ _ _ (sym (ap said c.in_ok-igrf.was) ∙ c.igrf.ensures.answer) c.in_ok-e.e (sym (ap said c.in_ok-e.was) ∙ c.igrf_epoch.ensures) s _ _ _ (gap_g l span c.between-gap.ensures.answer) (gap_h l span c.between-gap.ensures.answer) _ c.allowance_at.ensures

pub returns-then-early-clause-answer : goal.returns-then-early-clause-answer
returns-then-early-clause-answer c = before c

pub returns-then-early-clause-covers : goal.returns-then-early-clause-covers
returns-then-early-clause-covers c = covers_if (profile_of c.args.place c.args.first c.args.second) c.args.day.year c.args.day.day_of_year (Ok c.allowance_at.result) (before c)

-- from then on those of the first
pub allowance_at-requires-2 : goal.allowance_at-requires-2
allowance_at-requires-2 c =
    let s : early c.args.day.year ≡ false = search rules in
    set_long (profile_of c.args.place c.args.first c.args.second) _ _ _ (sym (ap said c.in_ok-igrf.was) ∙ c.igrf.ensures.answer) s

since : (c : goal.After-allowance_at-2) → answered c.allowance_at-2.result ≡ igrf_allowance_says (profile_of c.args.place c.args.first c.args.second) c.args.day.year c.args.day.day_of_year
since c =
    let s : early c.args.day.year ≡ false = search rules in
    late_said (profile_of c.args.place c.args.first c.args.second) _ _ _ (sym (ap said c.in_ok-igrf.was) ∙ c.igrf.ensures.answer) c.in_ok-e.e (sym (ap said c.in_ok-e.was) ∙ c.igrf_epoch.ensures) s _ c.allowance_at-2.ensures

pub returns-clause-answer : goal.returns-clause-answer
returns-clause-answer c = since c

pub returns-clause-covers : goal.returns-clause-covers
returns-clause-covers c = covers_if (profile_of c.args.place c.args.first c.args.second) c.args.day.year c.args.day.day_of_year (Ok c.allowance_at-2.result) (since c)
