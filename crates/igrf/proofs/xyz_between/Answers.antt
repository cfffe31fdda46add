use Rattle.std.proofs.Common.{ap, ◌∙◌}
use Rattle.igrf.specs.Igrf.{fifth}
use Rattle.igrf.proofs.Lists.{gap_g, gap_h, gap_room}
use Rattle.igrf.proofs.Shown.{both_long, igrf_early}
use Rattle.igrf.proofs.xyz_between.Goals as goal

pub lists-requires : goal.lists-requires
lists-requires c =
    gap_room (both_long c.args.place c.args.first c.args.second c.args.day.year c.args.day.day_of_year _ c.requires.accepted c.requires.early) fifth c.between-gap.ensures.answer

pub returns : goal.returns
returns c =
    let a = c.args in
    let s = c.requires.early in
    let l = both_long a.place a.first a.second a.day.year a.day.day_of_year _ c.requires.accepted s in
    let g = c.lists.ensures.main in
    let r = c.lists.ensures.rates in
    c.xyz_uncapped.ensures.answer
    ∙ igrf_early a.place a.first a.second a.day.year a.day.day_of_year _ c.requires.accepted s c.lists.result (r.0 ∙ gap_g l fifth c.between-gap.ensures.answer) (r.1 ∙ gap_h l fifth c.between-gap.ensures.answer)
    (ap (λ b. b.now) g.0) (ap (λ b. b.now) g.1)
