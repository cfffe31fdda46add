use Rattle.std.proofs.Common.{◌≡◌, ap, ◌∙◌}
use Rattle.lists.specs.declared.Lists.{Lists}
use Rattle.igrf.specs.Igrf.{fifth, fifths}
use Rattle.igrf.proofs.Lists.{gap_g, gap_h, gap_room}
use Rattle.igrf.proofs.Shown.{both_long, rates_early}
use Rattle.igrf.proofs.yearly_between.Goals as goal

pub lists-requires : goal.lists-requires
lists-requires c =
    gap_room (both_long c.args.place c.args.first c.args.second c.args.day.year c.args.day.day_of_year _ c.requires.accepted c.requires.early) fifth c.between-gap.ensures.answer

pub returns : goal.returns
returns c =
    let a = c.args in
    let s = c.requires.early in
    let l = both_long a.place a.first a.second a.day.year a.day.day_of_year _ c.requires.accepted s in
    let r = c.lists.ensures.rates in
    let e = c.rated.ensures.answer in
    let g : c.lists.result.g_dot.now ≡ fifths a.first.lists.g.now a.second.g.now = r.0 ∙ gap_g l fifth c.between-gap.ensures.answer in
    let h : c.lists.result.h_dot.now ≡ fifths a.first.lists.h.now a.second.h.now = r.1 ∙ gap_h l fifth c.between-gap.ensures.answer in
    c.xyz_uncapped.ensures.answer
    ∙ rates_early a.place a.first a.second a.day.year a.day.day_of_year _ c.requires.accepted s c.rated.result (ap (λ (l : Lists). l.g_dot.now) e ∙ g) (ap (λ (l : Lists). l.h_dot.now) e ∙ h)
    (ap (λ (l : Lists). l.g.now) e ∙ g) (ap (λ (l : Lists). l.h.now) e ∙ h)
