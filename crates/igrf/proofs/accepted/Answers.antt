use Rattle.std.proofs.Common.{◌≡◌, ap, sym, ◌∙◌, false, pos, rules}
use Rattle.std.specs.Int.Signed.{lt_z}
use Rattle.refusals.specs.Paper.{said}
use Rattle.igrf.proofs.Laws.{day_good}
use Rattle.igrf.proofs.accepted.Goals as goal

pub check_sets-requires : goal.check_sets-requires
check_sets-requires c =
    let e = c.in_ok-e.e in
    let t = day_good c.args.day.year c.args.day.day_of_year e (sym (ap said c.in_ok-e.was) ∙ c.igrf_epoch.ensures) in
    let above : lt_z e.epoch_year (pos 0) ≡ false = t.1 in
    let below : lt_z (pos 2029) e.epoch_year ≡ false = t.2 in
    search rules
