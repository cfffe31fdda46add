-- Each turn of the search is a law of proofs/Search.antt.
use Rattle.std.proofs.Common.{sym, ◌∙◌, rules, w32}
use mir.ValLaws.{to_z-of_z}
use Rattle.models.proofs.Search.{met_at, passed_at, none_left}
use Rattle.models.proofs.Years.{other_bits, same_bits}
use Rattle.models.proofs.records.error_model_listed.Goals as goal

pub loop-r-preserved : goal.loop-r-preserved
loop-r-preserved c =
    let k = rw (to_z-of_z w32 c.args.epoch_year c.ranges.epoch_year) at c.loop-r.invariant in
    rw (to_z-of_z w32 c.args.epoch_year c.ranges.epoch_year) (passed_at _ _ _ _ c.loop-r-test.true k (other_bits _ _ c.ranges.epoch_year (search rules) c.if-r-epoch_year.false))

pub returns-then-r-epoch_year-clause-result_value : goal.returns-then-r-epoch_year-clause-result_value
returns-then-r-epoch_year-clause-result_value c =
    let k = rw (to_z-of_z w32 c.args.epoch_year c.ranges.epoch_year) at c.loop-r.invariant in
    c.usable_figures.ensures ∙ sym (met_at _ _ _ _ c.loop-r-test.true k (same_bits _ _ c.ranges.epoch_year (search rules) c.if-r-epoch_year.true))

pub returns-clause-result_value : goal.returns-clause-result_value
returns-clause-result_value c =
    let k = rw (to_z-of_z w32 c.args.epoch_year c.ranges.epoch_year) at c.loop-r.invariant in
    sym (none_left _ _ _ c.loop-r-test.false k)
