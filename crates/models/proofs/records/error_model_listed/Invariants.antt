-- The records before this one are of other years, so what the list gives is what is left of it gives.
use Rattle.std.proofs.Common.{◌≡◌, drop}
use Rattle.models.specs.Records.{listed_errors}
use Rattle.models.proofs.records.error_model_listed.Given as goal

abbrev pub invariant-loop-r : goal.invariant-loop-r
invariant-loop-r l = listed_errors (drop l.r-index l.records) l.epoch_year ≡ listed_errors l.records l.epoch_year
