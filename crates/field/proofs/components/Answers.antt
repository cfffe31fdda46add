use Rattle.std.proofs.Common.{sym, ◌∙◌}
use Rattle.field.proofs.Answers.{accepted_of}
use Rattle.field.proofs.components.Goals as goal

pub components_at-requires : goal.components_at-requires
components_at-requires c = accepted_of c.args.place c.args.set c.args.day _ _ (sym c.check.ensures ∙ c.in_ok-check.was) c.epoch.ensures c.in_ok-e.was
