use Rattle.std.proofs.Common.{length}
use Rattle.tables.proofs.Degrees.{degree_high}
use Rattle.allowance.proofs.Answers.{shown}
use Rattle.field.specs.Field.{asked_of}
use Rattle.allowance.proofs.allowance_at.Goals as goal

pub invariant_of-inputs : goal.invariant_of-inputs
invariant_of-inputs c = record { long = c.requires; low = degree_high (length c.args.set.lists.g.now) }

pub returns : goal.returns
returns c =
    shown (asked_of c.args.place c.args.set) c.args.e _ _ _ _ _ _ _ c.geodetic_to_geocentric-p.ensures c.radius_ratio.ensures c.majorants.ensures c.turn-v.ensures c.allowed.ensures c.allowed-2.ensures c.allowed-3.ensures
