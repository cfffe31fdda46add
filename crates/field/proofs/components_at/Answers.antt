use Rattle.std.proofs.Common.{rules}
use Rattle.field.proofs.Answers.{dated_by}
use Rattle.field.proofs.components_at.Goals as goal

pub returns-in_err-check_known : goal.returns-in_err-check_known
returns-in_err-check_known c = rw (dated_by c.args.place c.args.set c.args.e c.requires) (search rules)

pub returns-in_err-check_epoch : goal.returns-in_err-check_epoch
returns-in_err-check_epoch c = rw (dated_by c.args.place c.args.set c.args.e c.requires) (search rules)
