use Rattle.agency.proofs.Progress.{Progress}
use Rattle.agency.proofs.file.read.Given as goal

abbrev pub invariant-loop-k : goal.invariant-loop-k
invariant-loop-k l = Progress l.text l.lines.rest.now l.lines.number l.due l.set l.k
