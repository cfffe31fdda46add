use Rattle.std.proofs.Common.{◌≡◌, length}
use Rattle.text.specs.Lines.{lines}
use Rattle.agency.specs.Cof.{nines_verdict}
use Rattle.agency.proofs.file.TextLines.nines.Given as goal

-- what is said of all lines is what is said of those to come
abbrev pub invariant-loop-line : goal.invariant-loop-line
invariant-loop-line l =
    (l.number ≡ l.self.number) × (nines_verdict l.fn.self.number (lines l.fn.self.rest.now) ≡ nines_verdict l.self.number (lines l.self.rest.now))

abbrev pub decreases-loop-line : goal.decreases-loop-line
decreases-loop-line l = length l.self.rest.now
