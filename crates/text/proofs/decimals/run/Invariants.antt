use Rattle.std.proofs.Common.{◌≡◌, ◌≤◌, ◌+◌, ◌*◌, ◌^◌, drop}
use Rattle.text.specs.Scan.{scan}
use Rattle.text.proofs.decimals.run.Given as goal

-- what is said of the whole is said of what is left, and the number stays small
abbrev pub invariant-loop-i : goal.invariant-loop-i
invariant-loop-i l = ((l.value + 1) * 10 ^ l.left ≤ 10 ^ 9) × (scan l.fn.most l.fn.value l.s ≡ scan l.left l.value (drop l.i l.s))
