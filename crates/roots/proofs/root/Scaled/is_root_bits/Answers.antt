use Rattle.std.proofs.Common.{◌≡◌, ◌+◌, ◌*◌, ◌%◌, ◌^◌, ℕ, subst, arith}
use Rattle.roots.specs.Parts.{Packed, shift}
use Rattle.roots.proofs.Whole.{packed}
use Rattle.roots.proofs.root.Scaled.is_root_bits.Goals as goal

pub returns-then-b-self : goal.returns-then-b-self
returns-then-b-self c e =
    let s = c.args.self in
    let q : ℕ = c.args.b % 2 ^ 23 + 2 ^ 23 in
    let i : shift s.exponent * 2 ^ 23 + q ≡ c.args.b = omega arith in
    subst (Packed s.digits s.exponent) i (packed s.digits s.exponent c.spread.result.value q c.spread.ensures (c.is_nearest.ensures e) (omega arith) (omega arith))
