use Rattle.std.proofs.Common.{sym, ◌∙◌, subst}
use Rattle.std.specs.Prelude.{T}
use Rattle.float32.specs.Bits.{bits_of}
use Rattle.float32.proofs.Bits.{float_back}
use Rattle.roots.proofs.Floats.{at_normal}
use Rattle.roots.proofs.root.is_root.Goals as goal

pub returns-then-b-lt2139095040 : goal.returns-then-b-lt2139095040
returns-then-b-lt2139095040 c e =
    let within = rw c.to_bits-b.ensures at c.if-b-lt2139095040.true in
    let k = rw (c.normal.ensures.digits, c.normal.ensures.exponent, c.to_bits-b.ensures, c.to_bits.ensures) at (c.is_root_bits.ensures e) in
    sym (float_back c.args.y (subst T (sym c.well_formed.1.0.1) tt)) ∙ at_normal c.args.x (subst T (sym c.well_formed.0.1) tt) (bits_of c.args.y) within.0 within.1 k
