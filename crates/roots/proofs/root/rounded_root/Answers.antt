use Rattle.std.proofs.Common.{sym, subst}
use Rattle.std.specs.Prelude.{T}
use Rattle.roots.proofs.Floats.{is_no_nan, of_own, at_small, at_normal, packed_no_nan}
use Rattle.roots.proofs.root.rounded_root.Goals as goal

pub float_to_bits-b : goal.float_to_bits-b
float_to_bits-b c = is_no_nan c.args.x (subst T (sym c.requires) tt)

pub float_from_bits-result : goal.float_from_bits-result
float_from_bits-result c = packed_no_nan _ _ c.root_bits.result c.lifted.result.bound c.root_bits.ensures

pub float_from_bits-result-else-b-lt8388608 : goal.float_from_bits-result-else-b-lt8388608
float_from_bits-result-else-b-lt8388608 c = packed_no_nan _ _ c.root_bits-else-b-lt8388608.result c.normal.result.bound c.root_bits-else-b-lt8388608.ensures

pub returns-then-b-ge2139095040 : goal.returns-then-b-ge2139095040
returns-then-b-ge2139095040 c = of_own c.args.x (subst T (sym c.well_formed.0.1) tt) (subst T (sym c.requires) tt) c.if-b-ge2139095040.either

pub returns-then-b-lt8388608 : goal.returns-then-b-lt8388608
returns-then-b-lt8388608 c = at_small c.args.x (subst T (sym c.well_formed.0.1) tt) _ _ c.root_bits.result c.if-b-lt8388608.true c.if-b-ge2139095040.false.0 c.lifted.ensures c.root_bits.ensures

pub returns-else-b-lt8388608 : goal.returns-else-b-lt8388608
returns-else-b-lt8388608 c =
    at_normal c.args.x (subst T (sym c.well_formed.0.1) tt) _ c.if-b-lt8388608.false c.if-b-ge2139095040.false.1 (rw (c.normal.ensures.digits, c.normal.ensures.exponent) at c.root_bits-else-b-lt8388608.ensures)
