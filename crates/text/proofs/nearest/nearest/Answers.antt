use Rattle.std.proofs.Common.{◌≡◌, ◌+◌, ap, ◌∙◌, true, false, arith}
use native.Mathlib.Nat.{one-le-pow}
use lib.Ieee.{binary32, round}
use Rattle.float32.proofs.Bits.{low_no_nan}
use Rattle.text.specs.Decimals.{nearest_of}
use Rattle.text.proofs.nearest.nearest.Goals as goal

pub packed-bits-requires : goal.packed-bits-requires
packed-bits-requires c = rw c.pow.ensures (one-le-pow c.args.d.places 10 (omega arith))

pub float_from_bits-result : goal.float_from_bits-result
float_from_bits-result c =
    let l = c.packed-bits.ensures.low in
    low_no_nan (0x8000_0000 + c.packed-bits.result) (omega arith)

pub returns-then-d : goal.returns-then-d
unfolding nearest_of
returns-then-d c =
    rw c.if-d.true (c.packed-bits.ensures.is true ∙ ap (round binary32 true c.args.d.digits) c.pow.ensures)

pub float_from_bits-result-2 : goal.float_from_bits-result-2
float_from_bits-result-2 c =
    let l = c.packed-bits.ensures.low in
    low_no_nan c.packed-bits.result (omega arith)

pub returns : goal.returns
unfolding nearest_of
returns c =
    let z : 0 + c.packed-bits.result ≡ c.packed-bits.result = omega arith in
    rw c.if-d.false (rw z at (c.packed-bits.ensures.is false) ∙ ap (round binary32 false c.args.d.digits) c.pow.ensures)
