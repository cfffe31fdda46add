use Rattle.trig.proofs.Whole.{bits_high}
use Rattle.trig.proofs.SmallAngle.sine_bits.Goals as goal

pub returns-else-p-lt9223372036854775808 : goal.returns-else-p-lt9223372036854775808
returns-else-p-lt9223372036854775808 c = bits_high c.args.self.digits c.args.self.places _ c.sine_long-p.ensures.value c.if-self-ge126.false c.if-p-lt9223372036854775808.false
