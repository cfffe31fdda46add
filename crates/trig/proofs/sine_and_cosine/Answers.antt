-- The pair is what `sine_says` answers, and so near the sine and the cosine and on the circle.
use Rattle.std.specs.Prelude.{Ok}
use Rattle.trig.proofs.Laws.{refusal_said, pair_said, answer_near, answer_on_circle}
use Rattle.trig.proofs.Ways.{out, inside, bits_in, at_is}
use Rattle.trig.proofs.sine_and_cosine.Goals as goal

pub returns-then-outside-clause-answer : goal.returns-then-outside-clause-answer
returns-then-outside-clause-answer c = refusal_said c.args.x (out c.args.x _ c.outside.ensures c.if-outside.true)

pub pair_of-p-requires : goal.pair_of-p-requires
pair_of-p-requires c =
    bits_in c.args.x c.to_bits-b.result c.well_formed.0.1 (inside c.args.x _ c.outside.ensures c.if-outside.false) c.to_bits-b.ensures

pub returns-clause-answer : goal.returns-clause-answer
returns-clause-answer c =
    pair_said c.args.x _ (inside c.args.x _ c.outside.ensures c.if-outside.false) (at_is c.args.x c.to_bits-b.result c.pair_of-p.result _ c.to_bits-b.ensures c.pair_of-p.ensures c.with_sign.ensures)

pub returns-clause-distance : goal.returns-clause-distance
returns-clause-distance c = answer_near c.args.x (Ok _) c.well_formed.0.1 (returns-clause-answer c)

pub returns-clause-circle : goal.returns-clause-circle
returns-clause-circle c = answer_on_circle c.args.x (Ok _) c.well_formed.0.1 (returns-clause-answer c)
