use Rattle.direction.proofs.Sizes.{larger, octant_far, octant_is, shifted_some}
use Rattle.direction.proofs.arc.octant.Goals as goal

pub eighth-requires-clause-d_nonzero : goal.eighth-requires-clause-d_nonzero
eighth-requires-clause-d_nonzero c =
    rw (c.of_bits-large.ensures.digits, c.of_bits-large.ensures.place, c.of_bits-small.ensures.place)
    (shifted_some c.args.p c.args.q c.requires.q_le_p c.requires.p_nonzero (rw (c.of_bits-large.ensures.place, c.of_bits-small.ensures.place) at c.if-k-ge32.false))

pub eighth-requires-clause-n_le_d : goal.eighth-requires-clause-n_le_d
eighth-requires-clause-n_le_d c =
    rw (c.of_bits-large.ensures.digits, c.of_bits-large.ensures.place, c.of_bits-small.ensures.digits, c.of_bits-small.ensures.place)
    (larger c.args.p c.args.q c.requires.q_le_p (rw (c.of_bits-large.ensures.place, c.of_bits-small.ensures.place) at c.if-k-ge32.false))

pub returns-then-k-ge32-clause-value : goal.returns-then-k-ge32-clause-value
returns-then-k-ge32-clause-value c =
    octant_far c.args.p c.args.q c.requires.q_le_p (rw (c.of_bits-large.ensures.place, c.of_bits-small.ensures.place) at c.if-k-ge32.true)

pub returns-else-k-ge32-clause-value : goal.returns-else-k-ge32-clause-value
returns-else-k-ge32-clause-value c =
    octant_is c.args.p c.args.q c.requires.q_le_p _ (rw (c.of_bits-large.ensures.place, c.of_bits-small.ensures.place) at c.if-k-ge32.false)
    (rw (c.of_bits-large.ensures.digits, c.of_bits-large.ensures.place, c.of_bits-small.ensures.digits, c.of_bits-small.ensures.place) at c.eighth.ensures.value)
