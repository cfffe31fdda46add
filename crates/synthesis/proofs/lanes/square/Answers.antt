use lib.Ieee.{of_int, of_bits, round, mul, sub, lt}
use Rattle.tables.specs.Degree.{M_LEN}
use Rattle.tables.specs.Division.{k_divisor}
use Rattle.sums.specs.Recurrence.{lit}
use Rattle.synthesis.specs.Code.{divisor_at, first, square_at}
use Rattle.synthesis.proofs.Filled.{first_get}
use Rattle.synthesis.proofs.lanes.square.Goals as goal

-- by computation
pub returns : goal.returns
unfolding first square_at divisor_at k_divisor lit of_int of_bits round mul sub lt
returns c = first_get square_at M_LEN c.args.n c.requires
