use lib.Ieee.{of_int, of_bits, round}
use Rattle.tables.specs.Degree.{M_LEN}
use Rattle.sums.specs.Recurrence.{lit}
use Rattle.synthesis.specs.Code.{first}
use Rattle.synthesis.proofs.Filled.{first_get}
use Rattle.synthesis.proofs.lanes.order.Goals as goal

-- by computation
pub returns : goal.returns
unfolding first lit of_int of_bits round
returns c = first_get lit M_LEN c.args.m c.requires
