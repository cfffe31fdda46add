use Rattle.sums.specs.Recurrence.{gc_hs, gs_hc, lit}
use Rattle.sums.specs.Paths.{placed}
use Rattle.synthesis.specs.Sum.{inputs}
use Rattle.bounds.specs.Bounds.{bounds}
use Rattle.allowance.specs.Code.{parts_of}
use Rattle.allowance.proofs.Lits.{lit_size}
use Rattle.allowance.proofs.inputs.Inputs.term.Goals as goal

pub returns : goal.returns
unfolding parts_of bounds lit gc_hs gs_hc inputs placed
returns c = rw (c.parts_at-w.ensures, c.sin_cos_m_lambda-u.ensures, ← lit_size c.args.m)
