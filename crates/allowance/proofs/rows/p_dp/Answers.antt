use Rattle.std.proofs.Common.{◌≡◌, ◌≤◌, ap, ◌∙◌, arith}
use Rattle.bounds.specs.Bounds.{bounds}
use Rattle.exact.specs.Exact.{lit}
use Rattle.exact.specs.Tests.{abs}
use Rattle.synthesis.specs.Sum.{inputs}
use Rattle.tables.proofs.Factors.{k_whole}
use Rattle.synthesis.specs.Code.{pdp}
use Rattle.allowance.proofs.Column.{start, next}
use Rattle.allowance.proofs.rows.p_dp.Goals as goal

pub loop-j-init : goal.loop-j-init
loop-j-init c = λ a e f. start (inputs bounds a) _

pub loop-j-preserved : goal.loop-j-preserved
unfolding lit
loop-j-preserved c =
    let j = c.loop-j.j in
    let m = c.min-o.result in
    let h : j ≤ 2048 = omega arith in
    let u : m ≤ 4096 = omega arith in
    λ a e f.
    next a _ _ _ _ _ _ _ _ _ c.min-o.ensures (c.abs.ensures ∙ ap abs e) (c.abs-2.ensures ∙ ap abs f) (c.abs-k.ensures ∙ ap abs (c.legendre_k.ensures ∙ k_whole j m h u)) c.gauss_norm_p_dp-r.ensures (c.loop-j.invariant a e f)

pub returns : goal.returns
returns c = λ a e f.
    let h : c.loop-j.j ≡ c.args.n = omega arith in
    ap pdp ((c.loop-j.invariant a e f).column (omega arith)) ∙ rw h
