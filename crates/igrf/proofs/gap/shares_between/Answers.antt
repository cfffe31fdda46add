use Rattle.std.proofs.Common.{◌≡◌, ◌∙◌, arith, rules, replicate}
use lib.ListN.{length-replicate}
use Rattle.std.specs.Float.{binary32}
use Rattle.std.specs.Float.Ieee.{of_bits}
use Rattle.synthesis.specs.Code.{first}
use Rattle.synthesis.proofs.Filled.{first_next}
use Rattle.igrf.specs.Igrf.{filled, made_at}
use Rattle.igrf.proofs.Lists.{made_is}
use Rattle.igrf.proofs.gap.shares_between.Goals as goal

pub loop-k-init : goal.loop-k-init
unfolding first
loop-k-init g c = search rules

pub loop-k-preserved : goal.loop-k-preserved
loop-k-preserved g c =
    let a = c.args in
    let k = c.loop-k.k in
    let f = g.S.Share.share in
    first_next (made_at f a.from.now a.to.now) k _ (replicate 104 (of_bits binary32 0)) _ (omega (arith, length-replicate 104 (of_bits binary32 0))) c.loop-k.invariant (c.share.ensures ∙ made_is f a.from.now a.to.now k (omega arith) (omega arith))

pub returns : goal.returns
returns g c = let e : c.loop-k.k ≡ filled c.args.from.now c.args.to.now = omega arith in rw e at c.loop-k.invariant
