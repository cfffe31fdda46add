use Rattle.std.proofs.Common.{◌≡◌, ◌+◌, ◌-◌, ◌<◌, arith}
use Rattle.tables.specs.Degree.{M_LEN}
use Rattle.synthesis.proofs.TermsHold.{corner_put}
use Rattle.synthesis.proofs.GeneralSum.{corner_is}
use Rattle.synthesis.proofs.general.Lanes.put_all.Goals as goal

pub loop-m-preserved : goal.loop-m-preserved
loop-m-preserved c =
    let a = c.args in
    let l = c.loop-m in
    let m = l.m in
    let z : 0 < m = c.loop-m-test.true in (
      omega (arith, z, l.invariant.0),
      omega arith,
      λ i G F s.
          let u = l.invariant.2 i G F s in
          let e : m - 4 + 4 ≡ m = omega (arith, z, l.invariant.0) in
          let hm : m < M_LEN = omega arith in
          c.put_four_orders.ensures i G (rw e u.0) (rw (e, c.put_corner.ensures) (corner_put i _ m _ _ hm (corner_is i a.self _ m G z (omega (arith, c.requires.0)) hm l.invariant.0) u.1)),
    )
