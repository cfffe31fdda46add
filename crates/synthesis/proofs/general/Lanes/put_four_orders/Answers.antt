use Rattle.std.proofs.Common.{◌≡◌, ◌+◌, ◌-◌, ◌<◌, ◌≤◌, arith, refl}
use Rattle.tables.specs.Degree.{M_LEN, N_MAX}
use Rattle.synthesis.proofs.PlaceSizes.{inside_four}
use Rattle.synthesis.proofs.RowsHold.{apart_rotate}
use Rattle.synthesis.proofs.TermsHold.{block_end, block_start}
use Rattle.synthesis.proofs.GeneralSum.{carried_start, degree_on, rows_end, rows_start}
use Rattle.synthesis.proofs.general.Lanes.put_four_orders.Goals as goal

pub four_terms-v-requires-clause-reach : goal.four_terms-v-requires-clause-reach
four_terms-v-requires-clause-reach c =
    let a = c.args in
    let L = c.requires.of_degree in
    let l = c.loop-n in
    let e = c.legendre_index-i.ensures.0 in
    let u = inside_four a.top l.n a.m (omega arith) l.invariant.0 (omega (arith, c.requires.m_bound.0, L.0)) in
    (omega (arith, e, u, L.2), omega (arith, e, u, L.3), omega (arith, e, u, L.4), omega (arith, e, u, L.5))

pub loop-n-preserved : goal.loop-n-preserved
loop-n-preserved c =
    let a = c.args in
    let l = c.loop-n in
    let n = l.n in
    let h = l.invariant in
    let m = c.requires.m_bound in (
      omega arith,
      omega arith,
      rw c.rotated-q.ensures (apart_rotate _ h.2),
      λ i G C R B.
          let t = h.3 i G C R B in
          let ht : n ≤ a.top = omega arith in
          let hn : n < M_LEN = omega (arith, ht, c.requires.of_degree.1) in
          let ej : a.m + N_MAX - n + n ≡ a.m + N_MAX = omega (arith, hn) in
          degree_on i a.self a.top n G (omega arith) ht hn a.m _ _ _ _ _ _ _ m.1 h.0 m.0 c.legendre_index-i.ensures.0 ej t.0 t.1 c.four_at-b.ensures
          _ _ _ _ _ _ c.lower_four-a.ensures c.next_k-next.ensures c.put_four.ensures c.rotated-q.ensures (rw c.four_terms-v.ensures at c.put_four-in-loop-n.ensures) t.2,
    )

pub returns : goal.returns
returns c = λ i G F A.
    let a = c.args in
    let l = c.loop-n in
    let m = c.requires.m_bound in
    let R = rows_start i a.m a.rows.now m.1 F in
    let e : l.n ≡ a.top + 1 = omega arith in
    let t = l.invariant.3 i G (carried_start i a.m a.rows.now _ _ G.given.K m.1 m.0 R c.four_at-r.ensures refl) R (block_start i _ a.m a.terms.now A) in
    (rows_end i a.m _ _ _ t.1, block_end i _ a.m _ (rw e at t.2))
