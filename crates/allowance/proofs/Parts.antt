-- What is read at a degree and an order.
use mathlib.Core.Path.{◌≡◌, refl, ◌∙◌}
use mathlib.Core.List.{List}
use Prim.Native.Nat.{ℕ, ◌-◌, ◌<◌, ◌≤◌}
use lib.ListN.{get_or, length}
use lib.Ieee.{Float, nan, binary32, add, mul}
use Rattle.exact.specs.Tests.{abs}
use Rattle.tables.specs.Degree.{degree_of, place}
use Rattle.tables.specs.Tables.{schmidt_at}
use Rattle.sums.specs.Recurrence.{coefficient, dpsn, legendre, psn}
use Rattle.sums.specs.Paths.{at, placed}
use Rattle.synthesis.specs.Sum.{inputs}
use Rattle.synthesis.proofs.GeneralSum.{at_read}
use Rattle.allowance.specs.declared.inputs.Inputs.{Inputs}
use Rattle.synthesis.specs.declared.angles.SinCos.{SinCos}
use Rattle.synthesis.specs.declared.rows.PDp.{PDp}
use Rattle.allowance.specs.declared.terms.Parts.{Parts}
use Rattle.bounds.specs.Bounds.{bounds}
use Rattle.synthesis.specs.Code.{pdp}
use Rattle.allowance.specs.Code.{lent_of, pair_of, parts_of}

pub parts_are : (q : Inputs) (n m k : ℕ) (u : SinCos) (s gt ht : Float) (r : PDp)
    → 0 < n → n ≤ degree_of (length q.lists.g.now) → m ≤ n → k ≡ place n m - 1
    → s ≡ abs (schmidt_at (place n m))
    → gt ≡ coefficient bounds (abs (get_or q.lists.g.now k nan)) (abs (get_or q.lists.g_dot.now k nan)) (abs q.offset)
    → ht ≡ coefficient bounds (abs (get_or q.lists.h.now k nan)) (abs (get_or q.lists.h_dot.now k nan)) (abs q.offset)
    → r ≡ pdp (legendre bounds (inputs bounds (lent_of q)) n m)
    → ◌≡◌ {A = Parts}
    (record { gc = add binary32 (mul binary32 gt u.cos) (mul binary32 ht u.sin); gs = add binary32 (mul binary32 gt u.sin) (mul binary32 ht u.cos); ps = mul binary32 s r.p; dps = mul binary32 s r.dp })
    (parts_of (lent_of q) n m (pair_of u))
unfolding parts_of inputs placed psn dpsn bounds
parts_are q n m k u s gt ht r z hn hm ek es eg eh er =
    let l = q.lists in
    let L = q.long in
    let read : (x : List Float) → length x ≡ length l.g.now → get_or x k nan ≡ at x n m = λ x e. at_read x (degree_of (length l.g.now)) n m k (e ∙ L.g_long) z hn hm ek in
    rw (es, eg, eh, er, read l.g.now refl, read l.h.now L.h_long, read l.g_dot.now L.gd_long, read l.h_dot.now L.hd_long)
