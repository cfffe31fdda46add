-- The turn keeps near what is near, for any two arithmetics of which one keeps near the other.
use lib.Ieee.{Float}
use Rattle.exact.proofs.Ranks.{Abs, FineA, Leaf, Nr, add_a, fine_ok, leaf_a, mul_a}
use Rattle.exact.specs.Exact.{Exact}
use Rattle.exact.proofs.Circle.{circle_leaf}
use Rattle.sums.specs.Arithmetic.{Arithmetic}
use Rattle.sums.proofs.Keeps.{Keeps}
use Rattle.sums.proofs.Terms.{ang_s, leg_s, pow_s}
use Rattle.synthesis.specs.Sum.{Lent, SumAccepted, sum_x, sum_z}
use Rattle.sums.proofs.Near.{acc_a, sum_a}
use Rattle.synthesis.proofs.Demand.{sum_x_near, sum_z_near}
use Rattle.field.specs.Turn.{cos_turn, sin_turn, turn_x, turn_z}

-- ---- from any X' and Z' of the bound a
abbrev pub turn_a : Abs
turn_a = add_a (mul_a (leaf_a 2) (leaf_a 2)) (mul_a (leaf_a 2) (leaf_a 2))

abbrev pub both_a : Abs → Abs
both_a a = add_a (mul_a a turn_a) (mul_a a turn_a)

module _ {o : Arithmetic Float} {o' : Arithmetic Exact} (kept : Keeps o o') (c s cp sp : Float) (C : Leaf 2 c) (S : Leaf 2 s) (CP : Leaf 2 cp) (SP : Leaf 2 sp) where
  four : {p q : Float} → Leaf 2 p → Leaf 2 q → Nr (mul_a (leaf_a 2) (leaf_a 2)) (o.times (o.num p) (o.num q)) (o'.times (o'.num p) (o'.num q))
  four p q = kept.times {a = leaf_a 2} {b = leaf_a 2} (kept.num p) (kept.num q) (fine_ok (mul_a (leaf_a 2) (leaf_a 2)) tt)

  sin_near : Nr turn_a (sin_turn o c s cp sp) (sin_turn o' c s cp sp)
  unfolding sin_turn
  sin_near = kept.less {a = mul_a (leaf_a 2) (leaf_a 2)} {b = mul_a (leaf_a 2) (leaf_a 2)} (four C CP) (four S SP) (fine_ok turn_a tt)

  cos_near : Nr turn_a (cos_turn o c s cp sp) (cos_turn o' c s cp sp)
  unfolding cos_turn
  cos_near = kept.plus {a = mul_a (leaf_a 2) (leaf_a 2)} {b = mul_a (leaf_a 2) (leaf_a 2)} (four S CP) (four C SP) (fine_ok turn_a tt)

  module _ (a : Abs) (f g : Float) (x z : Exact) (X : Nr a f x) (Z : Nr a g z) (F : FineA (mul_a a turn_a)) (G : FineA (both_a a)) where
    pub turn_x_near : Nr (both_a a) (turn_x o c s cp sp f g) (turn_x o' c s cp sp x z)
    unfolding turn_x
    turn_x_near = kept.plus {a = mul_a a turn_a} {b = mul_a a turn_a} (kept.times {a = a} {b = turn_a} (kept.opp {a = a} X) cos_near F) (kept.times {a = a} {b = turn_a} Z sin_near F) G

    pub turn_z_near : Nr (both_a a) (turn_z o c s cp sp f g) (turn_z o' c s cp sp x z)
    unfolding turn_z
    turn_z_near = kept.less {a = mul_a a turn_a} {b = mul_a a turn_a} (kept.times {a = a} {b = turn_a} (kept.opp {a = a} X) sin_near F) (kept.times {a = a} {b = turn_a} Z cos_near F) G

-- ---- from the sums
abbrev pub turned_a : Abs
turned_a = both_a sum_a

module _ {o : Arithmetic Float} {o' : Arithmetic Exact} (kept : Keeps o o') (a : Lent) (w : SumAccepted a) (cp sp : Float) (CP : Leaf 2 cp) (SP : Leaf 2 sp) where
  c_leaf : Leaf 2 a.cos_theta
  c_leaf = (circle_leaf a.sin_theta a.cos_theta w.colatitude).1

  s_leaf : Leaf 2 a.sin_theta
  s_leaf = (circle_leaf a.sin_theta a.cos_theta w.colatitude).0

  pub turned_x_near : Nr turned_a (turn_x o a.cos_theta a.sin_theta cp sp (sum_x o a) (sum_z o a)) (turn_x o' a.cos_theta a.sin_theta cp sp (sum_x o' a) (sum_z o' a))
  unfolding acc_a leg_s ang_s pow_s
  turned_x_near =
      turn_x_near kept a.cos_theta a.sin_theta cp sp c_leaf s_leaf CP SP sum_a (sum_x o a) (sum_z o a) (sum_x o' a) (sum_z o' a) (sum_x_near a w kept) (sum_z_near a w kept)
      (fine_ok (mul_a sum_a turn_a) tt) (fine_ok turned_a tt)

  pub turned_z_near : Nr turned_a (turn_z o a.cos_theta a.sin_theta cp sp (sum_x o a) (sum_z o a)) (turn_z o' a.cos_theta a.sin_theta cp sp (sum_x o' a) (sum_z o' a))
  unfolding acc_a leg_s ang_s pow_s
  turned_z_near =
      turn_z_near kept a.cos_theta a.sin_theta cp sp c_leaf s_leaf CP SP sum_a (sum_x o a) (sum_z o a) (sum_x o' a) (sum_z o' a) (sum_x_near a w kept) (sum_z_near a w kept)
      (fine_ok (mul_a sum_a turn_a) tt) (fine_ok turned_a tt)
