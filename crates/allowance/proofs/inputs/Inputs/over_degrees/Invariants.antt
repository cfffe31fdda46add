use Rattle.std.proofs.Common.{◌≡◌, ◌<◌, ℕ, length}
use Rattle.std.specs.Prelude.{Float}
use Rattle.tables.specs.Degree.{degree_of}
use Rattle.sums.specs.Recurrence.{power}
use Rattle.synthesis.specs.declared.Xyz.{Xyz}
use Rattle.synthesis.specs.Sum.{inputs}
use Rattle.bounds.specs.Bounds.{bounds}
use Rattle.allowance.specs.Code.{lent_of, over_degrees}
use Rattle.allowance.proofs.inputs.Inputs.over_degrees.Given as goal

-- the degrees up to j are added up
abbrev pub invariant-loop-j : goal.invariant-loop-j
invariant-loop-j g l = record {
  top : l.top ≡ degree_of (length l.fn.self.lists.g.now);
  power : l.a_over_r_n2 ≡ power bounds (inputs bounds (lent_of l.fn.self)) l.j;
  sums : (of_degree : ℕ → Float → Xyz) → ((j : ℕ) (power : Float) (r : Xyz) → j < degree_of (length l.fn.self.lists.g.now) → goal.F-post g l.fn.part j power r → r ≡ of_degree j power) → l.tot ≡ over_degrees (lent_of l.fn.self) of_degree l.j;
}
