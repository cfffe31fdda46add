use Rattle.std.proofs.Common.{rules, refl, ◌∙◌}
use Rattle.sums.specs.Arithmetic.{rounded}
use Rattle.sums.specs.Paths.{placed}
use Rattle.synthesis.specs.Sum.{inputs, lent_at}
use Rattle.synthesis.specs.Code.{Ready}
use Rattle.synthesis.proofs.AcceptedPlain.{plain}
use Rattle.synthesis.proofs.GeneralSum.{given, lane_total_lem, started, weighed}
use Rattle.synthesis.proofs.general.synthesize_xyz_prime.Goals as goal

pub returns : goal.returns
unfolding inputs placed
returns c =
    let e = c.args in
    let a = lent_at e.theta e.lambda e.ratio e.dated.offset e.dated.lists in
    let i = inputs rounded a in
    let h = c.requires.of_degree in
    let s = c.start_values-starts.ensures in
    let r : Ready i e.top _ = record {
      given = given e.theta e.lambda e.ratio e.top _ h c.schmidt_table-schmidt.ensures c.sin_cos_m_lambda-angles.ensures;
      weighed = weighed i _ _ _ refl refl c.lane_weights-weights.ensures;
      started = started i _ s;
    } in
    c.sums.ensures i refl r s
    ∙ lane_total_lem i (plain a c.requires.t (search rules) (search rules)) e.top h.1
