use Rattle.std.proofs.Common.{refl, ap, ℕ, ◌-◌}
use Rattle.allowance.proofs.Parts.{parts_are}
use Rattle.allowance.proofs.inputs.Inputs.parts_at.Goals as goal

pub returns : goal.returns
returns c =
    let r = c.requires in
    parts_are c.args.self _ _ _ c.args.u _ _ _ _ r.0 r.1 r.2 (ap (λ (x : ℕ). x - 1) c.legendre_index-k.ensures.0) c.schmidt_size-s.ensures c.coeff_at_t-gt.ensures c.coeff_at_t-ht.ensures (c.p_dp-r.ensures _ refl refl)
