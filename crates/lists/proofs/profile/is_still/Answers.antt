use Rattle.std.proofs.Common.{◌≤◌, ◌∙◌, ap, sym, arith, length}
use Rattle.std.proofs.Math.ListN.{drop_of_length-le}
use Rattle.std.proofs.lemmas.List.{take_rest}
use Rattle.lists.specs.Profile.{all_zero}
use Rattle.lists.proofs.profile.is_still.Goals as goal

pub returns-in-Some : goal.returns-in-Some
returns-in-Some c = c.are_zero.ensures ∙ ap all_zero (c.in-Some.ensures.lookup.0.2 ∙ take_rest c.args.s.now 44)

pub returns-in-None : goal.returns-in-None
returns-in-None c =
    let h : length c.args.s.now ≤ 44 = omega (arith, c.in-None.ensures.lookup) in
    sym (ap all_zero (drop_of_length-le c.args.s.now h))
