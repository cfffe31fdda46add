use Rattle.std.proofs.Common.{sym, refl}
use Rattle.strengths.specs.Strengths.{f_of}
use Rattle.rates.specs.Rates.{rates_of}
use Rattle.rates.proofs.Answers.{divided, no_f}
use Rattle.rates.proofs.rates_with.Goals as goal

pub returns-then-f : goal.returns-then-f
unfolding f_of
returns-then-f c =
    let h = c.requires.0 in
    no_f c.args.v c.args.r (rw (sym h) c.requires.1) (rw (sym h, sym c.sqrt-f.ensures) c.if-f.true)

pub returns : goal.returns
unfolding rates_of f_of
returns c =
    let h = c.requires.0 in
    divided c.args.v c.args.r (rw (sym h) c.requires.1) (rw (sym h, sym c.sqrt-f.ensures) c.if-f.false) _
    (rw (sym h, sym c.sqrt-f.ensures) (rw (c.declination_rate.ensures, c.inclination_rate.ensures, c.h_rate.ensures, c.f_rate.ensures) refl))
