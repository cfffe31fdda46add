use Rattle.std.proofs.Common.{arith}
use Rattle.std.proofs.lemmas.Grind.{common_steps}
use Rattle.refusals.specs.Paper.{said}
use Rattle.lists.specs.Sets.{lists_of}
use Rattle.ffi.proofs.Either.{form_read}
use Rattle.ffi.proofs.forms.field_by.Goals as goal

pub returns-in_err-epoch_year : goal.returns-in_err-epoch_year
returns-in_err-epoch_year g c =
    let a = c.args in
    let p = a.place in
    let n = c.read_either.new in
    let e = form_read a.stored.now p.height p.latitude.sin p.latitude.cos p.longitude.sin p.longitude.cos a.day.year a.day.day_of_year (said c.read_either.result) (lists_of n.g n.h n.g_dot n.h_dot) g.row.N c.requires.whole c.requires.fits c.read_either.ensures.answer in
    grind (arith, common_steps)

pub returns : goal.returns
returns g c =
    let a = c.args in
    let p = a.place in
    let n = c.read_either.new in
    let e = form_read a.stored.now p.height p.latitude.sin p.latitude.cos p.longitude.sin p.longitude.cos a.day.year a.day.day_of_year (said c.read_either.result) (lists_of n.g n.h n.g_dot n.h_dot) g.row.N c.requires.whole c.requires.fits c.read_either.ensures.answer in
    grind (arith, common_steps)
