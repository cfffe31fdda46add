-- one law of proofs/Progress.antt for each way
use Rattle.std.proofs.Common.{◌≡◌, ◌≤◌, arith, rules, refl}
use Rattle.std.proofs.lemmas.Result.{err_from_is_err_and}
use mir.Syntax.{w32}
use mir.Val.{to_z, of_z}
use Rattle.tables.specs.Degree.{N_COEFF}
use Rattle.agency.proofs.Progress.{no_header, start, refused_row, next_row, ninety, no_nines, last_row}
use Rattle.agency.proofs.file.read.Goals as goal

pub returns-in_err-header-clause-set : goal.returns-in_err-header-clause-set
returns-in_err-header-clause-set c =
    let p = err_from_is_err_and c.from_residual.result c.from_residual.ensures.1 in
    rw (p.1, p.2) (no_header _ _ c.in_err-header.ensures.header)

pub loop-k-init : goal.loop-k-init
loop-k-init c =
    let y : to_z w32 (of_z w32 c.in_ok-header.field-0) ≡ c.in_ok-header.field-0 = search rules in
    start _ _ _ _ c.in_ok-header.ensures.number (rw y c.in_ok-header.ensures.header) (refl, refl, refl, refl)

pub returns-in_err-entry-clause-set : goal.returns-in_err-entry-clause-set
returns-in_err-entry-clause-set c =
    let p = err_from_is_err_and c.from_residual-in_err-entry.result c.from_residual-in_err-entry.ensures.1 in
    rw (p.1, p.2) (refused_row _ _ _ _ _ _ c.loop-k.invariant _ (omega arith) c.in_err-entry.ensures.row)

pub following-due-requires-clause-degree_bound : goal.following-due-requires-clause-degree_bound
following-due-requires-clause-degree_bound c = let l = c.loop-k.invariant.low_degree in omega arith

pub following-due-requires-clause-order_bound : goal.following-due-requires-clause-order_bound
following-due-requires-clause-order_bound c = let l = c.loop-k.invariant.low_order in omega arith

pub loop-k-preserved : goal.loop-k-preserved
loop-k-preserved c =
    next_row _ _ _ _ _ _ c.loop-k.invariant c.in_ok-entry.entry _ _ _ (omega arith) c.in_ok-entry.ensures.row c.in_ok-entry.ensures.number c.following-due.ensures

pub returns-in_err-nines-clause-set : goal.returns-in_err-nines-clause-set
returns-in_err-nines-clause-set c =
    let p = err_from_is_err_and c.from_residual-in_err-nines.result c.from_residual-in_err-nines.ensures.1 in
    let l : N_COEFF ≤ c.loop-k.k = omega arith in
    rw (p.1, p.2) (no_nines _ _ _ _ _ _ c.loop-k.invariant l _ c.in_err-nines.ensures)

pub returns-clause-set : goal.returns-clause-set
returns-clause-set c =
    let l : N_COEFF ≤ c.loop-k.k = omega arith in
    last_row _ _ _ _ _ _ c.loop-k.invariant l _ c.in_ok-nines.ensures

pub returns-clause-ninety : goal.returns-clause-ninety
returns-clause-ninety c = ninety _ _ _ _ _ _ c.loop-k.invariant
