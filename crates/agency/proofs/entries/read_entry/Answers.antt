-- each return is a law of proofs/Rows.antt
use Rattle.std.proofs.Common.{◌≡◌, ◌∙◌, rules}
use mir.Syntax.{w32}
use mir.Val.{to_z, of_z}
use Rattle.agency.proofs.Rows.{no_degree, no_order, no_g, no_h, no_g_dot, no_h_dot, too_many, good_entry}
use Rattle.agency.proofs.entries.read_entry.Goals as goal

pub returns-in_err-degree : goal.returns-in_err-degree
returns-in_err-degree c = c.from_residual.ensures ∙ no_degree _ c.in_err-degree.ensures

pub returns-in_err-order : goal.returns-in_err-order
returns-in_err-order c = c.from_residual-in_err-order.ensures ∙ no_order _ _ _ c.in_ok-degree.ensures c.in_err-order.ensures

pub returns-in_err-g : goal.returns-in_err-g
returns-in_err-g c = c.from_residual-in_err-g.ensures ∙ no_g _ _ _ c.in_ok-degree.ensures _ _ c.in_ok-order.ensures c.in_err-g.ensures

pub returns-in_err-h : goal.returns-in_err-h
returns-in_err-h c = c.from_residual-in_err-h.ensures ∙ no_h _ _ _ c.in_ok-degree.ensures _ _ c.in_ok-order.ensures _ _ c.in_ok-g.ensures c.in_err-h.ensures

pub returns-in_err-g_dot : goal.returns-in_err-g_dot
returns-in_err-g_dot c =
    c.from_residual-in_err-g_dot.ensures ∙ no_g_dot _ _ _ c.in_ok-degree.ensures _ _ c.in_ok-order.ensures _ _ c.in_ok-g.ensures _ _ c.in_ok-h.ensures c.in_err-g_dot.ensures

pub returns-in_err-h_dot : goal.returns-in_err-h_dot
returns-in_err-h_dot c =
    c.from_residual-in_err-h_dot.ensures
    ∙ no_h_dot _ _ _ c.in_ok-degree.ensures _ _ c.in_ok-order.ensures _ _ c.in_ok-g.ensures _ _ c.in_ok-h.ensures _ _ c.in_ok-g_dot.ensures c.in_err-h_dot.ensures

pub returns-then-not-is_end : goal.returns-then-not-is_end
returns-then-not-is_end c =
    too_many _ _ _ c.in_ok-degree.ensures _ _ c.in_ok-order.ensures _ _ c.in_ok-g.ensures _ _ c.in_ok-h.ensures _ _ c.in_ok-g_dot.ensures _ _ c.in_ok-h_dot.ensures c.if-not-is_end.ensures

pub returns : goal.returns
returns c =
    let d : to_z w32 (of_z w32 c.in_ok-degree.degree) ≡ c.in_ok-degree.degree = search rules in
    let o : to_z w32 (of_z w32 c.in_ok-order.order) ≡ c.in_ok-order.order = search rules in
    rw (d, o)
    (good_entry _ _ _ c.in_ok-degree.ensures _ _ c.in_ok-order.ensures _ _ c.in_ok-g.ensures _ _ c.in_ok-h.ensures _ _ c.in_ok-g_dot.ensures _ _ c.in_ok-h_dot.ensures c.if-not-is_end.ensures)
