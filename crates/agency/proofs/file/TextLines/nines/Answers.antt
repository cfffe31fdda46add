use Rattle.std.proofs.Common.{◌∙◌, sym, ap, refl, Err}
use Rattle.refusals.specs.declared.Refusal.TheVariants.{Malformed}
use Rattle.text.specs.Lines.{lines}
use Rattle.agency.specs.Cof.{nines_verdict}
use Rattle.agency.proofs.Rows.{nines_end, nines_bad, nines_on}
use Rattle.agency.proofs.file.TextLines.nines.Goals as goal

pub returns-then-not-is_nines : goal.returns-then-not-is_nines
returns-then-not-is_nines c =
    let i = c.loop-line.invariant in
    ap (λ n. Err (Malformed n)) i.0 ∙ nines_bad _ _ _ _ c.in-Some.ensures.line c.if-not-is_nines.ensures ∙ sym i.1

pub loop-line-preserved : goal.loop-line-preserved
loop-line-preserved c =
    let i = c.loop-line.invariant in (
      refl,
      i.1 ∙ nines_on _ _ _ _ c.in-Some.ensures.line c.if-not-is_nines.ensures ∙ ap (λ n. nines_verdict n (lines c.next.new.self.rest.now)) (sym c.in-Some.ensures.number),
    )

pub returns : goal.returns
returns c = nines_end _ _ c.in_default.ensures.line ∙ sym c.loop-line.invariant.1
