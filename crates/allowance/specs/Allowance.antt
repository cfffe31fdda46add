-- The entry Allowance: for what Field is asked, its refusals, and where Field answers, an upper bound of demand 3's allowance for each component.
-- Definitions only.
use Rattle.std.specs.Prelude.{ℤ}
use Rattle.refusals.specs.Paper.{Paper, answered, after}
use Rattle.models.specs.declared.epochs.EpochOffset.{EpochOffset}
use Rattle.models.specs.Epochs.{epoch_offset}
use Rattle.sums.specs.Arithmetic.{sizes}
use Rattle.field.specs.Field.{Asked, field_x, field_y, field_z, field_says}
use Rattle.allowance.specs.declared.Allowances.{Allowances}
use Rattle.bounds.specs.Bounds.{bounds, allowed, Covers}

-- what is shown for the majorant of each component, for a day of epoch and offset e
abbrev pub allowances_of : Asked → EpochOffset → Allowances
allowances_of a e = record { x = allowed (field_x bounds a e); y = allowed (field_y bounds a e); z = allowed (field_z bounds a e) }

-- Field's refusals in Field's order, then the three allowances of that day
unfoldable pub allowance_says : Asked → (year day : ℤ) → Paper Allowances
allowance_says a year day = after (field_says a year day) (λ v. answered (allowances_of a (epoch_offset year day)))

-- each number covers demand 3's allowance for Field's component, with the sizes as its majorant as in Field's promise
pub record Covered (a : Asked) (e : EpochOffset) (v : Allowances) : Type 0 where
  pub x : Covers v.x (field_x sizes a e)
  pub y : Covers v.y (field_y sizes a e)
  pub z : Covers v.z (field_z sizes a e)
