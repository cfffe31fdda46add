-- The allowance in the IGRF profile (document 02, Wish 8): for what the profile is asked, its refusals, and where it answers, an upper bound of demand 3's allowance for each component. Definitions only.
use Rattle.std.specs.Prelude.{Bool, ℤ}
use Rattle.refusals.specs.Paper.{Paper, answered, after}
use Rattle.models.specs.declared.epochs.EpochOffset.{EpochOffset}
use Rattle.models.specs.Epochs.{epoch_offset}
use Rattle.sums.specs.Arithmetic.{sizes}
use Rattle.igrf.specs.Igrf.{Profile, early, igrf_x, igrf_y, igrf_z, igrf_says}
use Rattle.bounds.specs.Bounds.{Covers, allowed, bounds}
use Rattle.allowance.specs.declared.Allowances.{Allowances}

-- what is shown for the majorant of each component; before 2025 it takes the first set, the second and the offset by size
abbrev pub igrf_allowances : Profile → (soon : Bool) → EpochOffset → Allowances
igrf_allowances a soon e = record { x = allowed (igrf_x bounds a e soon); y = allowed (igrf_y bounds a e soon); z = allowed (igrf_z bounds a e soon) }

-- the profile's refusals in their order, then the three allowances of that day
unfoldable pub igrf_allowance_says : Profile → (year day : ℤ) → Paper Allowances
igrf_allowance_says a year day = after (igrf_says a year day) (λ v. answered (igrf_allowances a (early year) (epoch_offset year day)))

-- each number covers demand 3's allowance for the profile's component, with the sizes as its majorant as in the profile's promise
pub record IgrfCovered (a : Profile) (soon : Bool) (e : EpochOffset) (v : Allowances) : Type 0 where
  pub x : Covers v.x (igrf_x sizes a e soon)
  pub y : Covers v.y (igrf_y sizes a e soon)
  pub z : Covers v.z (igrf_z sizes a e soon)
