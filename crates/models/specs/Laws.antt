-- What is said leaves one answer; the offset at the epoch.
use Rattle.std.specs.Prelude.{◌≡◌, refl, Bool, true, false, cond, ℤ, pos, Result}
use Rattle.std.proofs.Common.{sym, ◌∙◌}
use Rattle.std.proofs.Math.IntN.{+ℤ_invr}
use Rattle.std.specs.Float.{fin}
use Rattle.std.specs.Float.Ieee.{of_int, add, div}
use Rattle.refusals.specs.Paper.{Paper, said}
use Rattle.refusals.specs.declared.Refusal.{Refusal}
use Rattle.refusals.proofs.Laws.{said_one}
use Rattle.models.specs.declared.errors.WmmErrorModel.{WmmErrorModel}
use Rattle.models.specs.declared.epochs.EpochOffset.{EpochOffset}
use Rattle.models.specs.Calendar.{leap_year}
use Rattle.models.specs.Epochs.{whole_and_part, offset_of}

-- ---- any two answers that a contract allows are equal
pub epoch_answer_one : (p : Paper EpochOffset) (r s : Result EpochOffset Refusal) → said r ≡ p → said s ≡ p → r ≡ s
epoch_answer_one p r s h k = said_one r s (h ∙ sym k)

pub error_answer_one : (p : Paper WmmErrorModel) (r s : Result WmmErrorModel Refusal) → said r ≡ p → said s ≡ p → r ≡ s
error_answer_one p r s h k = said_one r s (h ∙ sym k)

-- ---- on day 1 of the epoch year the offset is +0
pub offset_at_epoch : (year : ℤ) → offset_of year year (pos 1) ≡ fin false 0 (pos 0)
unfolding offset_of of_int add div
offset_at_epoch year = rw (+ℤ_invr year) (zero_of (leap_year year))
  where
    zero_of : (t : Bool) → whole_and_part (pos 0) (pos 0) (cond t 366 365) ≡ fin false 0 (pos 0)
    zero_of true = refl
    zero_of false = refl
