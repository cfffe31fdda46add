-- What is known of a day that Epoch accepts, in naturals.
use Rattle.std.specs.Prelude.{◌≡◌, ℕ, ◌+◌, ◌≤◌, ℤ, pos}
use Rattle.models.specs.declared.epochs.EpochOffset.{EpochOffset}
use Rattle.models.specs.Calendar.{days_in_year}
use Rattle.models.specs.Epochs.{natural_offset}

-- the year y, its epoch year ep, the day d and the year's length n
pub record Dated (year day : ℤ) (e : EpochOffset) : Type 0 where
  pub y : ℕ
  pub ep : ℕ
  pub d : ℕ
  pub n : ℕ
  pub year_is : year ≡ pos y
  pub epoch_is : e.epoch_year ≡ pos ep
  pub day_is : day ≡ pos d
  pub days_are : n ≡ days_in_year year
  pub latest : y ≤ 2029
  pub since : ep ≤ y
  pub until : y ≤ ep + 4
  pub first : 1 ≤ d
  pub last : d ≤ n
  pub longest : n ≤ 366
  pub offset_is : e.offset ≡ natural_offset y ep d n
