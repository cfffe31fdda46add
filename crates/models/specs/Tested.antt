-- What is known of a year, and of a day in its year, that passes the tests of Epoch, in naturals.
use Rattle.std.specs.Prelude.{◌≡◌, ℕ, ◌+◌, ◌≤◌, ℤ, pos}
use Rattle.models.specs.Calendar.{days_in_year}
use Rattle.models.specs.Epochs.{epoch_year_of}

pub record InEpoch (year : ℤ) : Type 0 where
  pub y : ℕ
  pub ep : ℕ
  pub year_is : year ≡ pos y
  pub epoch_is : epoch_year_of year ≡ pos ep
  pub latest : y ≤ 2029
  pub since : ep ≤ y
  pub until : y ≤ ep + 4

pub record InYear (year day : ℤ) : Type 0 where
  pub d : ℕ
  pub day_is : day ≡ pos d
  pub first : 1 ≤ d
  pub last : d ≤ days_in_year year
