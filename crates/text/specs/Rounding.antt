-- What the functions of src/nearest.rt promise each other. Definitions only; no entry's contract cites them.
use Rattle.std.specs.Prelude.{◌≡◌, Bool, cond, ℕ, ◌+◌, ◌*◌, ◌^◌, ◌≤◌, ◌<◌}
use Rattle.std.specs.Float.{binary32}
use Rattle.std.specs.Float.Ieee.{round, of_bits}

-- 32 binary digits
pub record Long (m : ℕ) : Type 0 where
  pub least : 2 ^ 31 ≤ m
  pub most : m < 2 ^ 32

-- m is n with its leading digit brought to the 32nd place, by `by` places
pub record Lifted (n m by : ℕ) : Type 0 where
  pub long : Long m
  pub few : by ≤ 31
  pub is : m ≡ n * 2 ^ by

-- num / den has 24 binary digits
pub record Normal (num den : ℕ) : Type 0 where
  pub long : Long den
  pub least : 2 ^ 23 * den ≤ num
  pub most : num < 2 ^ 24 * den

-- a / b has them with j binary places more
pub record Extra (a b j : ℕ) : Type 0 where
  pub from : 23 ≤ j
  pub to : j ≤ 24
  pub normal : Normal (a * 2 ^ j) b

-- r is the bit pattern of n / d, rounded; the sign's bit is put before it
pub record Packed (n d r : ℕ) : Type 0 where
  pub low : r < 0x7f80_0000
  pub is : (s : Bool) → of_bits binary32 (cond s 0x8000_0000 0 + r) ≡ round binary32 s n d
