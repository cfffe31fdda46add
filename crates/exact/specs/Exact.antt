-- Exact numbers: (plus - minus) / over. Definitions only. Nothing is ever cancelled, so (plus + minus) / over is the majorant: the same sum
-- with every number replaced by its size and every minus by plus.
use Rattle.std.specs.Prelude.{ℕ, ◌+◌, ◌*◌, ◌/◌, ◌^◌, true, false, pos, Float}
use Rattle.std.specs.Float.{nan, inf, fin, binary32}
use Rattle.std.specs.Float.Ieee.{up, down, of_int}

pub record Exact : Type 0 where
  pub plus : ℕ
  pub minus : ℕ
  pub over : ℕ

-- the sum
unfoldable pub add_e : Exact → Exact → Exact
add_e x y = record { plus = x.plus * y.over + y.plus * x.over; minus = x.minus * y.over + y.minus * x.over; over = x.over * y.over }

-- the product
unfoldable pub mul_e : Exact → Exact → Exact
mul_e x y = record { plus = x.plus * y.plus + x.minus * y.minus; minus = x.plus * y.minus + x.minus * y.plus; over = x.over * y.over }

-- the opposite
unfoldable pub neg_e : Exact → Exact
neg_e x = record { plus = x.minus; minus = x.plus; over = x.over }

-- the difference
unfoldable pub sub_e : Exact → Exact → Exact
unfolding add_e neg_e
sub_e x y = add_e x (neg_e y)

-- one over x, for an x of which one part is 0 and the other is not
unfoldable pub inv_e : Exact → Exact
inv_e x = record { plus = x.plus * x.over; minus = x.minus * x.over; over = x.plus * x.plus + x.minus * x.minus }

-- the number that a finite float is
unfoldable pub own : Float → Exact
own nan = record { plus = 0; minus = 0; over = 1 }
own (inf s) = record { plus = 0; minus = 0; over = 1 }
own (fin false m e) = record { plus = m * up e; minus = 0; over = down e }
own (fin true m e) = record { plus = 0; minus = m * up e; over = down e }

-- a whole number as an f32
unfoldable pub lit : ℕ → Float
lit n = of_int binary32 (pos n)

-- a finite float's size in units of 2 ^ -149, the smallest f32
abbrev pub units_of : Float → ℕ
units_of nan = 0
units_of (inf s) = 0
units_of (fin s m e) = m * up e * 2 ^ 149 / down e

-- a size: num / over
pub record Size : Type 0 where
  pub num : ℕ
  pub over : ℕ

-- the majorant of an exact number: its parts added
abbrev pub size : Exact → Size
size x = record { num = x.plus + x.minus; over = x.over }
