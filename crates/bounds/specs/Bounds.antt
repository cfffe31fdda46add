-- The majorant with rounding: the sums of the model over f32, with every number taken by its size and every minus read as plus. Definitions only.
-- `bounds` is what the code computes; `absolutes` is the same with nothing rounded. Its sums are the majorants of demand 3.
use Rattle.std.specs.Prelude.{ℕ, ◌*◌, ◌≤◌, ◌<◌, ◌≡◌, T, Float}
use Rattle.std.specs.Float.{binary32}
use Rattle.std.specs.Float.Ieee.{of_bits, add, mul, div}
use Rattle.std.specs.Float.Ieee.Scale.{finite}
use Rattle.exact.specs.Tests.{abs}
use Rattle.exact.specs.Exact.{Exact, Size, add_e, mul_e, inv_e, own}
use Rattle.exact.specs.Within.{FINE, distance}
use Rattle.sums.specs.Arithmetic.{Arithmetic}

-- f32 operations on sizes, each rounded once
unfoldable pub bounds : Arithmetic Float
bounds = record { plus = add binary32; less = add binary32; times = mul binary32; opp = λ x. x; over = λ x s. div binary32 x (abs s); num = abs }

-- the same, exact
unfoldable pub absolutes : Arithmetic Exact
absolutes = record { plus = add_e; less = add_e; times = mul_e; opp = λ x. x; over = λ x s. mul_e x (inv_e (own (abs s))); num = λ f. own (abs f) }

-- what is shown for a rounded majorant b: (b·(1 + 2^-8) + 0.1256)·2^-17, each operation rounded once
unfoldable pub allowed : Float → Float
allowed b = mul binary32 (add binary32 (mul binary32 b (of_bits binary32 0x3f808000)) (of_bits binary32 0x3e009d49)) (of_bits binary32 0x37000000)

-- what is shown lies between so many hundredths of the promised distance
abbrev pub LEAST : ℕ
LEAST = 100

abbrev pub MOST : ℕ
MOST = 101

-- f is at least the promised distance for the majorant M, and at most 1.01 times as much. Each side multiplied by the denominators.
pub record Covers (f : Float) (M : Size) : Type 0 where
  pub is_finite : T (finite f)
  pub some_over : 0 < M.over
  pub no_minus : (own f).minus ≡ 0
  pub at_least : LEAST * (distance M.num M.over * (own f).over) ≤ 100 * ((own f).plus * FINE * M.over)
  pub at_most : 100 * ((own f).plus * FINE * M.over) ≤ MOST * (distance M.num M.over * (own f).over)
