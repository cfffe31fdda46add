-- Pi, the sine, the cosine and the arctangent, each enclosed between fractions of whole numbers: all that is exact of them stands on this page. Definitions only.
use Rattle.std.specs.Prelude.{ℕ, zero, suc, ◌+◌, ◌-◌, ◌*◌, ◌^◌, ◌≤◌}

-- top / bottom
pub record Ratio : Type 0 where
  pub top : ℕ
  pub bottom : ℕ

-- pi lies between pi_low / pi_over and pi_high / pi_over: 3.14159265358 and 3.14159265359 (`pi_by_machin` in proofs/Pi.antt)
abbrev pub pi_low : ℕ
pi_low = 314159265358

abbrev pub pi_high : ℕ
pi_high = 314159265359

abbrev pub pi_over : ℕ
pi_over = 100000000000

-- How the terms of a series follow each other: the next one is the last one times - (times j) * s / (over j), and j grows by 2 with each
pub record Terms : Type 0 where
  pub times : ℕ → ℕ
  pub over : ℕ → ℕ

-- The first k + 1 terms, for s = u / v, one factor drawn out at a time: 1 - (times j) * s / (over j) * (1 - (times (j + 2)) * s / (over (j + 2)) * (1 - ..)).
-- For a positive s of which `times j * s ≤ over j` for all j, the sums of an even number of terms are below the series, and those of an uneven number above it;
-- and no difference is cut off at zero (`whole` in proofs/Sums.antt).
unfoldable pub nested : Terms → ℕ → ℕ → ℕ → ℕ → Ratio
nested t zero j u v = record { top = 1; bottom = 1 }
nested t (suc k) j u v =
    let r = nested t k (j + 2) u v in
    let b = t.over j * v * r.bottom in
    record { top = b - t.times j * u * r.top; bottom = b }

-- With s the square of an angle r in radians: 1 - s / 2 + s ^ 2 / 24 - .. from j = 0 on, which is cos r; and 1 - s / 6 + s ^ 2 / 120 - .. from j = 1 on, which is (sin r) / r
abbrev pub circular : Terms
circular = record { times = λ j. 1; over = λ j. (j + 1) * (j + 2) }

-- With s the square of a number r: 1 - s / 3 + s ^ 2 / 5 - .. from j = 1 on, which is (arctan r) / r
abbrev pub inverse : Terms
inverse = record { times = λ j. j; over = λ j. j + 2 }

-- ---- the sums of k + 1 terms
-- r times (the sum at the square of r), for r = n / d
abbrev pub odd_sum : Terms → ℕ → ℕ → ℕ → Ratio
odd_sum t k n d =
    let r = nested t k 1 (n * n) (d * d) in
    record { top = n * r.top; bottom = d * r.bottom }

-- of the sine and the cosine of n / d degrees, which are (p * n) / (180 * pi_over * d) radians for a value p / pi_over of pi
abbrev pub sine_sum : ℕ → ℕ → ℕ → ℕ → Ratio
sine_sum k p n d = odd_sum circular k (p * n) (pi_over * 180 * d)

abbrev pub cosine_sum : ℕ → ℕ → ℕ → ℕ → Ratio
cosine_sum k p n d = nested circular k 0 (p * n * (p * n)) (pi_over * 180 * d * (pi_over * 180 * d))

-- of the arctangent of n / d, in degrees for a value p / pi_over of pi
abbrev pub arc_sum : ℕ → ℕ → ℕ → ℕ → Ratio
arc_sum k p n d =
    let r = odd_sum inverse k n d in
    record { top = 180 * pi_over * r.top; bottom = p * r.bottom }

-- ---- how near
-- a / b is at most 1 / t above x, and at most 1 / t below x
abbrev pub NotAbove : ℕ → ℕ → ℕ → Ratio → Type 0
NotAbove t a b x = t * a * x.bottom ≤ (t * x.top + x.bottom) * b

abbrev pub NotBelow : ℕ → ℕ → ℕ → Ratio → Type 0
NotBelow t a b x = t * b * x.top ≤ (t * a + b) * x.bottom

-- a / b is within 1 / t of each number from low to high
pub record About (t a b : ℕ) (low high : Ratio) : Type 0 where
  pub above : NotAbove t a b low
  pub below : NotBelow t a b high

-- 2 ^ -22 is the promised distance of a sine and of a cosine: one part of so many
abbrev pub fine : ℕ
fine = 2 ^ 22

-- a / b is the sine of n / d degrees within 2 ^ -22, for n / d from 0 to 45; and so the cosine. Six terms are below the value and seven above it; the sine grows
-- with pi, and the cosine falls.
abbrev pub IsSine : ℕ → ℕ → ℕ → ℕ → Type 0
IsSine n d a b = About fine a b (sine_sum 5 pi_low n d) (sine_sum 6 pi_high n d)

abbrev pub IsCosine : ℕ → ℕ → ℕ → ℕ → Type 0
IsCosine n d a b = About fine a b (cosine_sum 5 pi_high n d) (cosine_sum 6 pi_low n d)

-- a / b degrees is the arctangent of n / d within 1 / t degree, for n / d from 0 to 5 / 12. Eight terms are below it and nine above it; in degrees it falls as pi grows.
abbrev pub IsArc : ℕ → ℕ → ℕ → ℕ → ℕ → Type 0
IsArc t n d a b = About t a b (arc_sum 7 pi_high n d) (arc_sum 8 pi_low n d)
