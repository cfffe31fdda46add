-- The stated enclosure of pi is Machin's: pi = 16 * arctan (1 / 5) - 4 * arctan (1 / 239), each arctangent between its sums of eight and of nine terms. Assumes nothing.
use Prim.Native.Nat.{ℕ, ◌+◌, ◌*◌, ◌≤◌}
use lib.Dec.{lit≤}
use Rattle.trig.specs.Circle.{pi_low, pi_high, pi_over, inverse, nested, odd_sum}

-- the sums of k + 1 terms
abbrev fifth : ℕ → ℕ × ℕ
fifth k = let r = odd_sum inverse k 1 5 in (r.top, r.bottom)

abbrev small : ℕ → ℕ × ℕ
small k = let r = odd_sum inverse k 1 239 in (r.top, r.bottom)

-- pi_low / pi_over ≤ 16 * (eight terms) - 4 * (nine terms), and 16 * (nine terms) - 4 * (eight terms) ≤ pi_high / pi_over
pub pi_by_machin : (pi_low * ((fifth 7).1 * (small 8).1) + 4 * pi_over * ((small 8).0 * (fifth 7).1) ≤ 16 * pi_over * ((fifth 7).0 * (small 8).1))
    × (16 * pi_over * ((fifth 8).0 * (small 7).1) ≤ pi_high * ((fifth 8).1 * (small 7).1) + 4 * pi_over * ((small 7).0 * (fifth 8).1))
unfolding nested
pi_by_machin = (lit≤ tt, lit≤ tt)
