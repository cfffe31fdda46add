-- Worked examples: what `sine_and_cosine` says of single inputs, by their bit patterns. All are computed. Assumes nothing.
use mathlib.Core.Path.{◌≡◌, refl}
use mathlib.Core.List.{[]}
use Prim.Native.Nat.{ℕ}
use lib.Ieee.{nan, inf, binary32, of_bits, to_bits, size, neg, lt, le, eq}
use mathlib.Core.Bool.{false}
use Rattle.refusals.specs.Paper.{Paper, answered, refused}
use Rattle.trig.specs.declared.Pair.{Pair}
use Rattle.trig.specs.Fixed.{step_of, in_units, sine_part, cosine_part, square_of, sine_long, cosine_top, sine_bits, cosine_bits, small_pair, lift_by, near_pair, left_of, far_pair, pair_of, pair_at, accepted, sine_says}

abbrev pair : ℕ → ℕ → Paper Pair
pair s c = answered (record { sine = of_bits binary32 s; cosine = of_bits binary32 c })

-- 0, 90, -90, 180, -180, 30, 45 and -120 degrees; the f32 after 180, and what is not finite
sines : (sine_says (of_bits binary32 0) ≡ pair 0 0x3f800000)
    × (sine_says (of_bits binary32 0x42b40000) ≡ pair 0x3f800000 0)
    × (sine_says (of_bits binary32 0xc2b40000) ≡ pair 0xbf800000 0)
    × (sine_says (of_bits binary32 0x43340000) ≡ pair 0 0xbf800000)
    × (sine_says (of_bits binary32 0xc3340000) ≡ pair 0x80000000 0xbf800000)
    × (sine_says (of_bits binary32 0x41f00000) ≡ pair 0x3f000000 0x3f5db3d7)
    × (sine_says (of_bits binary32 0x42340000) ≡ pair 0x3f3504f3 0x3f3504f3)
    × (sine_says (of_bits binary32 0xc2f00000) ≡ pair 0xbf5db3d7 0xbf000000)
    × (sine_says (of_bits binary32 0x43340001) ≡ refused 16 [] [])
    × (sine_says nan ≡ refused 16 [] [])
    × (sine_says (inf false) ≡ refused 16 [] [])
unfolding sine_says accepted pair_at pair_of far_pair left_of near_pair small_pair lift_by sine_bits cosine_bits cosine_top sine_long square_of sine_part cosine_part in_units step_of of_bits to_bits le lt eq neg size
sines = (refl, refl, refl, refl, refl, refl, refl, refl, refl, refl, refl)
