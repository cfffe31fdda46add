-- Closed cases of `sqrt_of`, by bit patterns: antt computes each. The answers are those of rustc's `f32::sqrt`. Assumes nothing.
use mathlib.Core.Path.{◌≡◌, refl}
use mathlib.Core.List.{List, [], ◌∷◌, map}
use Prim.Native.Nat.{ℕ}
use lib.Ieee.{binary32, of_bits, to_bits}
use Rattle.roots.specs.Root.{sqrt_of}

pub root_bits : ℕ → ℕ
unfolding sqrt_of of_bits to_bits
root_bits b = to_bits binary32 (sqrt_of (of_bits binary32 b))

-- 0, -0, ∞, 1, 2, 3, 4, 0.5, the largest, the smallest normal, the largest subnormal, the smallest, 1 less and more an ulp, 2 ^ 24 - 1, 0.1
pub inputs : List ℕ
inputs = 0 ∷ 0x8000_0000 ∷ 0x7f80_0000 ∷ 0x3f80_0000 ∷ 0x4000_0000 ∷ 0x4040_0000 ∷ 0x4080_0000 ∷ 0x3f00_0000 ∷ 0x7f7f_ffff ∷ 0x0080_0000 ∷ 0x007f_ffff ∷ 1 ∷ 0x3f7f_ffff ∷ 0x3f80_0001 ∷ 0x4b7f_ffff ∷ 0x3dcc_cccd ∷ []

pub outputs : List ℕ
outputs = 0x0000_0000 ∷ 0x8000_0000 ∷ 0x7f80_0000 ∷ 0x3f80_0000 ∷ 0x3fb5_04f3 ∷ 0x3fdd_b3d7 ∷ 0x4000_0000 ∷ 0x3f35_04f3 ∷ 0x5f7f_ffff ∷ 0x2000_0000 ∷ 0x1fff_ffff ∷ 0x1a35_04f3 ∷ 0x3f7f_ffff ∷ 0x3f80_0000 ∷ 0x457f_ffff ∷ 0x3ea1_e89b ∷ []

pub vectors : map root_bits inputs ≡ outputs
unfolding root_bits inputs outputs sqrt_of of_bits to_bits
vectors = refl
