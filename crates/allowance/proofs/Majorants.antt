-- The choice between the two paths.
use mathlib.Core.Path.{◌≡◌}
use mathlib.Core.Bool.{true, false}
use lib.Ieee.{Float, binary32, of_bits, div, lt}
use Rattle.exact.specs.Tests.{abs}
use Rattle.synthesis.specs.declared.Xyz.{Xyz}
use Rattle.synthesis.specs.Sum.{Lent, degree, inputs}
use Rattle.sums.specs.Paths.{placed, small_sine}
use Rattle.bounds.specs.Bounds.{bounds}
use Rattle.allowance.specs.Code.{general, majorants_of, near_pole}

module _ (a : Lent) (u : Float) (eu : u ≡ abs a.sin_theta) where
  pub value_pole : lt u (of_bits binary32 0x3a83126f) ≡ true → (v : Xyz) → v ≡ near_pole a (degree a) → v ≡ majorants_of a
  unfolding small_sine inputs placed
  value_pole n v e = let s : lt (abs a.sin_theta) (of_bits binary32 0x3a83126f) ≡ true = rw eu at n in rw (s, e)

  pub value_general : lt u (of_bits binary32 0x3a83126f) ≡ false → (r : Xyz) → r ≡ general a (degree a) → record { x = r.x; y = div binary32 r.y u; z = r.z } ≡ majorants_of a
  unfolding small_sine inputs placed bounds
  value_general n r e = let s : lt (abs a.sin_theta) (of_bits binary32 0x3a83126f) ≡ false = rw eu at n in rw (s, e, eu)
