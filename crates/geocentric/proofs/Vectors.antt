-- Worked examples, from an emulation of the Rust by another program: height, sine, cosine; radius, colatitude cosine and sine, ratio, by their bits. They compute.
use mathlib.Core.List.{List, [], ◌∷◌}
use mathlib.Core.Bool.{Bool, true, ◌&&◌}
use Prim.Native.Nat.{ℕ}
use lib.Dec.{T, eqb}
use lib.Ieee.{binary32, of_bits, to_bits, neg, le, lt, eq, add, sub, mul, div}
use Rattle.exact.specs.Tests.{circle}
use Rattle.roots.specs.Root.{sqrt_of}
use Rattle.geocentric.specs.Geo.{flatness, curve, cosine_factor, sine_factor, cylinder, axis, radius_of, cos_of, sin_of, ratio_of, height_ok, latitude_ok}

record Vector : Type 0 where
  h : ℕ
  s : ℕ
  c : ℕ
  r : ℕ
  ct : ℕ
  st : ℕ
  ratio : ℕ

v : ℕ → ℕ → ℕ → ℕ → ℕ → ℕ → ℕ → Vector
v h s c r ct st ratio = record { h = h; s = s; c = c; r = r; ct = ct; st = st; ratio = ratio }

meets : Vector → Bool
meets x =
    let h = of_bits binary32 x.h in
    let s = of_bits binary32 x.s in
    let c = of_bits binary32 x.c in
    eqb (to_bits binary32 (radius_of h s c)) x.r && eqb (to_bits binary32 (cos_of h s c)) x.ct && eqb (to_bits binary32 (sin_of h s c)) x.st && eqb (to_bits binary32 (ratio_of h s c)) x.ratio

all : List Vector → Bool
all [] = true
all (x ∷ l) = meets x && all l

vectors : List Vector
vectors =
    v 0x00000000 0x00000000 0x3f800000 0x4ac2a532 0x00000000 0x3f800000 0x3f7fb8b9 ∷
    v 0x00000000 0x3f800000 0x00000000 0x4ac1fe20 0x3f800000 0x00000000 0x3f804a7a ∷
    v 0x494f8500 0xbf800000 0xb5800000 0x4adbeec0 0xbf800000 0xb580c2cb 0x3f6251bf ∷
    v 0xc47a0000 0x80000000 0x3f800000 0x4ac29d62 0x80000000 0x3f800000 0x3f7fc2fd ∷
    v 0x47f8c653 0xbf068f24 0x3f59c8af 0x4ac65a69 0xbf05eb12 0x3f5a2db9 0x3f7af0f9 ∷
    v 0x476ce348 0x3ee9c80a 0x3f63c168 0x4ac45c5e 0x3ee88d42 0x3f6411eb 0x3f7d7cc9 ∷
    v 0x48977729 0x3de66023 0x3f7e600c 0x4acc1a8d 0x3de4ec5b 0x3f7e654b 0x3f73df01 ∷
    v 0x48d25d7a 0xbf7bc31b 0x3e398d22 0x4acf2980 0xbf7bb5b6 0x3e3aaf02 0x3f704551 ∷
    v 0x48b3b40f 0xbf7e39d7 0x3df0b058 0x4acd3bb5 0xbf7e3418 0x3df23369 0x3f728769 ∷
    v 0x4794d263 0xbf79dc2b 0x3e5eecbd 0x4ac45966 0xbf79c7ec 0x3e60569d 0x3f7d809e ∷
    v 0x492b8bb3 0xbe708d43 0x3f78d60e 0x4ad80d82 0xbe6f2e3a 0x3f78eb33 0x3f66622f ∷
    v 0x48388c17 0xbf6ce155 0x3ec226f5 0x4ac7dab3 0xbf6ca828 0x3ec33d16 0x3f790e73 ∷
    v 0x4944a7c5 0x3ec78b48 0x3f6bc1e4 0x4adb20f4 0x3ec68969 0x3f6bf84b 0x3f63264c ∷
    v 0x48a457e3 0x3e759efc 0x3f7886c5 0x4acce125 0x3e7425f1 0x3f789dfd 0x3f72f29e ∷
    v 0x4716f1dc 0x3f7f49be 0x3d98a1f0 0x4ac32cf5 0x3f7f474d 0x3d99a637 0x3f7f06d8 ∷
    v 0x486fb460 0x3f671bcd 0x3edc39b9 0x4ac99ae2 0x3f66d4ac 0x3edd6354 0x3f76e4c7 ∷
    v 0x453b8000 0x3f800000 0xb33bbd2e 0x4ac21590 0x3f800000 0xb33d00f0 0x3f803afc ∷
    []

all_met : T (all vectors)
unfolding all meets vectors v radius_of cos_of sin_of ratio_of flatness curve cosine_factor sine_factor cylinder axis sqrt_of of_bits to_bits add sub mul div
all_met = tt

-- the equator at sea level, and a cosine of -2 ^ -20 at the pole, 850 km up, are accepted
equator : T (height_ok (of_bits binary32 0) && latitude_ok (of_bits binary32 0) (of_bits binary32 0x3f800000))
unfolding circle of_bits neg le lt eq add mul
equator = tt

beyond_the_pole : T (height_ok (of_bits binary32 0x494f8500) && latitude_ok (of_bits binary32 0xbf800000) (of_bits binary32 0xb5800000))
unfolding circle of_bits neg le lt eq add mul
beyond_the_pole = tt
