-- A sum of two sizes is its own size, and so is a fifth of one: neither has a minus, and neither is a -0. Assumes nothing.
use mathlib.Core.Path.{◌≡◌, refl, subst}
use mathlib.Core.Bool.{Bool, true, false, cond}
use Prim.Native.Nat.{ℕ, zero, suc, ◌+◌, ◌-◌, ◌*◌, ◌/◌, ◌%◌, ◌^◌, compare}
use lib.Dec.{ltb}
use lib.Ieee.{Float, nan, inf, fin, binary32, add, div, down, emax, low, nearest, odd, of_bits, prec, round, size, sum, units, up}
use Rattle.exact.specs.Tests.{abs}
use Rattle.sums.specs.Paths.{five}

odd_plain : (d q k l : ℕ) → abs (odd d false q k l) ≡ odd d false q k l
unfolding odd
odd_plain d zero k l = refl
odd_plain d (suc q) k l = refl

or_infinite : (b : Bool) (x : Float) → abs x ≡ x → abs (cond b x (inf false)) ≡ cond b x (inf false)
or_infinite true x e = e
or_infinite false x e = refl

units_plain : (q k : ℕ) → abs (units binary32 false q k) ≡ units binary32 false q k
unfolding units
units_plain q k = or_infinite (ltb (q * 2 ^ k) (2 ^ (low binary32 + suc (emax binary32)))) (odd (suc (prec binary32)) false q k (low binary32)) (odd_plain (suc (prec binary32)) q k (low binary32))

-- what is rounded with a plus
round_plain : (n d : ℕ) → abs (round binary32 false n d) ≡ round binary32 false n d
unfolding round
round_plain n d =
    let m = n * 2 ^ low binary32 in
    let k = size (m / d) - prec binary32 in
    let u = d * 2 ^ k in
    units_plain (nearest (m / u) (compare (m % u * 2) u)) k

add_plain : (x y : Float) → abs (add binary32 (abs x) (abs y)) ≡ add binary32 (abs x) (abs y)
unfolding add sum
add_plain nan y = refl
add_plain (inf s) nan = refl
add_plain (inf s) (inf t) = refl
add_plain (inf s) (fin t n d) = refl
add_plain (fin s m e) nan = refl
add_plain (fin s m e) (inf t) = refl
add_plain (fin s m e) (fin t n d) = round_plain (m * up e * down d + n * up d * down e) (down e * down d)

fifth_plain : (x : Float) → abs (div binary32 (abs x) five) ≡ div binary32 (abs x) five
unfolding div of_bits
fifth_plain nan = refl
fifth_plain (inf s) = refl
fifth_plain (fin s m e) = round_plain (m * up e * 1) (5 * down e)

-- a fifth of such a sum
pub fifth_of_sizes : (x y : Float) → abs (div binary32 (add binary32 (abs x) (abs y)) five) ≡ div binary32 (add binary32 (abs x) (abs y)) five
fifth_of_sizes x y = subst (λ (z : Float). abs (div binary32 z five) ≡ div binary32 z five) (add_plain x y) (fifth_plain (add binary32 (abs x) (abs y)))
