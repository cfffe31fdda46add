-- Where H is 0 the uncertainty is 180, whatever the two figures are: σ_v / H is then infinite or a NaN, and nothing after it is below 180. Assumes nothing.
use mathlib.Core.Path.{◌≡◌, refl, sym, subst}
use Prim.Native.Nat.{zero, suc, ◌*◌, ◌<◌}
use native.Mathlib.Nat.{mul-pos, zero-lt-suc}
use native.Mathlib.Omega.{arith}
use mathlib.Core.Bool.{Bool, true, false, not, ◌||◌, cond, beq, true≢false}
use lib.Dec.{T, eqb, eqb→eq}
use lib.IntN.{ℤ}
use lib.Ieee.{Float, nan, inf, fin, binary32, up, down, unlike, of_bits, add, mul, div, lt, eq}
use lib.Ieee.Fits.{up_pos, and_l}
use lib.Ieee.Scale.{finite}
use Rattle.roots.specs.Root.{sqrt_of}
use Rattle.refusals.specs.Paper.{answered}
use Rattle.models.specs.declared.errors.WmmErrorModel.{WmmErrorModel}
use Rattle.models.specs.Epochs.{known_epoch}
use Rattle.models.proofs.BuiltIn.{known_errors, known_listed}
use Rattle.strengths.specs.declared.GeomagneticField.{GeomagneticField}
use Rattle.strengths.specs.Strengths.{usable, hypot_of, h_of, clamped, uncertainty_with, uncertainty_says}

-- a NaN, or an infinity above zero
endless : Float → Bool
endless nan = true
endless (inf s) = not s
endless (fin s m e) = false

-- a number over a zero is infinite or a NaN
over_nothing : (x : Float) (t : Bool) (d : ℤ) → T (not (finite (div binary32 x (fin t zero d))))
unfolding div
over_nothing nan t d = tt
over_nothing (inf s) t d = tt
over_nothing (fin s m e) t d = go (eqb m 0)
  where
    go : (b : Bool) → T (not (finite (cond b nan (inf (unlike s t)))))
    go true = tt
    go false = tt

over_zero : (x h : Float) → eq h (of_bits binary32 0) ≡ true → T (not (finite (div binary32 x h)))
unfolding eq of_bits
over_zero x nan z = absurd (true≢false (sym z))
over_zero x (inf s) z = absurd (true≢false (sym z))
over_zero x (fin t zero d) z = over_nothing x t d
over_zero x (fin t (suc m) d) z =
    let a = suc m * up d * 1 in
    let b = 0 * down d in
    let e : a ≡ b = eqb→eq a b (and_l (eqb a b) (beq t false || eqb a 0) (subst T (sym z) tt)) in
    let p : 0 < suc m * up d = mul-pos (zero-lt-suc m) (up_pos d) in
    absurd (omega arith)

endless_square : (q : Float) → T (not (finite q)) → T (endless (mul binary32 q q))
unfolding endless mul
endless_square nan p = tt
endless_square (inf true) p = tt
endless_square (inf false) p = tt
endless_square (fin s m e) p = absurd p

endless_sum : (x q : Float) → T (endless q) → T (endless (add binary32 x q))
unfolding endless add
endless_sum nan q p = tt
endless_sum (inf s) nan p = tt
endless_sum (inf true) (inf false) p = tt
endless_sum (inf false) (inf false) p = tt
endless_sum (inf s) (inf true) p = absurd p
endless_sum (inf s) (fin t n d) p = absurd p
endless_sum (fin s m e) nan p = tt
endless_sum (fin s m e) (inf t) p = p
endless_sum (fin s m e) (fin t n d) p = absurd p

endless_root : (x : Float) → T (endless x) → T (endless (sqrt_of x))
unfolding endless sqrt_of
endless_root nan p = tt
endless_root (inf true) p = absurd p
endless_root (inf false) p = tt
endless_root (fin s m e) p = absurd p

endless_clamped : (x : Float) → T (endless x) → clamped x ≡ of_bits binary32 0x43340000
unfolding endless clamped of_bits lt
endless_clamped nan p = refl
endless_clamped (inf true) p = absurd p
endless_clamped (inf false) p = refl
endless_clamped (fin s m e) p = absurd p

-- for every σ_c and σ_v: zeros, infinities and NaNs too
pub uncertainty_at_zero : (c v h : Float) → eq h (of_bits binary32 0) ≡ true → clamped (hypot_of c (div binary32 v h)) ≡ of_bits binary32 0x43340000
uncertainty_at_zero c v h z = endless_clamped _ (endless_root _ (endless_sum _ _ (endless_square (div binary32 v h) (over_zero v h z))))

-- so for a record that can be used, with H = 0, whatever the figures
module _ (r : GeomagneticField) (u : usable r ≡ true) (z : eq (h_of r) (of_bits binary32 0) ≡ true) where
  pub record_at_zero : (m : WmmErrorModel) → uncertainty_with (answered m) r ≡ answered (of_bits binary32 0x43340000)
  unfolding uncertainty_with
  record_at_zero m = rw (u, uncertainty_at_zero m.declination_sigma_c m.declination_sigma_v (h_of r) z)

  -- and in either epoch
  pub epoch_at_zero : (year : ℤ) → known_epoch year ≡ true → uncertainty_says r year ≡ answered (of_bits binary32 0x43340000)
  unfolding uncertainty_says
  epoch_at_zero year k = let l = known_listed year k in rw (known_errors year k, l.1) (record_at_zero l.0)
