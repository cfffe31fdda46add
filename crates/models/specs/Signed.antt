-- Laws of i32 quotients, remainders and tests against a literal.
use Rattle.std.specs.Prelude.{◌≡◌, refl, ℕ, zero, suc, ◌-◌, ◌*◌, ◌/◌, ◌%◌, ◌^◌, ◌<◌, ◌≤◌, true, false, eqb, ℤ, pos, negsuc, neg_ℤ, ◌*ℤ◌}
use Rattle.std.proofs.Common.{sym, ◌∙◌, zero-le, le_of_suc-le-suc, div-le_self, div-mul-le_self, zero-mul, arith, eq-eqb, ne_eqb, SFits, of_z, to_z}
use Rattle.std.proofs.Math.IntN.{negsuc-*ℤ-pos}
use Rattle.std.specs.Int.Signed.{mag, quot_z, rem_z, mag_rem}
use Rattle.std.specs.Int.{w32}
use mir.ValLaws.{to_z-of_z, sfits_le}
use Rattle.models.specs.Calendar.{divides}
use Rattle.models.specs.Epochs.{EPOCH_YEARS, epoch_year_of, is_year}

mag_neg : (r : ℕ) {a : ℕ} → r ≤ suc a → mag (neg_ℤ (pos r)) ≤ a
mag_neg zero h = zero-le
mag_neg (suc r) h = le_of_suc-le-suc h

mag_quot : (z : ℤ) (d : ℕ) → mag (quot_z z (pos d)) ≤ mag z
mag_quot (pos a) d = div-le_self a d
mag_quot (negsuc a) d = mag_neg (suc a / d) (div-le_self (suc a) d)

mag_neg_mul : (r d : ℕ) {a : ℕ} → r * d ≤ suc a → mag (neg_ℤ (pos r) *ℤ pos d) ≤ a
mag_neg_mul zero d h = rw zero-mul zero-le
mag_neg_mul (suc r) d h = rw negsuc-*ℤ-pos (mag_neg (suc r * d) h)

mag_back : (z : ℤ) (d : ℕ) → mag (quot_z z (pos d) *ℤ pos d) ≤ mag z
mag_back (pos a) d = div-mul-le_self a d
mag_back (negsuc a) d = mag_neg_mul (suc a / d) d (div-mul-le_self (suc a) d)

-- ---- a quotient, and the epoch year, fit where the year does
pub fits_quot : (z : ℤ) (d : ℕ) → SFits w32 z → SFits w32 (quot_z z (pos d))
fits_quot z d f = sfits_le (mag_quot z d) f

pub fits_epoch : (z : ℤ) → SFits w32 z → SFits w32 (epoch_year_of z)
unfolding epoch_year_of
fits_epoch z f = sfits_le (mag_back z EPOCH_YEARS) f

-- ---- a test against a literal reads the bits
pub year_bits : (z : ℤ) (n : ℕ) → SFits w32 z → n < 2 ^ 31 → eqb (of_z w32 z) n ≡ is_year n z
year_bits (pos y) n f h = refl
year_bits (negsuc y) n f h = ne_eqb (2 ^ 32 - suc y) n (λ e. omega (arith, f.sfits))

pub year_is : (z : ℤ) {n : ℕ} → SFits w32 z → of_z w32 z ≡ n → n < 2 ^ 31 → is_year n z ≡ true
year_is z {n} f e h = sym (year_bits z n f h) ∙ eq-eqb (of_z w32 z) n e

pub year_not : (z : ℤ) {n : ℕ} → SFits w32 z → (of_z w32 z ≡ n → ⊥) → n < 2 ^ 31 → is_year n z ≡ false
year_not z {n} f e h = sym (year_bits z n f h) ∙ ne_eqb (of_z w32 z) n e

neg_bits : (r : ℕ) → SFits w32 (neg_ℤ (pos r)) → eqb (of_z w32 (neg_ℤ (pos r))) 0 ≡ eqb r 0
neg_bits zero f = refl
neg_bits (suc r) f = ne_eqb (2 ^ 32 - suc r) 0 (λ e. omega (arith, f.sfits)) ∙ sym (ne_eqb (suc r) 0 (λ e. omega arith))

rem_bits : (z : ℤ) (d : ℕ) → SFits w32 (rem_z z (pos d)) → eqb (of_z w32 (rem_z z (pos d))) 0 ≡ divides d z
rem_bits (pos y) d f = refl
rem_bits (negsuc y) d f = neg_bits (suc y % d) f

pub divides_bits : (z : ℤ) (d : ℕ) → SFits w32 z → eqb (of_z w32 (rem_z (to_z w32 (of_z w32 z)) (pos d))) 0 ≡ divides d z
divides_bits z d f = rw (to_z-of_z w32 z f) (rem_bits z d (sfits_le (mag_rem z (pos d)) f))
