-- Two years that are compared as i32s, and the years that are served. Assumes nothing.
use mathlib.Core.Path.{◌≡◌, refl, sym, ap, ◌∙◌}
use mathlib.Core.Bool.{Bool, true, false, not, ◌||◌, true≢false}
use Prim.Native.Nat.{ℕ, ◌*◌, ◌/◌}
use native.Mathlib.Omega.{arith}
use borrow.Author.Tests.{eqb-true, eq-eqb, ne_eqb, ltb-true, ltb-false}
use lib.Dec.{eqb, ltb}
use lib.IntN.{ℤ, pos, negsuc}
use lib.Signed.{lt_z}
use mir.Syntax.{w32}
use mir.Val.{SFits, of_z, to_z}
use mir.ValLaws.{to_z-of_z}
use Rattle.models.specs.Epochs.{EPOCH_YEARS, day_from, epoch_says, epoch_year_of, known_epoch, same_year, served_from}
use Rattle.models.proofs.Dated.{below_zero}

pub same_year_lem : (a b : ℤ) → same_year a b ≡ true → a ≡ b
same_year_lem (pos a) (pos b) e = ap pos (eqb-true a b e)
same_year_lem (pos a) (negsuc b) e = absurd (let z : ◌≡◌ {A = ℕ} 0 1 = cc in omega arith)
same_year_lem (negsuc a) (pos b) e = absurd (let z : ◌≡◌ {A = ℕ} 0 1 = cc in omega arith)
same_year_lem (negsuc a) (negsuc b) e = ap negsuc (eqb-true a b e)

pub year_same : (a : ℤ) → same_year a a ≡ true
year_same (pos a) = eq-eqb a a refl
year_same (negsuc a) = eq-eqb a a refl

pub bits_same : (a b : ℤ) → SFits w32 a → SFits w32 b → of_z w32 a ≡ of_z w32 b → a ≡ b
bits_same a b f g e = sym (to_z-of_z w32 a f) ∙ ap (to_z w32) e ∙ to_z-of_z w32 b g

-- the two patterns are equal where the years are
pub same_bits : (a b : ℤ) → SFits w32 a → SFits w32 b → of_z w32 b ≡ of_z w32 a → same_year a b ≡ true
same_bits a b f g e = rw (bits_same b a g f e) (year_same a)

pub other_bits : (a b : ℤ) → SFits w32 a → SFits w32 b → (of_z w32 b ≡ of_z w32 a → ⊥) → same_year a b ≡ false
other_bits a b f g n = go (same_year a b) refl
  where
    go : (t : Bool) → same_year a b ≡ t → t ≡ false
    go true h = absurd (n (ap (of_z w32) (sym (same_year_lem a b h))))
    go false h = refl

-- the comparison of the two patterns is that of the years
pub years_compared : (a b : ℤ) → SFits w32 a → SFits w32 b → eqb (of_z w32 b) (of_z w32 a) ≡ same_year a b
years_compared a b f g = go (eqb (of_z w32 b) (of_z w32 a)) refl
  where
    go : (t : Bool) → eqb (of_z w32 b) (of_z w32 a) ≡ t → t ≡ same_year a b
    go true h = sym (same_bits a b f g (eqb-true (of_z w32 b) (of_z w32 a) h))
    go false h = sym (other_bits a b f g (λ e. let z : true ≡ false = sym (eq-eqb (of_z w32 b) (of_z w32 a) e) ∙ h in absurd (true≢false z)))

-- ---- the epoch of a year is known from 2020 to 2029, and in no other year
module _ (n : ℕ) where
  abbrev ep : ℕ
  ep = n / EPOCH_YEARS * EPOCH_YEARS

  served : (a b c : Bool) → ltb n 2020 ≡ a → ltb 2029 n ≡ b → ltb n 2025 ≡ c → eqb ep 2020 || eqb ep 2025 ≡ not (a || b)
  served true b c h k l = rw (ne_eqb ep 2020 (λ e. omega (arith, ltb-true n 2020 h)), ne_eqb ep 2025 (λ e. omega (arith, ltb-true n 2020 h)))
  served false true c h k l = rw (ne_eqb ep 2020 (λ e. omega (arith, ltb-true 2029 n k)), ne_eqb ep 2025 (λ e. omega (arith, ltb-true 2029 n k)))
  served false false true h k l = rw (eq-eqb ep 2020 (omega (arith, ltb-false n 2020 h, ltb-true n 2025 l)))
  served false false false h k l = rw (ne_eqb ep 2020 (λ e. omega (arith, ltb-false n 2025 l)), eq-eqb ep 2025 (omega (arith, ltb-false 2029 n k, ltb-false n 2025 l)))

pub years_served : (y : ℤ) → known_epoch (epoch_year_of y) ≡ not (lt_z y (pos 2020) || lt_z (pos 2029) y)
unfolding epoch_year_of known_epoch
years_served (pos n) = served n (ltb n 2020) (ltb 2029 n) (ltb n 2025) refl refl refl
years_served (negsuc n) = below_zero n

-- so Epoch is the days from 2020 on
pub day_of_epoch : (year day : ℤ) → day_from 2020 year day ≡ epoch_says year day
unfolding day_from epoch_says served_from
day_of_epoch year day = rw (years_served year)
