-- What the law of the lanes asks holds of every colatitude on the circle, whatever the coefficients: P turns on the colatitude alone, and with coefficients of zero the input is an accepted one.
use mathlib.Core.Path.{◌≡◌, refl, subst}
use Prim.Native.Nat.{ℕ, zero, suc, ◌-◌, ◌≤◌}
use mathlib.Core.List.{[]}
use native.Mathlib.Nat.{le_trans}
use mathlib.Core.Bool.{false}
use lib.Dec.{T, lit≤}
use lib.Ieee.{Float, binary32, fits, of_bits, add, mul, sum, round, le, lt, eq}
use lib.Ieee.Scale.{finite}
use Rattle.exact.specs.Tests.{all_capped, circle}
use Rattle.exact.proofs.Circle.{circled}
use Rattle.exact.proofs.Ranks.{fine_ok}
use Rattle.exact.proofs.Reach.{near_size}
use Rattle.tables.specs.Degree.{N_MAX}
use Rattle.tables.proofs.Factors.{k_zero}
use Rattle.sums.specs.Paths.{placed}
use Rattle.synthesis.specs.Sum.{Lent, SumAccepted, inputs, lent, offset_ok, ratio_ok}
use Rattle.synthesis.proofs.Demand.{ok}
use Rattle.sums.specs.Arithmetic.{Pair, rounded, unrounded}
use Rattle.sums.specs.Recurrence.{legendre}
use Rattle.sums.proofs.Keeps.{rounded_keeps}
use Rattle.sums.proofs.Terms.{leg_near, leg_a, leg_s}
use Rattle.synthesis.proofs.LaneLaws.{Plain}

-- P of two inputs that have the colatitude in common
module _ (c s : Float) (sl cl r sl' cl' r' : Float) (g h g' h' : ℕ → ℕ → Float) where
  same_p : (n m : ℕ) → legendre rounded (placed c s sl cl r g h) n m ≡ legendre rounded (placed c s sl' cl' r' g' h') n m
  unfolding legendre placed
  same_p zero m = refl
  same_p (suc zero) m = refl
  same_p (suc (suc n)) m = rw (same_p (suc n) (m - 1), same_p (suc n) m, same_p n m) refl

-- longitude 0, ratio 1, offset 0, and no coefficients
abbrev bare : Float → Float → Lent
bare c s = lent c s (of_bits binary32 0) (of_bits binary32 0x3f800000) (of_bits binary32 0x3f800000) (of_bits binary32 0) [] [] [] []

bare_accepted : (c s : Float) → T (circle s c) → SumAccepted (bare c s)
unfolding circle ratio_ok offset_ok all_capped of_bits add mul sum round le lt eq
bare_accepted c s t = record { colatitude = t; longitude = tt; ratio = tt; offset = tt; g = tt; h = tt; g_dot = tt; h_dot = tt }

p_finite : (c s : Float) → T (circle s c) → (n m : ℕ) → n ≤ N_MAX → T (finite (legendre rounded (inputs rounded (bare c s)) n m).fst) × T (finite (legendre rounded (inputs rounded (bare c s)) n m).snd)
unfolding leg_s
p_finite c s t n m l =
    let p = leg_near rounded_keeps (inputs rounded (bare c s)) (inputs unrounded (bare c s)) (ok (bare c s) (bare_accepted c s t) rounded_keeps) n m (le_trans l (lit≤ tt)) in
    ((near_size p.0 (fine_ok leg_a tt)).0, (near_size p.1 (fine_ok leg_a tt)).0)

pub plain : (a : Lent) → T (circle a.sin_theta a.cos_theta) → T (fits binary32 a.cos_theta) → T (fits binary32 a.sin_theta) → Plain (inputs rounded a)
unfolding inputs
plain a t c s =
    record {
      cos_held = unfold placed in c;
      sin_held = unfold placed in s;
      cos_finite = unfold placed in (circled a.sin_theta a.cos_theta t).finite_c;
      K_null = unfold placed in (λ n m l. (false, k_zero n m l));
      P_finite = λ n m l. subst (λ (p : Pair Float). T (finite p.fst) × T (finite p.snd)) (same_p a.cos_theta a.sin_theta _ _ _ _ _ _ _ _ _ _ n m) (p_finite a.cos_theta a.sin_theta t n m l);
    }
