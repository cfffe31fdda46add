-- A float above zero as the fraction num / den: bounds of it, from its distance to an exact number and from a fraction that is rounded. Assumes nothing.
use mathlib.Core.Path.{◌≡◌, refl, sym}
use Prim.Native.Nat.{ℕ, zero, suc, ◌+◌, ◌*◌, ◌≤◌, ◌<◌}
use native.Mathlib.Nat.{le_trans, le_of_eq, zero-lt-suc, zero-mul, mul-one, mul_right_comm, mul-pos, mul-le-mul_left, mul-le-mul_right, le_of_mul-le-mul_right}
use native.Mathlib.Omega.{arith}
use mathlib.Core.Bool.{Bool, true, false, ◌&&◌}
use lib.Dec.{T, eqb, ltb→lt, lt→ltb, eqb→eq, lit<}
use lib.Ieee.{Float, nan, inf, fin, binary32, up, round, le}
use lib.Ieee.Fits.{down_pos, up_pos, and_l, and_r}
use lib.Ieee.Positive.{num, den, positive, positive-finite, den_pos, le→cross, between, through}
use lib.Ieee.Order.{round_mono}
use lib.Ieee.Scale.{finite}
use Rattle.exact.specs.Exact.{Exact, own, size}
use Rattle.exact.specs.Within.{Within, distance}
use Rattle.exact.proofs.Near.{near_own}
use Rattle.exact.proofs.Ranks.{Leaf}
use Rattle.exact.proofs.Sizes.{AtMost, own_size, own_over}

-- ---- exact numbers by their three parts
abbrev pub mk : ℕ → ℕ → ℕ → Exact
mk a b c = record { plus = a; minus = b; over = c }

pub mk_eq : {a b c x y z : ℕ} → a ≡ x → b ≡ y → c ≡ z → mk a b c ≡ mk x y z
mk_eq p q r = cc

-- ---- the parts of a float above zero
pos_plus : (f : Float) → T (positive f) → (own f).plus ≡ num f
unfolding own
pos_plus nan p = absurd p
pos_plus (inf s) p = absurd p
pos_plus (fin false m e) p = refl
pos_plus (fin true m e) p = absurd p

pos_minus : (f : Float) → T (positive f) → (own f).minus ≡ 0
unfolding own
pos_minus nan p = absurd p
pos_minus (inf s) p = absurd p
pos_minus (fin false m e) p = refl
pos_minus (fin true m e) p = absurd p

pub own_above : (f : Float) → T (positive f) → own f ≡ mk (num f) 0 (den f)
own_above f p = mk_eq (pos_plus f p) (pos_minus f p) (own_over f)

pub num_pos : (f : Float) → T (positive f) → 0 < num f
num_pos nan p = absurd p
num_pos (inf s) p = absurd p
num_pos (fin true m e) p = absurd p
num_pos (fin false m e) p = mul-pos (ltb→lt 0 m p) (up_pos e)

-- a / c ≤ f ≤ b / c, and f is above zero
pub record Between (a b c : ℕ) (f : Float) : Type 0 where
  pub above : T (positive f)
  pub low : a * den f ≤ num f * c
  pub high : num f * c ≤ b * den f

-- ---- from a distance
big : 0 < 1048576
big = lit< tt

above_zero : (f : Float) (a c : ℕ) → 0 < a → T (finite f) → (own f).minus * c + a * (own f).over ≤ (own f).plus * c → T (positive f)
unfolding own
above_zero nan a c A t h = absurd t
above_zero (inf s) a c A t h = absurd t
above_zero (fin true m e) a c A t h = let p = mul-pos A (down_pos e) in absurd (omega arith)
above_zero (fin false zero e) a c A t h = let p = mul-pos A (down_pos e) in absurd (omega (arith, zero-mul (up e)))
above_zero (fin false (suc m) e) a c A t h = lt→ltb 0 (suc m) (zero-lt-suc m)

from_low : (a c fp fm fo P Q O : ℕ) → 0 < O → (fm * O + P * fo) * 1048576 ≤ (fp * O + Q * fo) * 1048576 + distance (P + Q) O * fo
    → a * 1048576 * O + c * (8 * (P + Q) + O) + c * 1048576 * Q ≤ c * 1048576 * P → fm * c + a * fo ≤ fp * c
from_low a c fp fm fo P Q O OP h k = le_of_mul-le-mul_right (mid (mul-le-mul_left c h) (mul-le-mul_right fo k)) (mul-pos OP big)
  where
    mid : c * ((fm * O + P * fo) * 1048576) ≤ c * ((fp * O + Q * fo) * 1048576 + distance (P + Q) O * fo)
        → (a * 1048576 * O + c * (8 * (P + Q) + O) + c * 1048576 * Q) * fo ≤ c * 1048576 * P * fo
        → (fm * c + a * fo) * (O * 1048576) ≤ fp * c * (O * 1048576)
    mid x y = omega arith

from_high : (b c fp fm fo P Q O : ℕ) → 0 < O → (fp * O + Q * fo) * 1048576 ≤ (fm * O + P * fo) * 1048576 + distance (P + Q) O * fo
    → c * 1048576 * P + c * (8 * (P + Q) + O) ≤ b * 1048576 * O + c * 1048576 * Q → fp * c ≤ b * fo + fm * c
from_high b c fp fm fo P Q O OP h k = le_of_mul-le-mul_right (mid (mul-le-mul_left c h) (mul-le-mul_right fo k)) (mul-pos OP big)
  where
    mid : c * ((fp * O + Q * fo) * 1048576) ≤ c * ((fm * O + P * fo) * 1048576 + distance (P + Q) O * fo)
        → (c * 1048576 * P + c * (8 * (P + Q) + O)) * fo ≤ (b * 1048576 * O + c * 1048576 * Q) * fo
        → fp * c * (O * 1048576) ≤ (b * fo + fm * c) * (O * 1048576)
    mid x y = omega arith

pub of_within : (a b c : ℕ) (f : Float) (x : Exact) → 0 < a → 0 < x.over → Within f x (size x)
    → a * 1048576 * x.over + c * (8 * (x.plus + x.minus) + x.over) + c * 1048576 * x.minus ≤ c * 1048576 * x.plus
    → c * 1048576 * x.plus + c * (8 * (x.plus + x.minus) + x.over) ≤ b * 1048576 * x.over + c * 1048576 * x.minus
    → Between a b c f
of_within a b c f x A O w l h =
    let lower = from_low a c (own f).plus (own f).minus (own f).over x.plus x.minus x.over O w.below l in
    let p : T (positive f) = above_zero f a c A w.is_finite lower in
    let upper = from_high b c (own f).plus (own f).minus (own f).over x.plus x.minus x.over O w.above h in
    let e = own_above f p in
    let l2 : 0 * c + a * den f ≤ num f * c = rw e at lower in
    let h2 : num f * c ≤ b * den f + 0 * c = rw e at upper in
    record { above = p; low = omega arith; high = omega arith }

-- the distance itself, where the exact number has no minus
pub record Off (f : Float) (N D : ℕ) : Type 0 where
  pub up : num f * D * 1048576 ≤ N * den f * 1048576 + 8 * N * den f + den f * D
  pub down : N * den f * 1048576 ≤ num f * D * 1048576 + 8 * N * den f + den f * D

pub off : (f : Float) (N D : ℕ) → T (positive f) → Within f (mk N 0 D) (size (mk N 0 D)) → Off f N D
off f N D p w = go (own_above f p) w.above w.below
  where
    go : own f ≡ mk (num f) 0 (den f)
        → ((own f).plus * D + 0 * (own f).over) * 1048576 ≤ ((own f).minus * D + N * (own f).over) * 1048576 + distance (N + 0) D * (own f).over
        → ((own f).minus * D + N * (own f).over) * 1048576 ≤ ((own f).plus * D + 0 * (own f).over) * 1048576 + distance (N + 0) D * (own f).over → Off f N D
    go e a b =
        let a2 : (num f * D + 0 * den f) * 1048576 ≤ (0 * D + N * den f) * 1048576 + distance (N + 0) D * den f = rw e at a in
        let b2 : (0 * D + N * den f) * 1048576 ≤ (num f * D + 0 * den f) * 1048576 + distance (N + 0) D * den f = rw e at b in
        record { up = omega arith; down = omega arith }

-- ---- from a fraction that is rounded
-- a / c is an f32 above zero
unfoldable pub held : ℕ → ℕ → Bool
unfolding round
held a c = let r = round binary32 false a c in positive r && eqb (num r * c) (a * den r)

pub of_round : (a b c n d : ℕ) → T (held a c) → T (held b c) → 0 < c → 0 < d → a * d ≤ n * c → n * c ≤ b * d → Between a b c (round binary32 false n d)
unfolding held
of_round a b c n d ta tb C D l h =
    let A = round binary32 false a c in
    let B = round binary32 false b c in
    let f = round binary32 false n d in
    let pa : T (positive A) = and_l (positive A) (eqb (num A * c) (a * den A)) ta in
    let pb : T (positive B) = and_l (positive B) (eqb (num B * c) (b * den B)) tb in
    let ea : num A * c ≡ a * den A = eqb→eq (num A * c) (a * den A) (and_r (positive A) (eqb (num A * c) (a * den A)) ta) in
    let eb : num B * c ≡ b * den B = eqb→eq (num B * c) (b * den B) (and_r (positive B) (eqb (num B * c) (b * den B)) tb) in
    let la : T (le A f) = round_mono binary32 a c n d C D l in
    let lb : T (le f B) = round_mono binary32 n d b c D C h in
    let p : T (positive f) = between A f B pa pb la lb in
    record {
      above = p;
      low = through a (num A) (num f) c (den A) (den f) (den_pos A) (le_of_eq (sym ea)) (le→cross A f pa p la);
      high = through (num f) (num B) b (den f) (den B) c (den_pos B) (le→cross f B p pb lb) (le_of_eq eb);
    }

-- ---- to a size
pub at_most : (a b c : ℕ) (f : Float) → Between a b c f → 0 < c → (B : ℕ) → b ≤ B * c → AtMost B f
at_most a b c f w C B k = rw (own_size f, own_over f) (le_of_mul-le-mul_right (le_trans w.high (le_trans (mul-le-mul_right (den f) k) (le_of_eq (mul_right_comm B c (den f))))) C)

pub leaf_of : (a b : ℕ) (f : Float) → Between a b 1 f → Leaf b f
leaf_of a b f w = near_own (positive-finite f w.above) (at_most a b 1 f w (lit< tt) b (le_of_eq (sym (mul-one b))))
