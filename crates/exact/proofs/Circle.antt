-- A pair that passes the circle test has members of size at most 1025/1024: otherwise a square would round to 1050625/1048576 or more.
use mathlib.Core.Path.{◌≡◌, refl, sym, subst}
use Prim.Native.Nat.{ℕ, zero, suc, ◌+◌, ◌*◌, ◌^◌, ◌≤◌, ◌<◌}
use native.Mathlib.Nat.{le_trans, le_of_eq, le_of_lt, add-zero, zero-add, mul-pos, mul_comm, add_comm, mul-le-mul, mul-le-mul_right}
use native.Mathlib.Omega.{arith}
use mathlib.Core.Bool.{Bool, true, false, not, ◌&&◌, cond, true≢false}
use lib.IntN.{negsuc}
use lib.Dec.{T, ltb, leb, leb→le, nleb→lt, lit<}
use lib.Ieee.{Float, nan, inf, fin, binary32, up, down, odd, units, round, add, mul, lt, eq, le, sum, of_bits}
use lib.Ieee.Fits.{down_pos, round_is, and_i, and_l, and_r}
use lib.Ieee.Order.{drop, kept, round_mono}
use lib.Ieee.Scale.{finite}
use Rattle.exact.specs.Tests.{between, circle}
use Rattle.exact.specs.Exact.{own}
use Rattle.exact.proofs.Near.{near_own}
use Rattle.exact.proofs.Ranks.{Leaf}
use Rattle.exact.proofs.Sizes.{AtMost, or_le}

abbrev NonNeg : Float → Type 0
NonNeg nan = ⊥
NonNeg (inf s) = s ≡ false
NonNeg (fin s m e) = s ≡ false

-- at least 1050625/1048576
abbrev Big : Float → Type 0
Big nan = ⊥
Big (inf s) = s ≡ false
Big (fin s m e) = (s ≡ false) × (1050625 * down e ≤ m * up e * 1048576)

odd_nonneg : (d q k l : ℕ) → NonNeg (odd d false q k l)
unfolding odd
odd_nonneg d zero k l = refl
odd_nonneg d (suc q) k l = refl

round_nonneg : (num den : ℕ) → NonNeg (round binary32 false num den)
unfolding units
round_nonneg num den =
    let n = num * 2 ^ 149 in
    subst (λ (z : Float). NonNeg z) (sym (round_is binary32 false num den)) (go (kept 24 n den) (drop 24 n den))
  where
    go : (q k : ℕ) → NonNeg (units binary32 false q k)
    go q k = cut (ltb (q * 2 ^ k) (2 ^ 277))
      where
        cut : (b : Bool) → NonNeg (cond b (odd 25 false q k 149) (inf false))
        cut true = odd_nonneg 25 q k 149
        cut false = refl

at_least : (z : Float) → NonNeg z → T (le (fin false 1050625 (negsuc 19)) z) → Big z
unfolding le lt eq
at_least nan h t = absurd t
at_least (inf s) h t = h
at_least (fin false m e) h t = (h, or_le (1050625 * 1 * down e) (m * up e * 1048576) true t)
at_least (fin true m e) h t = absurd (true≢false h)

big_is : round binary32 false 1050625 1048576 ≡ fin false 1050625 (negsuc 19)
unfolding round
big_is = refl

round_big : (num den : ℕ) → 0 < den → 1050625 * den ≤ num * 1048576 → Big (round binary32 false num den)
round_big num den D h =
    at_least (round binary32 false num den) (round_nonneg num den)
    (subst (λ (z : Float). T (le z (round binary32 false num den))) big_is (round_mono binary32 1050625 1048576 num den (lit< tt) D h))

square_nonneg : (x : Float) → T (finite x) → NonNeg (mul binary32 x x)
unfolding mul
square_nonneg nan t = absurd t
square_nonneg (inf s) t = absurd t
square_nonneg (fin false m e) t = round_nonneg (m * up e * (m * up e)) (down e * down e)
square_nonneg (fin true m e) t = round_nonneg (m * up e * (m * up e)) (down e * down e)

big : (a d : ℕ) → 1025 * d < 1024 * a → 1050625 * (d * d) ≤ a * a * 1048576
big a d h = le_trans (le_of_eq (r d)) (le_trans (mul-le-mul (le_of_lt h) (le_of_lt h)) (le_of_eq (s a)))
  where
    r : (d : ℕ) → 1050625 * (d * d) ≡ 1025 * d * (1025 * d)
    r d = omega arith

    s : (a : ℕ) → 1024 * a * (1024 * a) ≡ a * a * 1048576
    s a = omega arith

square_big : (x : Float) → T (finite x) → 1025 * (own x).over < 1024 * ((own x).plus + (own x).minus) → Big (mul binary32 x x)
unfolding mul own
square_big nan t h = absurd t
square_big (inf s) t h = absurd t
square_big (fin false m e) t h = round_big (m * up e * (m * up e)) (down e * down e) (mul-pos (down_pos e) (down_pos e)) (big (m * up e) (down e) (subst (λ (z : ℕ). 1025 * down e < 1024 * z) (add-zero (m * up e)) h))
square_big (fin true m e) t h = round_big (m * up e * (m * up e)) (down e * down e) (mul-pos (down_pos e) (down_pos e)) (big (m * up e) (down e) (subst (λ (z : ℕ). 1025 * down e < 1024 * z) (zero-add (m * up e)) h))

sum_big : (a b c : ℕ) → 0 < c → 1050625 * c ≤ (a + b) * 1048576 → Big (sum binary32 false a false b c)
unfolding sum
sum_big a b c C h = round_big (a + b) c C h

-- with something added
more : (a d u b : ℕ) → 1050625 * d ≤ a * 1048576 → 1050625 * (d * u) ≤ (a * u + b) * 1048576
more a d u b h =
    let p : 1050625 * d * u ≤ a * 1048576 * u = mul-le-mul_right u h in
    omega arith

add_big_l : (x y : Float) → Big x → NonNeg y → Big (add binary32 x y)
unfolding add
add_big_l nan y h k = absurd h
add_big_l (inf s) nan h k = absurd k
add_big_l (inf false) (inf false) h k = refl
add_big_l (inf false) (inf true) h k = absurd (true≢false k)
add_big_l (inf true) (inf t) h k = absurd (true≢false h)
add_big_l (inf s) (fin t n d) h k = h
add_big_l (fin s m e) nan h k = absurd k
add_big_l (fin s m e) (inf t) h k = k
add_big_l (fin false m e) (fin false n d) h k =
    sum_big (m * up e * down d) (n * up d * down e) (down e * down d) (mul-pos (down_pos e) (down_pos d))
    (more (m * up e) (down e) (down d) (n * up d * down e) h.1)
add_big_l (fin false m e) (fin true n d) h k = absurd (true≢false k)
add_big_l (fin true m e) (fin t n d) h k = absurd (true≢false h.0)

add_big_r : (x y : Float) → NonNeg x → Big y → Big (add binary32 x y)
unfolding add
add_big_r nan y h k = absurd h
add_big_r (inf s) nan h k = absurd k
add_big_r (inf false) (inf false) h k = refl
add_big_r (inf false) (inf true) h k = absurd (true≢false k)
add_big_r (inf true) (inf t) h k = absurd (true≢false h)
add_big_r (inf s) (fin t n d) h k = h
add_big_r (fin s m e) nan h k = absurd k
add_big_r (fin s m e) (inf t) h k = k
add_big_r (fin false m e) (fin false n d) h k =
    sum_big (m * up e * down d) (n * up d * down e) (down e * down d) (mul-pos (down_pos e) (down_pos d))
    (rw (mul_comm (down e) (down d), add_comm (m * up e * down d) (n * up d * down e)) (more (n * up d) (down d) (down e) (m * up e * down d) k.1))
add_big_r (fin false m e) (fin true n d) h k = absurd (true≢false k.0)
add_big_r (fin true m e) (fin t n d) h k = absurd (true≢false h)

-- 1 + 2 ^ -20
abbrev pub circle_top : Float
circle_top = fin false 1048577 (negsuc 19)

too_big : (z : Float) → Big z → T (le z circle_top) → ⊥
unfolding le lt eq
too_big nan h t = h
too_big (inf false) h t = t
too_big (inf true) h t = true≢false h
too_big (fin false m e) h t = go (m * up e) (down e) (down_pos e) h.1 (or_le (m * up e * 1048576) (1048577 * 1 * down e) true t)
  where
    go : (a d : ℕ) → 0 < d → 1050625 * d ≤ a * 1048576 → a * 1048576 ≤ 1048577 * 1 * d → ⊥
    go a d D p q = omega arith
too_big (fin true m e) h t = true≢false h.0

-- at most 1025/1024 in size
abbrev pub Slight : Float → Type 0
Slight x = 1024 * ((own x).plus + (own x).minus) ≤ 1025 * (own x).over

slight_two : (x : Float) → Slight x → AtMost 2 x
slight_two x h = omega arith

pub on_circle : (s c : Float) → T (finite s) → T (finite c) → T (le (add binary32 (mul binary32 s s) (mul binary32 c c)) circle_top) → Slight s × Slight c
on_circle s c fs fc t = (
  one ((own s).plus + (own s).minus) (own s).over (λ (h : 1025 * (own s).over < 1024 * ((own s).plus + (own s).minus)). too_big _ (add_big_l _ _ (square_big s fs h) (square_nonneg c fc)) t),
  one ((own c).plus + (own c).minus) (own c).over (λ (h : 1025 * (own c).over < 1024 * ((own c).plus + (own c).minus)). too_big _ (add_big_r _ _ (square_nonneg s fs) (square_big c fc h)) t),
)
  where
    one : (a d : ℕ) → (1025 * d < 1024 * a → ⊥) → 1024 * a ≤ 1025 * d
    one a d n = go (leb (1024 * a) (1025 * d)) (leb→le (1024 * a) (1025 * d)) (nleb→lt (1024 * a) (1025 * d))
      where
        go : (b : Bool) → (T b → 1024 * a ≤ 1025 * d) → (T (not b) → 1025 * d < 1024 * a) → 1024 * a ≤ 1025 * d
        go true p q = p tt
        go false p q = absurd (n (q tt))

-- ---- the circle test and what it says of its pair
-- 1 - 2 ^ -20
abbrev pub circle_bottom : Float
circle_bottom = fin false 1048575 (negsuc 19)

pub record Circled (s c : Float) : Type 0 where
  pub finite_s : T (finite s)
  pub finite_c : T (finite c)
  pub above : T (le circle_bottom (add binary32 (mul binary32 s s) (mul binary32 c c)))
  pub below : T (le (add binary32 (mul binary32 s s) (mul binary32 c c)) circle_top)

pub circled : (s c : Float) → T (circle s c) → Circled s c
unfolding circle of_bits
circled s c h =
    let q = add binary32 (mul binary32 s s) (mul binary32 c c) in
    let f : T (finite s && finite c) = and_l (finite s && finite c) (between circle_bottom circle_top q) h in
    let b : T (between circle_bottom circle_top q) = and_r (finite s && finite c) (between circle_bottom circle_top q) h in
    record { finite_s = and_l (finite s) (finite c) f; finite_c = and_r (finite s) (finite c) f; above = and_l (le circle_bottom q) (le q circle_top) b; below = and_r (le circle_bottom q) (le q circle_top) b }

pub circle_of : (s c : Float) → Circled s c → T (circle s c)
unfolding circle of_bits
circle_of s c o =
    let q = add binary32 (mul binary32 s s) (mul binary32 c c) in
    and_i (finite s && finite c) (between circle_bottom circle_top q) (and_i (finite s) (finite c) o.finite_s o.finite_c) (and_i (le circle_bottom q) (le q circle_top) o.above o.below)

pub circle_leaf : (s c : Float) → T (circle s c) → Leaf 2 s × Leaf 2 c
circle_leaf s c h =
    let o = circled s c h in
    let u = on_circle s c o.finite_s o.finite_c o.below in
    (near_own o.finite_s (slight_two s u.0), near_own o.finite_c (slight_two c u.1))

pub circle_slight : (s c : Float) → T (circle s c) → Slight s × Slight c
circle_slight s c h = let o = circled s c h in on_circle s c o.finite_s o.finite_c o.below
