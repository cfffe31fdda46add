-- How large X, Y and Z can be at an accepted place, for coefficients of a given size: the majorants are worked out at the largest input, in units of 2 ^ -20 and with rounding upward. Assumes nothing.
use mathlib.Core.Path.{◌≡◌, refl, sym, ap, subst}
use Prim.Native.Nat.{ℕ, zero, suc, ◌+◌, ◌*◌, ◌/◌, ◌^◌, ◌≤◌, ◌<◌}
use native.Mathlib.Nat.{add-mul, div-add-mod', eq-or-lt_of_le, le_of_eq, le_of_mul-le-mul_right, le_of_suc-le-suc, le_refl, le_trans, mod-lt, mul-le-mul, mul-le-mul_right, not-suc-le-zero, zero-mul, mul-zero, zero-lt-suc}
use native.Mathlib.Omega.{arith}
use mathlib.Core.Logic.{inl, inr}
use mathlib.Core.Bool.{Bool, true, false, not, cond}
use lib.Dec.{T, leb, leb→le, lit<, lit≤, nleb→lt}
use lib.IntN.{negsuc}
use lib.Ieee.{Float, fin, binary32, of_bits, le}
use lib.Ieee.Fits.{and_l, and_r}
use lib.Ieee.Positive.{den, num, own_value, values_of_le}
use lib.Ieee.Positive as order
use Rattle.exact.specs.Exact.{Size, inv_e, own, size}
use Rattle.exact.proofs.Circle.{Slight, circle_slight}
use Rattle.exact.proofs.Ranks.{Leaf}
use Rattle.exact.proofs.Sizes.{inverse, own_over, own_size}
use Rattle.exact.specs.Tests.{circle}
use Rattle.geocentric.specs.Geo.{cos_of, height_ok, latitude_ok, sin_of}
use Rattle.geocentric.proofs.Laws.{latitude_circle}
use Rattle.tables.specs.Degree.{N_MAX, place}
use Rattle.tables.specs.Tables.{schmidt_at}
use Rattle.tables.specs.Rule.{k_of}
use Rattle.sums.specs.Arithmetic.{Arithmetic, plus_s, sizes, times_s}
use Rattle.sums.specs.Recurrence.{Input, pole_x, pole_y, pole_z, total, x_sum, y_sum, z_sum}
use Rattle.sums.proofs.Related.{Alike, Related, pole_x_related, pole_y_related, pole_z_related, x_sum_related, y_sum_related, z_sum_related}
use Rattle.lists.specs.Lists.{main_cap, rate_cap}
use Rattle.synthesis.specs.Sum.{ratio_ok}
use Rattle.sums.specs.Paths.{POLE_ORDERS, five, path_x, path_z, placed, small_sine}
use Rattle.field.specs.Turn.{cos_turn, sin_turn, turn_x, turn_z}
use Rattle.field.specs.There.{there, there_x, there_y, there_z}
use Rattle.field.specs.Field.{Asked}
use Rattle.field.proofs.There.{colatitude, ratio_in, sine_divides}

-- ---- sizes in units of 2 ^ -20
unfoldable pub upward : Size → ℕ
upward s = s.num * 1048576 / s.over + 1

unfoldable pub ceilings : Arithmetic ℕ
unfolding upward
ceilings =
    record {
      plus = λ a b. a + b;
      less = λ a b. a + b;
      times = λ a b. a * b / 1048576 + 1;
      opp = λ a. a;
      over = λ a s. a * upward (size (inv_e (own s))) / 1048576 + 1;
      num = λ f. upward (size (own f));
    }

-- s is at most b units
pub record Under (s : Size) (b : ℕ) : Type 0 where
  pub units : 0 < s.over → s.num * 1048576 ≤ b * s.over

left_pos : (a b : ℕ) → 0 < a * b → 0 < a
left_pos zero b h = absurd (not-suc-le-zero (subst (λ (z : ℕ). 0 < z) (zero-mul b) h))
left_pos (suc a) b h = zero-lt-suc a

right_pos : (a b : ℕ) → 0 < a * b → 0 < b
right_pos a zero h = absurd (not-suc-le-zero (subst (λ (z : ℕ). 0 < z) (mul-zero a) h))
right_pos a (suc b) h = zero-lt-suc b

-- n is at most the next multiple of d
next_multiple : (n d : ℕ) → 0 < d → n ≤ (n / d + 1) * d
next_multiple n d D = omega (arith, div-add-mod' n d, mod-lt n D, add-mul (n / d) 1 d)

sum_under : (m n o p x y : ℕ) → m * 1048576 ≤ x * o → n * 1048576 ≤ y * p → (m * p + n * o) * 1048576 ≤ (x + y) * (o * p)
sum_under m n o p x y h k = omega (arith, mul-le-mul_right p h, mul-le-mul_right o k)

product_under : (m n o p x y : ℕ) → m * 1048576 ≤ x * o → n * 1048576 ≤ y * p → m * n * 1048576 ≤ (x * y / 1048576 + 1) * (o * p)
product_under m n o p x y h k =
    let a : m * 1048576 * (n * 1048576) ≤ x * o * (y * p) = mul-le-mul h k in
    let b : x * y * (o * p) ≤ (x * y / 1048576 + 1) * 1048576 * (o * p) = mul-le-mul_right (o * p) (next_multiple (x * y) 1048576 (zero-lt-suc 1048575)) in
    let l : m * n * 1048576 * 1048576 ≡ m * 1048576 * (n * 1048576) = omega arith in
    let r : x * o * (y * p) ≡ x * y * (o * p) = omega arith in
    let c : (x * y / 1048576 + 1) * 1048576 * (o * p) ≡ (x * y / 1048576 + 1) * (o * p) * 1048576 = omega arith in
    le_of_mul-le-mul_right {k = 1048576} (omega arith) (zero-lt-suc 1048575)

under_itself : (s : Size) → Under s (upward s)
unfolding upward
under_itself s = record { units = λ o. next_multiple (s.num * 1048576) s.over o }

pub under_more : {s : Size} {b c : ℕ} → b ≤ c → Under s b → Under s c
under_more {s} l h = record { units = λ o. le_trans (h.units o) (mul-le-mul_right s.over l) }

under_plus : {a b : Size} {x y : ℕ} → Under a x → Under b y → Under (plus_s a b) (x + y)
unfolding plus_s
under_plus {a} {b} {x} {y} h k = record { units = λ o. sum_under a.num b.num a.over b.over x y (h.units (left_pos a.over b.over o)) (k.units (right_pos a.over b.over o)) }

under_times : {a b : Size} {x y : ℕ} → Under a x → Under b y → Under (times_s a b) (x * y / 1048576 + 1)
unfolding times_s
under_times {a} {b} {x} {y} h k = record { units = λ o. product_under a.num b.num a.over b.over x y (h.units (left_pos a.over b.over o)) (k.units (right_pos a.over b.over o)) }

pub under_related : Related sizes ceilings Under
unfolding sizes ceilings
under_related =
    record {
      plus = under_plus;
      less = under_plus;
      times = under_times;
      opp = λ p. p;
      over = λ f p. under_times p (under_itself (size (inv_e (own f))));
      num = λ f. under_itself (size (own f));
    }

-- ---- the largest input: pairs of 1025/1024, of the colatitude a sine that is given, the ratio 65/64, and c units in the place of every coefficient at the date
-- the f32 1025/1024, the largest sine, and 1/8
abbrev pub most : Float
most = of_bits binary32 0x3f802000

abbrev pub eighth : Float
eighth = of_bits binary32 0x3e000000

unfoldable pub top : Float → ℕ → Input ℕ
top sine c =
    let s = most in
    record {
      cos_theta = s;
      sin_theta = sine;
      sin_lambda = s;
      cos_lambda = s;
      ratio = of_bits binary32 0x3f820000;
      g = λ n m. c;
      h = λ n m. c;
      S = λ n m. schmidt_at (place n m);
      K = k_of;
    }

-- the units of its numbers, and of those that a coefficient at the date is made of
tops : (ceilings.num most ≡ 1049601) × (ceilings.num (of_bits binary32 0x3f820000) ≡ 1064961) × (ceilings.num five ≡ 5242881)
    × (ceilings.num main_cap ≡ 68719476737) × (ceilings.num rate_cap ≡ 4294967297) × (ceilings.num eighth ≡ 131073)
unfolding ceilings upward own of_bits
tops = (refl, refl, refl, refl, refl, refl)

slight_under : (f : Float) → Slight f → Under (sizes.num f) (ceilings.num most)
unfolding sizes
slight_under f h = rw tops.0 (record { units = λ o. omega arith })

leaf_under : (B c : ℕ) (f : Float) → Leaf B f → B * 1048576 ≤ c → Under (sizes.num f) c
unfolding sizes
leaf_under B c f l h = record { units = λ o. omega (arith, l.close.size, mul-le-mul_right (own f).over h) }

-- 65/64 at most
ratio_under : (x : Float) → T (ratio_ok x) → Under (sizes.num x) (ceilings.num (of_bits binary32 0x3f820000))
unfolding sizes of_bits ratio_ok
ratio_under x t =
    let lo = fin false 7 (negsuc 2) in
    let hi = fin false 65 (negsuc 5) in
    let a = and_l (le lo x) (le x hi) t in
    let b = and_r (le lo x) (le x hi) t in
    let p = order.between lo x hi tt tt a b in
    let v : num x * 64 ≤ 65 * den x = values_of_le x hi (num x) (den x) 65 64 p tt (own_value x p) (refl, refl) b in
    rw tops.1 (record { units = λ o. rw (own_size x, own_over x) (omega arith) })

pub main_under : (f : Float) → Leaf 65536 f → Under (sizes.num f) (ceilings.num main_cap)
main_under f h = rw tops.3 (leaf_under 65536 68719476737 f h (lit≤ tt))

pub rate_under : (f : Float) → Leaf 4096 f → Under (sizes.num f) (ceilings.num rate_cap)
rate_under f h = rw tops.4 (leaf_under 4096 4294967297 f h (lit≤ tt))

pub years_under : (f : Float) → Leaf 5 f → Under (sizes.num f) (ceilings.num five)
years_under f h = rw tops.2 (leaf_under 5 5242881 f h (lit≤ tt))

-- what the sums read at an accepted place is no larger
alike_top : (q : Asked) → T (height_ok q.height) → T (latitude_ok q.sin_phi q.cos_phi) → T (circle q.sin_lambda q.cos_lambda) → (N : ℕ) (g h : ℕ → ℕ → Size) (c : ℕ) → ((n m : ℕ) → Under (g n m) c) → ((n m : ℕ) → Under (h n m) c)
    → (sine : Float) → Under (sizes.num (sin_of q.height q.sin_phi q.cos_phi)) (ceilings.num sine) → Alike sizes ceilings Under (there sizes q N g h) (top sine c)
unfolding there placed top of_bits
alike_top q H L C N g h c G K sine S =
    let k = under_related in
    let o = circle_slight _ _ (colatitude q H L) in
    let l = circle_slight q.sin_lambda q.cos_lambda C in
    record {
      cos_theta = slight_under _ o.1;
      sin_theta = S;
      sin_lambda = slight_under q.sin_lambda l.0;
      cos_lambda = slight_under q.cos_lambda l.1;
      ratio = ratio_under _ (ratio_in q H L);
      S = λ n m. k.num _;
      K = λ n m. k.num _;
      g = G;
      h = K;
    }

-- what the sums come to there, by a computed test: X' and Z' at most X, Y', which is divided by the sine, at most Y, and at most S where the sine is at most 1/8
abbrev pub Tops : ℕ → ℕ → ℕ → ℕ → Type 0
Tops c X Y S =
    let t = top most c in
    (leb (x_sum ceilings t N_MAX) X ≡ true) × (leb (y_sum ceilings t N_MAX) Y ≡ true) × (leb (z_sum ceilings t N_MAX) X ≡ true)
    × (leb (pole_x ceilings t POLE_ORDERS N_MAX) X ≡ true) × (leb (pole_y ceilings t N_MAX) Y ≡ true) × (leb (pole_z ceilings t POLE_ORDERS N_MAX) X ≡ true)
    × (leb (y_sum ceilings (top eighth c) N_MAX) S ≡ true)

-- so X and Z of Field come to at most T, and Y to at most E: 1 / sine is at most 8, or at most 1024 where the sine is at most 1/8
pub record Reach (c T E : ℕ) : Type 0 where
  pub X : ℕ
  pub Y : ℕ
  pub S : ℕ
  pub sums : Tops c X Y S
  pub turned : X * 2101256 / 1048576 + 1 + (X * 2101256 / 1048576 + 1) ≤ T
  pub by_eight : Y * 2 ^ 23 / 1048576 + 1 ≤ E
  pub by_most : S * 2 ^ 30 / 1048576 + 1 ≤ E
  pub pole : Y ≤ E

pub at_most : (m n : ℕ) → leb m n ≡ true → m ≤ n
at_most m n e = leb→le m n (subst T (sym e) tt)

choose : (b : Bool) {x y : Size} {c : ℕ} → (T b → Under x c) → (T (not b) → Under y c) → Under (cond b x y) c
choose true p q = p tt
choose false p q = q tt

-- the sums of fewer degrees come to no more
more : (i : Input ℕ) (f : ℕ → ℕ) (n N : ℕ) → n ≤ N → total ceilings i f n ≤ total ceilings i f N
unfolding total ceilings
more i f zero N h = zero_le_all N
  where
    zero_le_all : (k : ℕ) → total ceilings i f 0 ≤ total ceilings i f k
    zero_le_all zero = le_refl _
    zero_le_all (suc k) = le_trans (zero_le_all k) (omega arith)
more i f (suc n) zero h = absurd (not-suc-le-zero h)
more i f (suc n) (suc N) h =
    elim (eq-or-lt_of_le h) [
      | inl e ↦ le_of_eq (ap (total ceilings i f) e)
      | inr l ↦ le_trans (more i f (suc n) N (le_of_suc-le-suc l)) (omega arith)
    ]

-- ---- the turn multiplies by little more than 2, twice
module _ (c s cp sp : Float) (C : Slight c) (S : Slight s) (CP : Slight cp) (SP : Slight sp) {x z : Size} {B T' : ℕ} (X : Under x B) (Z : Under z B) (most : B * 2101256 / 1048576 + 1 + (B * 2101256 / 1048576 + 1) ≤ T') where
  little : (f : Float) → Slight f → Under (sizes.num f) 1049601
  little f h = rw tops.0 at (slight_under f h)

  sin_under : Under (sin_turn sizes c s cp sp) 2101256
  unfolding sin_turn sizes
  sin_under = under_more (lit≤ tt) (under_plus (under_times (little c C) (little cp CP)) (under_times (little s S) (little sp SP)))

  cos_under : Under (cos_turn sizes c s cp sp) 2101256
  unfolding cos_turn sizes
  cos_under = under_more (lit≤ tt) (under_plus (under_times (little s S) (little cp CP)) (under_times (little c C) (little sp SP)))

  turn_x_under : Under (turn_x sizes c s cp sp x z) T'
  unfolding turn_x sizes
  turn_x_under = under_more most (under_plus (under_times X cos_under) (under_times Z sin_under))

  turn_z_under : Under (turn_z sizes c s cp sp x z) T'
  unfolding turn_z sizes
  turn_z_under = under_more most (under_plus (under_times X sin_under) (under_times Z cos_under))

-- ---- the majorants of X, Y and Z at an accepted place, in units, for coefficients of at most c units
module _ (q : Asked) (H : T (height_ok q.height)) (L : T (latitude_ok q.sin_phi q.cos_phi)) (C : T (circle q.sin_lambda q.cos_lambda)) (N : ℕ) (high : N ≤ N_MAX)
    (g h : ℕ → ℕ → Size) {c T' E : ℕ} (r : Reach c T' E) (G : (n m : ℕ) → Under (g n m) c) (K : (n m : ℕ) → Under (h n m) c) where
  abbrev i : Input Size
  i = there sizes q N g h

  abbrev sine : Float
  sine = sin_of q.height q.sin_phi q.cos_phi

  pair : Slight sine × Slight (cos_of q.height q.sin_phi q.cos_phi)
  pair = circle_slight _ _ (colatitude q H L)

  largest : Alike sizes ceilings Under i (top most c)
  largest = alike_top q H L C N g h c G K most (slight_under sine pair.0)

  -- a sum over the degrees, by what it comes to over all
  under_all : (s : Size) (t : Input ℕ) (f : ℕ → ℕ) (b : ℕ) → Under s (total ceilings t f N) → leb (total ceilings t f N_MAX) b ≡ true → Under s b
  under_all s t f b u h = under_more (le_trans (more t f N N_MAX high) (at_most _ b h)) u

  x_under : Under (path_x sizes i N) r.X
  unfolding x_sum pole_x
  x_under = choose (small_sine i.sin_theta) (λ t. under_all _ _ _ _ (pole_x_related sizes ceilings Under under_related i (top most c) largest POLE_ORDERS N) r.sums.3) (λ t. under_all _ _ _ _ (x_sum_related sizes ceilings Under under_related i (top most c) largest N) r.sums.0)

  z_under : Under (path_z sizes i N) r.X
  unfolding z_sum pole_z
  z_under = choose (small_sine i.sin_theta) (λ t. under_all _ _ _ _ (pole_z_related sizes ceilings Under under_related i (top most c) largest POLE_ORDERS N) r.sums.5) (λ t. under_all _ _ _ _ (z_sum_related sizes ceilings Under under_related i (top most c) largest N) r.sums.2)

  -- the sum that Y is divided from
  east_under : (s : Float) (b : ℕ) → Under (sizes.num sine) (ceilings.num s) → leb (y_sum ceilings (top s c) N_MAX) b ≡ true → Under (y_sum sizes i N) b
  unfolding y_sum
  east_under s b S k = under_all _ _ _ _ (y_sum_related sizes ceilings Under under_related i (top s c) (alike_top q H L C N g h c G K s S) N) k

  abbrev part : ℕ
  part = (own sine).plus + (own sine).minus

  slim : 8 * part ≤ (own sine).over → Under (sizes.num sine) (ceilings.num eighth)
  unfolding sizes
  slim h = rw tops.5 (record { units = λ o. omega arith })

  -- 1 / sine is at most B
  inverse_under : (B : ℕ) → ((size (inv_e (own sine))).num ≤ B * (size (inv_e (own sine))).over) → Under (size (inv_e (own sine))) (B * 1048576)
  inverse_under B h = record { units = λ o. omega (arith, h) }

  parted : T (not (small_sine sine)) → (b : Bool) → (T b → 8 * part ≤ (own sine).over) → (T (not b) → (own sine).over < 8 * part) → Under (times_s (y_sum sizes i N) (size (inv_e (own sine)))) E
  parted t true l m = under_more r.by_most (under_times (east_under eighth r.S (slim (l tt)) r.sums.6) (inverse_under 1024 (sine_divides q H L t).size))
  parted t false l m =
      let k = m tt in
      let d = inverse 8 1 (negsuc 2) sine (lit< tt) (lit≤ tt) (sine_divides q H L t).is_finite (omega (arith, k)) in
      under_more r.by_eight (under_times (east_under most r.Y (slight_under sine pair.0) r.sums.1) (inverse_under 8 d.1))

  pub there_y_under : Under (there_y sizes q N g h) E
  unfolding there_y there placed sizes pole_y
  there_y_under =
      choose (small_sine sine) (λ t. under_more r.pole (under_all _ _ _ _ (pole_y_related sizes ceilings Under under_related i (top most c) largest N) r.sums.4))
      (λ t. parted t (leb (8 * part) (own sine).over) (leb→le (8 * part) (own sine).over) (nleb→lt (8 * part) (own sine).over))

  lat : Slight q.sin_phi × Slight q.cos_phi
  lat = circle_slight q.sin_phi q.cos_phi (latitude_circle q.sin_phi q.cos_phi L)

  pub there_x_under : Under (there_x sizes q N g h) T'
  unfolding there_x
  there_x_under = turn_x_under _ _ q.cos_phi q.sin_phi pair.1 pair.0 lat.1 lat.0 x_under z_under r.turned

  pub there_z_under : Under (there_z sizes q N g h) T'
  unfolding there_z
  there_z_under = turn_z_under _ _ q.cos_phi q.sin_phi pair.1 pair.0 lat.1 lat.0 x_under z_under r.turned
