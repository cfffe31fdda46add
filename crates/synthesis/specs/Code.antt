-- What each function of the code computes, in the recurrences' terms. Definitions only. The entry's contract cites none of them.
use Rattle.std.specs.Prelude.{◌≡◌, List, [], ◌∷◌, ℕ, zero, suc, ◌+◌, ◌*◌, ◌-◌, ◌/◌, ◌<◌, ◌≤◌, cond, eqb, ltb, get_or, set, length, Float}
use Rattle.std.specs.Float.{nan, binary32}
use Rattle.std.specs.Float.Ieee.{mul, of_bits}
use Rattle.tables.specs.Degree.{M_LEN, N_LEGENDRE, N_MAX, WMM_MAX, entries, place}
use Rattle.tables.specs.Rule.{k_of}
use Rattle.tables.specs.Division.{k_divisor, k_over}
use Rattle.synthesis.specs.declared.Xyz.{Xyz}
use Rattle.synthesis.specs.declared.rows.PDp.{PDp}
use Rattle.synthesis.specs.declared.rows.Places.{Places}
use Rattle.synthesis.specs.declared.angles.Angles.{Angles}
use Rattle.synthesis.specs.declared.angles.SinCos.{SinCos}
use Rattle.synthesis.specs.declared.date.Gh.{Gh}
use Rattle.synthesis.specs.declared.date.Dated.{Dated}
use Rattle.synthesis.specs.declared.near_pole.PoleRow.{PoleRow}
use Rattle.synthesis.specs.declared.rows.Rows.{Rows}
use Rattle.synthesis.specs.declared.lanes.Starts.{Starts}
use Rattle.synthesis.specs.declared.lanes.Weights.{Weights}
use Rattle.synthesis.specs.declared.terms.Sources.{Sources}
use Rattle.synthesis.specs.declared.terms.Terms.{Terms}
use Rattle.synthesis.specs.declared.general.Lanes.{Lanes}
use Rattle.lists.specs.declared.Lists.{Lists}
use Rattle.sums.specs.Recurrence.{Input, angle, coefficient, downward, gc, gs, lit, next_quotient, pole_east, pole_x, pole_y, pole_z, power, ps, step, total, x_row, x_sum, y_row, y_sum, z_row, z_sum}
use Rattle.sums.specs.Paths.{POLE_ORDERS}
use Rattle.sums.specs.Arithmetic.{Pair, pair, rounded}

-- P and its derivative, and back
abbrev pub pdp : Pair Float → PDp
pdp a = record { p = a.fst; dp = a.snd }

abbrev pub qp : PDp → Pair Float
qp r = pair r.p r.dp

-- f 0 to f 3, for the orders of four lanes
abbrev pub four : {A : Type 0} → (ℕ → A) → List A
four f = f 0 ∷ f 1 ∷ f 2 ∷ f 3 ∷ []

-- two zeros, as the code holds them
abbrev pub nothing : PDp
nothing = record { p = of_bits binary32 0; dp = of_bits binary32 0 }

-- P and its derivative where lane m starts
abbrev pub pair_at : Starts → ℕ → PDp
pair_at d m = record { p = get_or d.p m nan; dp = get_or d.dp m nan }

-- row k of three, at column j
abbrev pub cell : List (List Float) → ℕ → ℕ → Float
cell t k j = get_or (get_or t k []) j nan

abbrev pub cells : Rows → ℕ → ℕ → Pair Float
cells r k m = pair (cell r.p k m) (cell r.dp k m)

-- row k with v at column j
abbrev pub put : List (List Float) → ℕ → ℕ → Float → List (List Float)
put t k j v = set t k (set (get_or t k []) j v)

-- the rows with a pair at column j of row k
abbrev pub put_pair : Rows → ℕ → ℕ → PDp → Rows
put_pair r k j v = record { p = put r.p k j v.p; dp = put r.dp k j v.dp }

-- with four, from column m on
abbrev pub put_pairs : Rows → ℕ → ℕ → List PDp → Rows
put_pairs r k m v =
    put_pair (put_pair (put_pair (put_pair r k m (get_or v 0 nothing)) k (m + 1) (get_or v 1 nothing)) k (m + 2) (get_or v 2 nothing)) k (m + 3) (get_or v 3 nothing)

-- the row step's last branch alone: q of degree n - 1, r of degree n - 2
abbrev pub lowered : Float → Float → Float → Pair Float → Pair Float → Pair Float
lowered c s k q r =
    pair (rounded.less (rounded.times c q.fst) (rounded.times k r.fst)) (rounded.less (rounded.less (rounded.times c q.snd) (rounded.times s q.fst)) (rounded.times k r.snd))

-- the row of degree n becomes that of n - 1, and so on
abbrev pub rotated : Places → Places
rotated q = record { prev2 = q.prev1; prev1 = q.cur; cur = q.prev2 }

-- f 0, f 1, .. : n of them
unfoldable pub first : (ℕ → Float) → ℕ → List Float
first f zero = []
first f (suc n) = f 0 ∷ first (λ k. f (suc k)) n

abbrev pub sin_at : Float → Float → ℕ → Float
sin_at sin_lambda cos_lambda m = (angle rounded sin_lambda cos_lambda m).fst

abbrev pub cos_at : Float → Float → ℕ → Float
cos_at sin_lambda cos_lambda m = (angle rounded sin_lambda cos_lambda m).snd

unfoldable pub angles_of : Float → Float → Angles
angles_of sin_lambda cos_lambda = record { sin = first (sin_at sin_lambda cos_lambda) M_LEN; cos = first (cos_at sin_lambda cos_lambda) M_LEN }

-- ---- the lanes of the general path, one for each order
-- P(m, m) and its derivative, where lane m starts
unfoldable pub start_at : Float → Float → ℕ → Pair Float
start_at c s zero = pair (lit 1) (lit 0)
start_at c s (suc m) = let a = start_at c s m in pair (rounded.times s a.fst) (rounded.plus (rounded.times s a.snd) (rounded.times c a.fst))

abbrev pub start_p : Float → Float → ℕ → Float
start_p c s m = (start_at c s m).fst

abbrev pub start_dp : Float → Float → ℕ → Float
start_dp c s m = (start_at c s m).snd

unfoldable pub starts_of : Float → Float → Starts
starts_of c s = record { p = first (start_p c s) M_LEN; dp = first (start_dp c s) M_LEN }

abbrev pub start : Input Float → ℕ → Pair Float
start i m = start_at i.cos_theta i.sin_theta m

-- what a lane is multiplied by in degree n: one number below the degree, another from it on
abbrev pub weight : Float → Float → ℕ → ℕ → Float
weight below then n m = cond (ltb m n) below then

-- the step of lane m in degree n: below the degree the row step's last branch, from it on the lane is kept
unfoldable pub lane_step : Input Float → ℕ → ℕ → Pair Float → Pair Float → Pair Float
lane_step i n m q r = lowered (weight i.cos_theta (lit 1) n m) (weight i.sin_theta (lit 0) n m) (i.K n m) q r

-- two zeros: what the rows hold of a lane before its degree comes
abbrev pub none : Pair Float
none = pair (lit 0) (lit 0)

-- what lane m holds in degree n: nothing below the degree where its four lanes begin, there its start value, and a step for each degree after it
unfoldable pub lane : Input Float → ℕ → ℕ → Pair Float
lane i zero m = cond (ltb 0 (4 * (m / 4))) none (start i m)
lane i (suc zero) m = cond (ltb 1 (4 * (m / 4))) none (lane_step i 1 m (start i m) none)
lane i (suc (suc n)) m = cond (ltb (suc (suc n)) (4 * (m / 4))) none (cond (eqb (suc (suc n)) (4 * (m / 4))) (start i m) (lane_step i (suc (suc n)) m (lane i (suc n) m) (lane i n m)))

-- what the step in degree n reads of degree n - 2: in degree 1 there is none
abbrev pub two_back : Input Float → ℕ → ℕ → Pair Float
two_back i n m = cond (ltb n 2) none (lane i (n - 2) m)

-- the places of the list of weights: those of degree n begin at N-MAX - n
abbrev pub W_LEN : ℕ
W_LEN = 2 * N_MAX

-- a lane after a step, j its place in the lists of weights, a of the degree before and b of that before it
abbrev pub lowered_at : Weights → ℕ → Float → PDp → PDp → PDp
lowered_at w j k a b = pdp (lowered (get_or w.cos j nan) (get_or w.sin j nan) k (qp a) (qp b))

-- four lanes after a step, from place j on
abbrev pub lowered_four : Weights → ℕ → List Float → List PDp → List PDp → List PDp
lowered_four w j k a b = four (λ l. lowered_at w (j + l) (get_or k l nan) (get_or a l nothing) (get_or b l nothing))

-- the square of n, and the divisor of K in the degree after n
unfoldable pub square_at : ℕ → Float
square_at n = mul binary32 (lit n) (lit n)

unfoldable pub divisor_at : ℕ → Float
divisor_at n = k_divisor (square_at n)

-- the factor of the degree after n in lane m, from these
abbrev pub next_k : ℕ → ℕ → Float
next_k n m = k_over (square_at n) (lit m) (divisor_at n)

-- one order's terms of the three sums, o the order; x is the minus of the term of X
unfoldable pub term_of : Float → Float → PDp → Float → Float → Float → Float → Xyz
term_of o s r g h sin cos =
    let u = pair sin cos in
    record {
      x = rounded.times (gc rounded g h u) (rounded.times s r.dp);
      y = rounded.times (rounded.times o (gs rounded g h u)) (ps rounded s (qp r));
      z = rounded.times (gc rounded g h u) (ps rounded s (qp r));
    }

-- the coefficients at place k of the lists, at the date
abbrev pub gh_at : Dated → ℕ → Gh
gh_at d k =
    let l = d.lists in
    record { g = coefficient rounded (get_or l.g.now k nan) (get_or l.g_dot.now k nan) d.offset; h = coefficient rounded (get_or l.h.now k nan) (get_or l.h_dot.now k nan) d.offset }

-- the pair of order m
abbrev pub sin_cos_of : Angles → ℕ → SinCos
sin_cos_of a m = record { sin = get_or a.sin m nan; cos = get_or a.cos m nan }

-- the terms of order m at place k of the tables
abbrev pub term_at : Sources → ℕ → ℕ → PDp → Xyz
term_at s m k r =
    let w = gh_at s.dated (k - 1) in
    let u = sin_cos_of s.angles.now m in
    term_of (lit m) (get_or s.schmidt.now k nan) r w.g w.h u.sin u.cos

-- of four orders, from order m at place k on
abbrev pub four_terms : Sources → ℕ → ℕ → List PDp → List Xyz
four_terms s m k r = four (λ j. term_at s (m + j) (k + j) (get_or r j nothing))

-- the terms: read and stored at place k
abbrev pub cell_xyz : Terms → ℕ → Xyz
cell_xyz t k = record { x = get_or t.x k nan; y = get_or t.y k nan; z = get_or t.z k nan }

unfoldable pub put_term : Terms → ℕ → Xyz → Terms
put_term t k v = record { x = set t.x k v.x; y = set t.y k v.y; z = set t.z k v.z }

-- three zeros, as the code holds them
abbrev pub no_term : Xyz
no_term = record { x = of_bits binary32 0; y = of_bits binary32 0; z = of_bits binary32 0 }

-- four terms stored, from place k on
abbrev pub put_terms : Terms → ℕ → List Xyz → Terms
put_terms t k v =
    put_term (put_term (put_term (put_term t k (get_or v 0 no_term)) (k + 1) (get_or v 1 no_term)) (k + 2) (get_or v 2 no_term)) (k + 3) (get_or v 3 no_term)

-- the first k terms, added up from 0, each x taken away; i is not read
abbrev pub totals : Input Float → (ℕ → Xyz) → ℕ → Xyz
totals i f k = record { x = total rounded i (λ m. rounded.opp (f m).x) k; y = total rounded i (λ m. (f m).y) k; z = total rounded i (λ m. (f m).z) k }

-- three sums at once
unfoldable pub plus_of : Xyz → Xyz → Xyz
plus_of a b = record { x = rounded.plus a.x b.x; y = rounded.plus a.y b.y; z = rounded.plus a.z b.z }

-- the part of degree n in the sums, from the sums over its orders
unfoldable pub degree_part : ℕ → Float → Xyz → Xyz
degree_part n power a = record { x = rounded.times power a.x; y = rounded.times power a.y; z = downward rounded n power a.z }

-- the sums with one degree more
unfoldable pub add_degree : Xyz → ℕ → Float → Xyz → Xyz
add_degree t n power a =
    record {
      x = rounded.plus t.x (rounded.times power a.x);
      y = rounded.plus t.y (rounded.times power a.y);
      z = rounded.plus t.z (downward rounded n power a.z);
    }

-- the terms of degree n by order, from the lanes
abbrev pub lane_terms : Input Float → ℕ → ℕ → Xyz
lane_terms i n m = term_of (lit m) (i.S n m) (pdp (lane i n m)) (i.g n m) (i.h n m) (sin_at i.sin_lambda i.cos_lambda m) (cos_at i.sin_lambda i.cos_lambda m)

abbrev pub lane_sums : Input Float → ℕ → Xyz
lane_sums i n = totals i (lane_terms i n) (n + 1)

-- the sums over the degrees 1 to n, from the lanes
unfoldable pub lane_total : Input Float → ℕ → Xyz
lane_total i zero = record { x = lit 0; y = lit 0; z = lit 0 }
lane_total i (suc n) = add_degree (lane_total i n) (suc n) (power rounded i n) (lane_sums i (suc n))

-- the three sums of the general path, over the degrees 1 to N
abbrev pub general : Input Float → ℕ → Xyz
general i N = record { x = x_sum rounded i N; y = y_sum rounded i N; z = z_sum rounded i N }

-- ---- what the loops keep
-- four lists of the degree top, 12 or 13
abbrev pub OfDegree : ℕ → List Float → List Float → List Float → List Float → Type 0
OfDegree top g h g_dot h_dot = (WMM_MAX ≤ top) × (top ≤ N_MAX) × (length g ≡ entries top) × (length h ≡ entries top) × (length g_dot ≡ entries top) × (length h_dot ≡ entries top)

-- the same, as they are lent
abbrev pub ListsOf : ℕ → Lists → Type 0
ListsOf top l = OfDegree top l.g.now l.h.now l.g_dot.now l.h_dot.now

-- lent lists of n entries at least
abbrev pub Reach : ℕ → Lists → Type 0
Reach n l = (n ≤ length l.g.now) × (n ≤ length l.h.now) × (n ≤ length l.g_dot.now) × (n ≤ length l.h_dot.now)

-- three rows of w columns
pub record Sized (w : ℕ) (t : List (List Float)) : Type 0 where
  pub rows : length t ≡ 3
  pub cells : (k : ℕ) → k < 3 → length (get_or t k []) ≡ w

-- three rows, all different
pub record Apart (q : Places) : Type 0 where
  pub prev2 : q.prev2 < 3
  pub prev1 : q.prev1 < 3
  pub cur : q.cur < 3
  pub prev1_cur : q.prev1 ≡ q.cur → ⊥
  pub prev2_cur : q.prev2 ≡ q.cur → ⊥
  pub prev1_prev2 : q.prev1 ≡ q.prev2 → ⊥

-- terms of every place
pub record Wide (t : Terms) : Type 0 where
  pub x : length t.x ≡ N_LEGENDRE
  pub y : length t.y ≡ N_LEGENDRE
  pub z : length t.z ≡ N_LEGENDRE

-- the lanes below m are at their start: the middle row holds it, the others nothing
pub record Fresh (i : Input Float) (m : ℕ) (r : Rows) : Type 0 where
  pub p_sized : Sized M_LEN r.p
  pub d_sized : Sized M_LEN r.dp
  pub starts : (k l : ℕ) → k < 3 → l < m → cells r k l ≡ cond (eqb k 1) (start i l) none

-- the terms of the orders from m on are stored, in the degrees up to top
pub record Above (i : Input Float) (top m : ℕ) (t : Terms) : Type 0 where
  pub wide : Wide t
  pub terms_are : (d l : ℕ) → d ≤ top → m ≤ l → l ≤ d → cell_xyz t (place d l) ≡ lane_terms i d l

-- the same, in the degrees above m
pub record Filled (i : Input Float) (top m : ℕ) (t : Terms) : Type 0 where
  pub wide : Wide t
  pub terms_are : (d l : ℕ) → m < d → d ≤ top → m ≤ l → l ≤ d → cell_xyz t (place d l) ≡ lane_terms i d l

-- the sums of degree n over its orders
abbrev pub row_sums : Input Float → ℕ → Xyz
row_sums i n = record { x = x_row rounded i n; y = y_row rounded i n; z = z_row rounded i n }

-- what the terms are made of is what the sums read: the factors K, Schmidt's table, the coefficients at the date, the angles
pub record Given (i : Input Float) (top : ℕ) (s : Sources) : Type 0 where
  pub K : i.K ≡ k_of
  pub S : (n m : ℕ) → n < M_LEN → m ≤ n → get_or s.schmidt.now (place n m) nan ≡ i.S n m
  pub g_is : (n m : ℕ) → 0 < n → n ≤ top → m ≤ n → (gh_at s.dated (place n m - 1)).g ≡ i.g n m
  pub h_is : (n m : ℕ) → 0 < n → n ≤ top → m ≤ n → (gh_at s.dated (place n m - 1)).h ≡ i.h n m
  pub sin_is : (m : ℕ) → m < M_LEN → get_or s.angles.now.sin m nan ≡ (angle rounded i.sin_lambda i.cos_lambda m).fst
  pub cos_is : (m : ℕ) → m < M_LEN → get_or s.angles.now.cos m nan ≡ (angle rounded i.sin_lambda i.cos_lambda m).snd

-- the lists of start values
abbrev pub Started : Input Float → Starts → Type 0
Started i d = (m : ℕ) → m < M_LEN → pair_at d m ≡ pdp (start i m)

-- the two lists of weights: before P and its derivative, before P in the derivative
pub record Weighed (i : Input Float) (w : Weights) : Type 0 where
  pub cos_theta : (j : ℕ) → j < W_LEN → get_or w.cos j nan ≡ cond (ltb j N_MAX) i.cos_theta (lit 1)
  pub sin_theta : (j : ℕ) → j < W_LEN → get_or w.sin j nan ≡ cond (ltb j N_MAX) i.sin_theta (lit 0)

-- what the lanes read is what the sums read
pub record Ready (i : Input Float) (top : ℕ) (l : Lanes) : Type 0 where
  pub given : Given i top l.sources
  pub weighed : Weighed i l.weights.now
  pub started : Started i l.starts.now

-- ---- near the pole
-- Q of degree n, from those of degrees n - 1 and n - 2
unfoldable pub next_q : ℕ → Float → Float → Float → Float → Float
next_q n k c q1 q2 = cond (eqb n 1) (of_bits binary32 0x3f800000) (next_quotient rounded c k q1 q2)

-- P and Q of degree n, from those of degrees n - 1 and n - 2; k0 and k1 are the K of its orders
unfoldable pub next_row : ℕ → Float → Float → Float → Float → PoleRow → PoleRow → PoleRow
next_row n k0 k1 c s a b =
    record {
      r0 = pdp (step rounded c s k0 n 0 (qp a.r0) (qp a.r0) (qp b.r0));
      r1 = pdp (step rounded c s k1 n 1 (qp a.r0) (qp a.r1) (qp b.r1));
      q = next_q n k1 c a.q b.q;
    }

-- a degree's parts, of the terms of order 0, whose sine is 0 and cosine 1, and of those of order 1; east of order 1 by Q
unfoldable pub pole_parts : PoleRow → Gh → Gh → Float → Float → SinCos → Float → Xyz
pole_parts r w0 w1 s0 s1 u power =
    let nil = of_bits binary32 0 in
    let one = of_bits binary32 0x3f800000 in
    let v0 = term_of nil s0 r.r0 w0.g w0.h nil one in
    let v1 = term_of one s1 r.r1 w1.g w1.h u.sin u.cos in
    record {
      x = rounded.less (rounded.less nil v0.x) v1.x;
      y = pole_east rounded power (gs rounded w1.g w1.h (pair u.sin u.cos)) r.q s1;
      z = rounded.plus (rounded.plus nil v0.z) v1.z;
    }

-- the sums with one degree more
unfoldable pub add_pole_degree : Xyz → ℕ → Float → Xyz → Xyz
add_pole_degree t n power a =
    record {
      x = rounded.plus t.x (rounded.times power a.x);
      y = rounded.plus t.y a.y;
      z = rounded.plus t.z (downward rounded n power a.z);
    }

-- the three sums of the near-pole path, over the degrees 1 to N
abbrev pub near_pole : Input Float → ℕ → Xyz
near_pole i N = record { x = pole_x rounded i POLE_ORDERS N; y = pole_y rounded i N; z = pole_z rounded i POLE_ORDERS N }
