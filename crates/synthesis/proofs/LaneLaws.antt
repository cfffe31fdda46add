-- The lanes hold P. But for a zero's sign lane m is P(n, m) in the degrees from m on, and P(m, m) from where its four lanes begin. So the sums are those of the recurrences.
use mathlib.Core.Path.{◌≡◌, refl, sym, ◌∙◌}
use Prim.Native.Nat.{ℕ, zero, suc, ◌+◌, ◌*◌, ◌-◌, ◌/◌, ◌<◌, ◌≤◌}
use native.Mathlib.Nat.{not-suc-le-zero}
use native.Mathlib.Numerals.{add-one}
use native.Mathlib.Omega.{arith}
use mathlib.Core.Bool.{false}
use mathlib.Core.Logic.{⊎_elim}
use borrow.Author.Tests.{eq-eqb, ne_eqb, lt-ltb, le-ltb}
use lib.Dec.{T}
use lib.Ieee.{Float, binary32, fits, neg, of_int, round}
use lib.Ieee.Fits.{add-fits, mul-fits, neg-fits, sub-fits}
use lib.Ieee.Scale.{finite}
use Rattle.tables.specs.Degree.{N_MAX}
use Rattle.sums.specs.Arithmetic.{Pair, pair, rounded}
use Rattle.sums.specs.Recurrence.{Input, dpsn, gc_hs, gs_hc, legendre, lit, psn, step, x_row, x_term, y_row, y_term, z_row, z_term}
use Rattle.synthesis.specs.Code.{lane, lane_step, lane_sums, lane_terms, lowered, none, row_sums, start, start_at, term_of, two_back}
use Rattle.sums.specs.Same.{Same, same}
use Rattle.sums.proofs.SameLaws.{mul_same, same_trans, sub_same}
use Rattle.sums.proofs.Kept.{Null, less_null, mul_null, null_less, null_mul, one_times, times_one}
use Rattle.sums.proofs.Step.{legendre_next, less_or, same_or}
use Rattle.sums.proofs.ZeroSign.{total_unseen}
use Rattle.synthesis.proofs.TurnedSign.{turned_term}

-- what the law asks of what is read: numbers of the format, finite, and K a zero from order n - 1 on
pub record Plain (i : Input Float) : Type 0 where
  pub cos_held : T (fits binary32 i.cos_theta)
  pub sin_held : T (fits binary32 i.sin_theta)
  pub cos_finite : T (finite i.cos_theta)
  pub K_null : (n m : ℕ) → n < m + 2 → Null (i.K n m)
  pub P_finite : (n m : ℕ) → n ≤ N_MAX → T (finite (legendre rounded i n m).fst) × T (finite (legendre rounded i n m).snd)

-- both numbers of a pair
abbrev SameP : Pair Float → Pair Float → Type 0
SameP a b = Same a.fst b.fst × Same a.snd b.snd

by_path : {a b c : Pair Float} → SameP a b → b ≡ c → SameP a c
by_path p e = rw e at p

lowered_same : (c s k : Float) {q q' r r' : Pair Float} → SameP q q' → SameP r r' → SameP (lowered c s k q r) (lowered c s k q' r')
unfolding rounded
lowered_same c s k p o = (
  sub_same (mul_same same p.0) (mul_same same o.0),
  sub_same (sub_same (mul_same same p.1) (mul_same same p.0)) (mul_same same o.1),
)

-- ---- one more degree, from the two before
pub two_back_lem : (i : Input Float) (n m : ℕ) → 2 ≤ n → two_back i n m ≡ lane i (n - 2) m
two_back_lem i n m h = rw (le-ltb n 2 h) refl

pub lane_next : (i : Input Float) (n m : ℕ) → 0 < n → 4 * (m / 4) < n → lane i n m ≡ lane_step i n m (lane i (n - 1) m) (two_back i n m)
unfolding lane
lane_next i zero m z h = absurd (not-suc-le-zero z)
lane_next i (suc zero) m z h = rw (le-ltb 1 (4 * (m / 4)) (omega arith), le-ltb 0 (4 * (m / 4)) (omega arith)) refl
lane_next i (suc (suc n)) m z h =
    let u : suc (suc n) - 1 ≡ suc n = omega arith in
    let v : suc (suc n) - 2 ≡ n = omega arith in
    rw (two_back_lem i (suc (suc n)) m (omega arith), u, v, le-ltb (suc (suc n)) (4 * (m / 4)) (omega arith), ne_eqb (suc (suc n)) (4 * (m / 4)) (λ e. omega arith)) refl

-- before its four lanes begin
lane_none : (i : Input Float) (n m : ℕ) → n < 4 * (m / 4) → lane i n m ≡ none
unfolding lane
lane_none i zero m l = rw (lt-ltb 0 (4 * (m / 4)) l) refl
lane_none i (suc zero) m l = rw (lt-ltb 1 (4 * (m / 4)) l) refl
lane_none i (suc (suc n)) m l = rw (lt-ltb (suc (suc n)) (4 * (m / 4)) l) refl

-- where they begin
pub lane_begun : (i : Input Float) (n m : ℕ) → n ≡ 4 * (m / 4) → lane i n m ≡ start i m
unfolding lane
lane_begun i zero m e = rw (le-ltb 0 (4 * (m / 4)) (omega arith)) refl
lane_begun i (suc zero) m e = absurd (omega arith)
lane_begun i (suc (suc n)) m e = rw (le-ltb (suc (suc n)) (4 * (m / 4)) (omega arith), eq-eqb (suc (suc n)) (4 * (m / 4)) e) refl

-- what their first step reads of the degree before
pub none_back : (i : Input Float) (n m : ℕ) → n ≤ 4 * (m / 4) + 1 → two_back i n m ≡ none
none_back i n m l = ⊎_elim (λ (h : n < 2). rw (lt-ltb n 2 h) refl) (λ (h : 2 ≤ n). two_back_lem i n m h ∙ lane_none i (n - 2) m (omega arith)) (less_or n 2)

-- ---- the branches of the row step
module _ (c s k : Float) (n m : ℕ) (q' q r : Pair Float) where
  last_branch : n ≡ m → step rounded c s k n m q' q r ≡ pair (rounded.times s q'.fst) (rounded.plus (rounded.times s q'.snd) (rounded.times c q'.fst))
  unfolding step
  last_branch e = simp (eq-eqb n m e)

  next_branch : (n ≡ 1 → ⊥) → m + 1 ≡ n → step rounded c s k n m q' q r ≡ pair (rounded.times c q.fst) (rounded.less (rounded.times c q.snd) (rounded.times s q.fst))
  unfolding step
  next_branch o e = simp (ne_eqb n m (λ h. omega arith), ne_eqb n 1 o, lt-ltb (n - 2) m (omega arith))

  pub lower_branch : m + 2 ≤ n → step rounded c s k n m q' q r ≡ lowered c s k q r
  unfolding step
  lower_branch h = simp (ne_eqb n m (λ e. omega arith), ne_eqb n 1 (λ e. omega arith), le-ltb (n - 2) m (omega arith))

first_branch : (c s k : Float) (q' q r : Pair Float) → step rounded c s k 1 0 q' q r ≡ pair c (rounded.opp s)
unfolding step
first_branch c s k q' q r = refl

-- P of degree n from what its step reads of the two degrees before, in f32
row_next : (i : Input Float) (n m : ℕ) → 0 < n → m ≤ n → (q' q r : Pair Float)
    → (0 < m → q' ≡ legendre rounded i (n - 1) (m - 1)) → (m < n → q ≡ legendre rounded i (n - 1) m) → (m < n - 1 → r ≡ legendre rounded i (n - 2) m)
    → step rounded i.cos_theta i.sin_theta (i.K n m) n m q' q r ≡ legendre rounded i n m
unfolding rounded
row_next i zero m z l q' q r a b d = absurd (not-suc-le-zero z)
row_next i (suc n) m z l q' q r a b d =
    let u : suc n - 1 ≡ n = omega arith in
    let v : suc n - 2 ≡ n - 1 = omega arith in
    legendre_next rounded i n m l q' q r (λ e. let f : m - 1 ≡ n = omega arith in rw (u, f) at (a (omega arith))) (λ h. rw u at (b (omega arith))) (λ h. rw v at (d (omega arith)))

-- ---- the start values
zero_null : Null (lit 0)
unfolding lit of_int round
zero_null = (false, refl)

module _ (i : Input Float) (w : Plain i) where
  start_is : (m : ℕ) → start i m ≡ legendre rounded i m m
  unfolding start_at
  start_is zero = unfold start_at legendre rounded in refl
  start_is (suc m) =
      let e : suc m - 1 ≡ m = omega arith in
      let a = start i m in
      sym (last_branch i.cos_theta i.sin_theta (i.K (suc m) (suc m)) (suc m) (suc m) a a a refl)
      ∙ row_next i (suc m) (suc m) (omega arith) (omega arith) a a a (λ h. rw e (start_is m)) (λ h. absurd (omega arith)) (λ h. absurd (omega arith))

  start_held : (m : ℕ) → T (fits binary32 (start i m).fst) × T (fits binary32 (start i m).snd)
  unfolding start_at rounded lit of_int round fits
  start_held zero = (tt, tt)
  start_held (suc m) = (mul-fits binary32 i.sin_theta (start i m).fst, add-fits binary32 _ _)

  start_finite : (m : ℕ) → m ≤ N_MAX → T (finite (start i m).fst) × T (finite (start i m).snd)
  start_finite m l = rw (start_is m) (w.P_finite m m l)

  -- ---- a lane before its degree
  -- but for a zero's sign a pair of finite numbers: nothing, or the start value
  pub record Tame (r : Pair Float) : Type 0 where
    pub to : Pair Float
    pub like : SameP r to
    pub held : T (finite to.fst) × T (finite to.snd)

  -- zero is the derivative that order 0 starts with
  tame_none : Tame none
  unfolding start_at
  tame_none = let f = (start_finite 0 (omega arith)).1 in record { to = none; like = (same, same); held = (f, f) }

  kept : (n m : ℕ) → n ≤ m → m ≤ N_MAX → {q r : Pair Float} → SameP q (start i m) → Tame r → SameP (lane_step i n m q r) (start i m)
  unfolding lane_step rounded
  kept n m l M {q} {r} p o =
      let a = start i m in
      let h = start_held m in
      let f = start_finite m M in
      let k = i.K n m in
      let z : Null k = w.K_null n m (omega arith) in
      let v = lowered_same (lit 1) (lit 0) k p o.like in
      rw (le-ltb m n l) (
        same_trans v.0 (rw (one_times a.fst h.0) (less_null a.fst _ h.0 (null_mul k o.to.fst z o.held.0))),
        same_trans v.1 (rw (one_times a.snd h.1) (same_trans (sub_same (less_null a.snd _ h.1 (null_mul (lit 0) a.fst zero_null f.0)) same) (less_null a.snd _ h.1 (null_mul k o.to.snd z o.held.1)))),
      )

  -- what was read before, where the lane is at its start from its first degree on
  past : (n m : ℕ) → m ≤ N_MAX → (4 * (m / 4) ≤ n → SameP (lane i n m) (start i m)) → Tame (lane i n m)
  past n m M p = ⊎_elim (λ (h : n < 4 * (m / 4)). rw (lane_none i n m h) tame_none) (λ h. record { to = start i m; like = p h; held = start_finite m M }) (less_or n (4 * (m / 4)))

  grown : (n m : ℕ) → 0 < n → 4 * (m / 4) ≤ n → n ≤ m → m ≤ N_MAX → (4 * (m / 4) ≤ n - 1 → SameP (lane i (n - 1) m) (start i m)) → Tame (two_back i n m) → SameP (lane i n m) (start i m)
  grown n m z b l M p t =
      ⊎_elim (λ (e : n ≡ 4 * (m / 4)). rw (lane_begun i n m e) (same, same)) (λ e. rw (lane_next i n m z (omega arith)) (kept n m l M (p (omega arith)) t)) (same_or n (4 * (m / 4)))

  above : (n m : ℕ) → 4 * (m / 4) ≤ n → n ≤ m → m ≤ N_MAX → SameP (lane i n m) (start i m)
  above zero m b l M = rw (lane_begun i 0 m (omega arith)) (same, same)
  above (suc zero) m b l M = grown 1 m (omega arith) b l M (λ h. above zero m h (omega arith) M) tame_none
  above (suc (suc n)) m b l M =
      let u : suc (suc n) - 1 ≡ suc n = omega arith in
      let v : suc (suc n) - 2 ≡ n = omega arith in
      grown (suc (suc n)) m (omega arith) b l M (λ h. rw u (above (suc n) m (rw u at h) (omega arith) M)) (rw (two_back_lem i (suc (suc n)) m (omega arith), v) (past n m M (λ h. above n m h (omega arith) M)))

  -- ---- a lane from its degree on
  -- below the degree the step is the row step's last branch
  stepped_below : (n m : ℕ) → m < n → (q r : Pair Float) → lane_step i n m q r ≡ lowered i.cos_theta i.sin_theta (i.K n m) q r
  unfolding lane_step
  stepped_below n m l q r = rw (lt-ltb m n l) refl

  -- degree 1, order 0
  first_near : SameP (lowered i.cos_theta i.sin_theta (i.K 1 0) (start i 0) none) (pair i.cos_theta (rounded.opp i.sin_theta))
  unfolding start_at rounded
  first_near =
      let c = i.cos_theta in
      let s = i.sin_theta in
      let k = i.K 1 0 in
      let z : Null k = w.K_null 1 0 (omega arith) in
      let f = start_finite 0 (omega arith) in (
        rw (times_one c w.cos_held) (less_null c _ w.cos_held (null_mul k (lit 0) z f.1)),
        rw (times_one s w.sin_held)
            (same_trans (sub_same (null_less _ s (mul_null c (lit 0) w.cos_finite zero_null) w.sin_held) same)
            (less_null (neg s) _ (neg-fits binary32 s w.sin_held) (null_mul k (lit 0) z f.1))),
      )

  first : SameP (lowered i.cos_theta i.sin_theta (i.K 1 0) (start i 0) none) (legendre rounded i 1 0)
  first =
      let a = start i 0 in
      by_path first_near (sym (first_branch i.cos_theta i.sin_theta (i.K 1 0) a a a) ∙ row_next i 1 0 (omega arith) (omega arith) a a a (λ h. absurd (not-suc-le-zero h)) (λ h. start_is 0) (λ h. absurd (not-suc-le-zero h)))

  -- order n - 1, from degree 2 on
  module _ (n m : ℕ) (l : 1 < n) (M : n ≤ N_MAX) (e : m + 1 ≡ n) (r : Pair Float) (f : T (finite r.fst) × T (finite r.snd)) where
    abbrev over : Pair Float
    over = legendre rounded i (n - 1) m

    next_near : SameP (lowered i.cos_theta i.sin_theta (i.K n m) over r) (pair (rounded.times i.cos_theta over.fst) (rounded.less (rounded.times i.cos_theta over.snd) (rounded.times i.sin_theta over.fst)))
    unfolding rounded
    next_near =
        let k = i.K n m in
        let z : Null k = w.K_null n m (omega arith) in
        (less_null _ _ (mul-fits binary32 i.cos_theta over.fst) (null_mul k r.fst z f.0), less_null _ _ (sub-fits binary32 _ _) (null_mul k r.snd z f.1))

    next : SameP (lowered i.cos_theta i.sin_theta (i.K n m) over r) (legendre rounded i n m)
    next =
        let q' = legendre rounded i (n - 1) (m - 1) in
        by_path next_near (sym (next_branch i.cos_theta i.sin_theta (i.K n m) n m q' over over (λ h. omega arith) e) ∙ row_next i n m (omega arith) (omega arith) q' over over (λ h. refl) (λ h. refl) (λ h. absurd (omega arith)))

  lower : (n m : ℕ) → m + 2 ≤ n → lowered i.cos_theta i.sin_theta (i.K n m) (legendre rounded i (n - 1) m) (legendre rounded i (n - 2) m) ≡ legendre rounded i n m
  lower n m l =
      let q' = legendre rounded i (n - 1) (m - 1) in
      sym (lower_branch i.cos_theta i.sin_theta (i.K n m) n m q' _ _ l) ∙ row_next i n m (omega arith) (omega arith) q' _ _ (λ h. refl) (λ h. refl) (λ h. refl)

  taken : (n m : ℕ) → m < n → lane i n m ≡ lowered i.cos_theta i.sin_theta (i.K n m) (lane i (n - 1) m) (two_back i n m)
  taken n m l = lane_next i n m (omega arith) (omega arith) ∙ stepped_below n m l (lane i (n - 1) m) (two_back i n m)

  at_last : (n m : ℕ) → n ≤ N_MAX → m ≡ n → SameP (lane i n m) (legendre rounded i n m)
  at_last n m M e = rw e (by_path (above n n (omega arith) (omega arith) M) (start_is n))

  below_one : SameP (lane i 1 0) (legendre rounded i 1 0)
  below_one = rw (taken 1 0 (omega arith)) (unfold lane in first)

  both : (n m : ℕ) → n ≤ N_MAX → m + 2 ≤ n → SameP (lane i (n - 1) m) (legendre rounded i (n - 1) m) → SameP (lane i (n - 2) m) (legendre rounded i (n - 2) m) → SameP (lane i n m) (legendre rounded i n m)
  both n m M l p o = rw (taken n m (omega arith), two_back_lem i n m (omega arith)) (by_path (lowered_same i.cos_theta i.sin_theta (i.K n m) p o) (lower n m l))

  beside : (n m : ℕ) → 1 < n → n ≤ N_MAX → m + 1 ≡ n → SameP (lane i (n - 1) m) (legendre rounded i (n - 1) m) → SameP (lane i n m) (legendre rounded i n m)
  beside n m z M e p =
      let t = past (n - 2) m (omega arith) (λ h. above (n - 2) m h (omega arith) (omega arith)) in
      let v = lowered_same i.cos_theta i.sin_theta (i.K n m) p t.like in
      let x = next n m z M e t.to t.held in
      rw (taken n m (omega arith), two_back_lem i n m (omega arith)) (same_trans v.0 x.0, same_trans v.1 x.1)

  below : (n m : ℕ) → n ≤ N_MAX → m ≤ n → SameP (lane i n m) (legendre rounded i n m)
  below zero m M l = at_last zero m M (omega arith)
  below (suc zero) m M l = ⊎_elim (at_last 1 m M) (λ h. (let e : m ≡ 0 = omega arith in rw e below_one)) (same_or m 1)
  below (suc (suc n)) m M l =
      let u : suc (suc n) - 1 ≡ suc n = omega arith in
      let v : suc (suc n) - 2 ≡ n = omega arith in
      ⊎_elim
      (at_last (suc (suc n)) m M)
      (λ h. ⊎_elim
      (λ (e : m ≡ suc n). beside (suc (suc n)) m (omega arith) M (omega arith) (rw u (below (suc n) m (omega arith) (omega arith))))
      (λ g. both (suc (suc n)) m M (omega arith) (rw u (below (suc n) m (omega arith) (omega arith))) (rw v (below n m (omega arith) (omega arith))))
      (same_or m (suc n)))
      (same_or m (suc (suc n)))

  -- ---- the terms and the sums
  module _ (n : ℕ) (M : n ≤ N_MAX) where
    x_same : (m : ℕ) → m ≤ n → Same (rounded.opp (lane_terms i n m).x) (x_term rounded i n m)
    unfolding term_of gc_hs dpsn rounded
    x_same m l = rw turned_term (mul_same same (mul_same same (below n m M l).1))

    y_same : (m : ℕ) → m ≤ n → Same (lane_terms i n m).y (y_term rounded i n m)
    unfolding term_of gs_hc psn rounded
    y_same m l = mul_same same (mul_same same (below n m M l).0)

    z_same : (m : ℕ) → m ≤ n → Same (lane_terms i n m).z (z_term rounded i n m)
    unfolding term_of gc_hs psn rounded
    z_same m l = mul_same same (mul_same same (below n m M l).0)

    pub lane_sums_lem : lane_sums i n ≡ row_sums i n
    unfolding x_row y_row z_row rounded
    lane_sums_lem =
        rw (
          add-one,
          total_unseen i (λ m. rounded.opp (lane_terms i n m).x) (x_term rounded i n) (suc n) (λ m l. x_same m (omega arith)) (λ m. mul-fits binary32 _ _),
          total_unseen i (λ m. (lane_terms i n m).y) (y_term rounded i n) (suc n) (λ m l. y_same m (omega arith)) (λ m. mul-fits binary32 _ _),
          total_unseen i (λ m. (lane_terms i n m).z) (z_term rounded i n) (suc n) (λ m l. z_same m (omega arith)) (λ m. mul-fits binary32 _ _),
        ) refl
