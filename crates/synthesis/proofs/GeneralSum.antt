-- The terms of the general sum, four orders at a time, and then its degrees.
use mathlib.Core.Path.{◌≡◌, refl, sym, ap, ap₂, ◌∙◌}
use mathlib.Core.Logic.{⊎_elim}
use mathlib.Core.List.{List, [], ◌∷◌}
use Prim.Native.Nat.{ℕ, zero, suc, ◌+◌, ◌*◌, ◌-◌, ◌/◌, ◌<◌, ◌≤◌}
use native.Mathlib.Nat.{not-suc-le-zero}
use native.Mathlib.Omega.{arith}
use borrow.Author.Tests.{le-ltb, lt-ltb}
use lib.Dec.{eqb, ltb}
use mathlib.Core.Bool.{Bool, true, false, cond}
use lib.ListN.{get_or, length, replicate, get_or-replicate}
use lib.Ieee.{Float, nan, binary32, add, mul, of_bits, sub}
use Rattle.exact.proofs.Wholes.{lit_one, lit_zero}
use Rattle.tables.specs.Tables.{schmidt_at, schmidt_table}
use Rattle.tables.specs.Degree.{M_LEN, N_LEGENDRE, N_MAX, WMM_MAX, entries, place}
use Rattle.tables.specs.Division.{k_divided}
use Rattle.tables.specs.Rule.{k_of}
use Rattle.tables.proofs.Factors.{k_whole, k_zero}
use Rattle.synthesis.specs.declared.rows.PDp.{PDp}
use Rattle.synthesis.specs.declared.rows.Places.{Places}
use Rattle.synthesis.specs.declared.Xyz.{Xyz}
use Rattle.synthesis.specs.declared.Colatitude.{Colatitude}
use Rattle.synthesis.specs.declared.Longitude.{Longitude}
use Rattle.synthesis.specs.declared.rows.Rows.{Rows}
use Rattle.synthesis.specs.declared.lanes.Starts.{Starts}
use Rattle.synthesis.specs.declared.lanes.Weights.{Weights}
use Rattle.synthesis.specs.declared.general.Lanes.{Lanes}
use Rattle.synthesis.specs.declared.terms.Sources.{Sources}
use Rattle.synthesis.specs.declared.terms.Terms.{Terms}
use Rattle.sums.specs.Recurrence.{Input, coefficient, lit, power, total, x_sum, y_sum, z_sum}
use Rattle.synthesis.specs.Sum.{Lent, inputs, lent_at}
use Rattle.sums.specs.Paths.{at, nought, placed}
use Rattle.synthesis.specs.Code.{Apart, Filled, Fresh, Given, ListsOf, OfDegree, Ready, Sized, Started, W_LEN, Weighed, add_degree, angles_of, cell, cell_xyz, cells, cos_at, divisor_at, first, four, four_terms, general, lane, lane_step, lane_sums, lane_terms, lane_total, lowered_at, lowered_four, next_k, none, nothing, pair_at, pdp, put_pair, put_pairs, put_terms, qp, rotated, row_sums, sin_at, square_at, start, start_at, starts_of, term_at, term_of, totals, two_back}
use Rattle.sums.specs.Arithmetic.{Pair, pair, rounded}
use Rattle.synthesis.proofs.LaneLaws.{Plain, lane_begun, lane_next, lane_sums_lem, none_back, two_back_lem}
use Rattle.sums.proofs.Step.{less_or, same_or}
use Rattle.synthesis.proofs.RowsHold.{apart_rotate, put_other, put_row, put_same, put_sized}
use Rattle.synthesis.proofs.TermsHold.{Block, block_next, block_put}
use Rattle.synthesis.proofs.Filled.{first_get}
use Rattle.synthesis.proofs.PlaceSizes.{inside, least, most}
use Rattle.tables.proofs.TableStatement.{get_any, schmidt_entry}

-- ---- lent lists by degree and order
pub at_read : (l : List Float) (top n m j : ℕ) → length l ≡ entries top → 0 < n → n ≤ top → m ≤ n → j ≡ place n m - 1 → get_or l j nan ≡ at l n m
at_read l top n m j e z hn hm ej = rw ej (get_any l (place n m - 1) nan nought (omega (arith, e, inside top n m hn hm, least n z)))

module _ (a : Lent) (top n m j : ℕ) (L : OfDegree top a.g a.h a.g_dot a.h_dot) (z : 0 < n) (hn : n ≤ top) (hm : m ≤ n) (ej : j ≡ place n m - 1) where
  pub g_read : coefficient rounded (get_or a.g j nan) (get_or a.g_dot j nan) a.offset ≡ (inputs rounded a).g n m
  unfolding inputs placed rounded
  g_read = rw (at_read a.g top n m j L.2 z hn hm ej, at_read a.g_dot top n m j L.4 z hn hm ej)

  pub h_read : coefficient rounded (get_or a.h j nan) (get_or a.h_dot j nan) a.offset ≡ (inputs rounded a).h n m
  unfolding inputs placed rounded
  h_read = rw (at_read a.h top n m j L.3 z hn hm ej, at_read a.h_dot top n m j L.5 z hn hm ej)

-- ---- Schmidt's table by place
pub s_place : (ss : List Float) (j n m : ℕ) → ss ≡ schmidt_table → (j ≡ place n m) × (j < N_LEGENDRE) → get_or ss j nan ≡ schmidt_at (place n m)
s_place ss j n m e h = rw (e, schmidt_entry j h.1, h.0)

-- what the terms are made of, from what is lent
pub given : (c : Colatitude) (l : Longitude) (ratio : Float) (top : ℕ) (s : Sources) → ListsOf top s.dated.lists → s.schmidt.now ≡ schmidt_table → s.angles.now ≡ angles_of l.sin l.cos
    → Given (inputs rounded (lent_at c l ratio s.dated.offset s.dated.lists)) top s
unfolding inputs placed angles_of
given c l ratio top s L es ea =
    let a = lent_at c l ratio s.dated.offset s.dated.lists in
    record {
      K = refl;
      S = λ n m hn hm. rw es (schmidt_entry (place n m) (omega (arith, most n hn)));
      g_is = λ n m z hn hm. g_read a top n m (place n m - 1) L z hn hm refl;
      h_is = λ n m z hn hm. h_read a top n m (place n m - 1) L z hn hm refl;
      sin_is = λ m h. rw ea (first_get (sin_at l.sin l.cos) M_LEN m h);
      cos_is = λ m h. rw ea (first_get (cos_at l.sin l.cos) M_LEN m h);
    }

-- the weights as the code writes them
pub weighed : (i : Input Float) (c s : Float) (w : Weights) → c ≡ i.cos_theta → s ≡ i.sin_theta
    → ((j : ℕ) → j < W_LEN → (get_or w.cos j nan ≡ cond (ltb j N_MAX) c (of_bits binary32 0x3f800000)) × (get_or w.sin j nan ≡ cond (ltb j N_MAX) s (of_bits binary32 0)))
    → Weighed i w
weighed i c s w e f ew = record {
  cos_theta = λ j h. rw (e, lit_one) at (ew j h).0;
  sin_theta = λ j h. rw (f, lit_zero) at (ew j h).1;
}

-- the start values as the code writes them
pub started : (i : Input Float) (d : Starts) → d ≡ starts_of i.cos_theta i.sin_theta → Started i d
unfolding starts_of
started i d e m h = rw (e, first_get (λ k. (start_at i.cos_theta i.sin_theta k).fst) M_LEN m h, first_get (λ k. (start_at i.cos_theta i.sin_theta k).snd) M_LEN m h) refl

-- ---- four of one kind
four_same : {A : Type 0} (f g : ℕ → A) → ((j : ℕ) → j < 4 → f j ≡ g j) → four f ≡ four g
four_same f g h = rw (h 0 (omega arith), h 1 (omega arith), h 2 (omega arith), h 3 (omega arith))

four_get : {A : Type 0} (f : ℕ → A) (j : ℕ) (d : A) → j < 4 → get_or (four f) j d ≡ f j
four_get f zero d h = refl
four_get f (suc zero) d h = refl
four_get f (suc (suc zero)) d h = refl
four_get f (suc (suc (suc zero))) d h = refl
four_get f (suc (suc (suc (suc j)))) d h = absurd (omega arith)

-- ---- the lanes m to m + 3 before degree n: of degree n - 1, and their factors
abbrev pub lanes_of : Input Float → ℕ → ℕ → List PDp
lanes_of i n m = four (λ j. pdp (lane i n (m + j)))

pub record Carried (i : Input Float) (m n : ℕ) (a : List PDp) (k : List Float) : Type 0 where
  pub lanes : a ≡ lanes_of i (n - 1) m
  pub factors : k ≡ four (λ j. i.K n (m + j))

-- ---- the rows of P: those of the two degrees before, the row of degree n filled below column j, and the columns below m still at their start
pub record Held (i : Input Float) (m n j : ℕ) (r : Rows) (q : Places) : Type 0 where
  pub p_sized : Sized M_LEN r.p
  pub d_sized : Sized M_LEN r.dp
  pub apart : Apart q
  pub prev1 : (l : ℕ) → m ≤ l → l < m + 4 → cells r q.prev1 l ≡ lane i (n - 1) l
  pub prev2 : (l : ℕ) → m ≤ l → l < m + 4 → cells r q.prev2 l ≡ two_back i n l
  pub done : (l : ℕ) → m ≤ l → l < j → cells r q.cur l ≡ lane i n l
  pub fresh : (k l : ℕ) → k < 3 → l < m → cells r k l ≡ cond (eqb k 1) (start i l) none

module _ (i : Input Float) (m n j : ℕ) (r : Rows) (q : Places) (hm : m ≤ j) (hj : j < M_LEN) (w : Held i m n j r q) (v : PDp) where
  abbrev then : Rows
  then = put_pair r q.cur j v

  other : (k l : ℕ) → (k ≡ q.cur → ⊥) → cells then k l ≡ cells r k l
  other k l e = rw (put_other M_LEN r.p q.cur j v.p w.apart.cur hj w.p_sized k l e, put_other M_LEN r.dp q.cur j v.dp w.apart.cur hj w.d_sized k l e)

  beside : (l : ℕ) → (l ≡ j → ⊥) → cells then q.cur l ≡ cells r q.cur l
  beside l e = rw (put_row M_LEN r.p q.cur j v.p w.apart.cur hj w.p_sized l e, put_row M_LEN r.dp q.cur j v.dp w.apart.cur hj w.d_sized l e)

  -- lane j is stored
  rows_put : (j' : ℕ) → j' ≡ j + 1 → qp v ≡ lane i n j → Held i m n j' then q
  rows_put j' ej e =
      record {
        p_sized = put_sized M_LEN r.p q.cur j v.p w.apart.cur hj w.p_sized;
        d_sized = put_sized M_LEN r.dp q.cur j v.dp w.apart.cur hj w.d_sized;
        apart = w.apart;
        prev1 = λ l h1 h2. other q.prev1 l w.apart.prev1_cur ∙ w.prev1 l h1 h2;
        prev2 = λ l h1 h2. other q.prev2 l w.apart.prev2_cur ∙ w.prev2 l h1 h2;
        done = λ l h1 h2.
            ⊎_elim
            (λ (a : l ≡ j). rw (a, put_same M_LEN r.p q.cur j v.p w.apart.cur hj w.p_sized, put_same M_LEN r.dp q.cur j v.dp w.apart.cur hj w.d_sized) e)
            (λ a. beside l a ∙ w.done l h1 (omega arith))
            (same_or l j);
        fresh = λ k l hk hl.
            ⊎_elim
            (λ (a : k ≡ q.cur). ap (λ (x : ℕ). cells then x l) a ∙ beside l (λ b. omega arith) ∙ ap (λ (x : ℕ). cells r x l) (sym a) ∙ w.fresh k l hk hl)
            (λ a. other k l a ∙ w.fresh k l hk hl)
            (same_or k q.cur);
      }

-- the degree is done: its row becomes the row before
rows_turn : (i : Input Float) (m n : ℕ) (r : Rows) (q : Places) → 0 < n → Held i m n (m + 4) r q → Held i m (n + 1) m r (rotated q)
rows_turn i m n r q z w =
    let u : n + 1 - 1 ≡ n = omega arith in
    let v : n + 1 - 2 ≡ n - 1 = omega arith in
    let b : (l : ℕ) → two_back i (n + 1) l ≡ lane i (n - 1) l = λ l. two_back_lem i (n + 1) l (omega arith) ∙ rw v refl in
    record {
      p_sized = w.p_sized;
      d_sized = w.d_sized;
      apart = apart_rotate q w.apart;
      prev1 = λ l h1 h2. rw u (w.done l h1 h2);
      prev2 = λ l h1 h2. w.prev1 l h1 h2 ∙ sym (b l);
      done = λ l h1 h2. absurd (omega arith);
      fresh = w.fresh;
    }

-- four lanes stored, and the degree is done
rows_next : (i : Input Float) (m n : ℕ) (r : Rows) (q : Places) (v : List PDp) → 0 < n → m + 3 < M_LEN → v ≡ lanes_of i n m → Held i m n m r q → Held i m (n + 1) m (put_pairs r q.cur m v) (rotated q)
rows_next i m n r q v z h e w =
    let w1 = rows_put i m n m r q (omega arith) (omega arith) w (pdp (lane i n m)) (m + 1) refl refl in
    let w2 = rows_put i m n (m + 1) _ q (omega arith) (omega arith) w1 (pdp (lane i n (m + 1))) (m + 2) (omega arith) refl in
    let w3 = rows_put i m n (m + 2) _ q (omega arith) (omega arith) w2 (pdp (lane i n (m + 2))) (m + 3) (omega arith) refl in
    let w4 = rows_put i m n (m + 3) _ q (omega arith) (omega arith) w3 (pdp (lane i n (m + 3))) (m + 4) (omega arith) refl in
    let m0 : m + 0 ≡ m = omega arith in
    rw (e, m0) (rows_turn i m n _ q z w4)

abbrev pub places : Places
places = record { prev2 = 0; prev1 = 1; cur = 2 }

pub places_apart : Apart places
places_apart = record {
  prev2 = omega arith;
  prev1 = omega arith;
  cur = omega arith;
  prev1_cur = λ e. omega arith;
  prev2_cur = λ e. omega arith;
  prev1_prev2 = λ e. omega arith;
}

-- before the first degree of four orders
pub rows_start : (i : Input Float) (m : ℕ) (r : Rows) → 4 * (m / 4) ≡ m → Fresh i (m + 4) r → Held i m (m + 1) m r places
rows_start i m r e f =
    record {
      p_sized = f.p_sized;
      d_sized = f.d_sized;
      apart = places_apart;
      prev1 = λ l h1 h2. f.starts 1 l (omega arith) h2 ∙ sym (lane_begun i (m + 1 - 1) l (omega arith));
      prev2 = λ l h1 h2. f.starts 0 l (omega arith) h2 ∙ sym (none_back i (m + 1) l (omega arith));
      done = λ l h1 h2. absurd (omega arith);
      fresh = λ k l hk hl. f.starts k l hk (omega arith);
    }

pub rows_end : (i : Input Float) (m n : ℕ) (r : Rows) (q : Places) → Held i m n m r q → Fresh i m r
rows_end i m n r q w = record { p_sized = w.p_sized; d_sized = w.d_sized; starts = w.fresh }

-- a row of start values between two of zeros
abbrev pub between : List Float → List (List Float)
between l = let z = replicate M_LEN (of_bits binary32 0) in z ∷ l ∷ z ∷ []

first_length : (f : ℕ → Float) (n : ℕ) → length (first f n) ≡ n
unfolding first
first_length f zero = refl
first_length f (suc n) = ap suc (first_length (λ k. f (suc k)) n)

between_sized : (l : List Float) → length l ≡ M_LEN → Sized M_LEN (between l)
between_sized l e = record { rows = refl; cells = at }
  where
    at : (k : ℕ) → k < 3 → length (get_or (between l) k []) ≡ M_LEN
    at zero h = refl
    at (suc zero) h = e
    at (suc (suc zero)) h = refl
    at (suc (suc (suc k))) h = absurd (omega arith)

-- a choice between pairs, number by number
chosen : (b : Bool) (x y : Pair Float) → pair (cond b x.fst y.fst) (cond b x.snd y.snd) ≡ cond b x y
chosen true x y = refl
chosen false x y = refl

between_at : (f : ℕ → Float) (k l : ℕ) → k < 3 → l < M_LEN → cell (between (first f M_LEN)) k l ≡ cond (eqb k 1) (f l) (lit 0)
between_at f zero l h hl = get_or-replicate M_LEN l (of_bits binary32 0) nan hl ∙ lit_zero
between_at f (suc zero) l h hl = first_get f M_LEN l hl
between_at f (suc (suc zero)) l h hl = get_or-replicate M_LEN l (of_bits binary32 0) nan hl ∙ lit_zero
between_at f (suc (suc (suc k))) l h hl = absurd (omega arith)

pub fresh_start : (i : Input Float) (d : Starts) → d ≡ starts_of i.cos_theta i.sin_theta → Fresh i WMM_MAX (record { p = between d.p; dp = between d.dp })
unfolding starts_of
fresh_start i d e =
    let p : ℕ → Float = λ m. (start_at i.cos_theta i.sin_theta m).fst in
    let q : ℕ → Float = λ m. (start_at i.cos_theta i.sin_theta m).snd in
    rw e (record {
      p_sized = between_sized (first p M_LEN) (first_length p M_LEN);
      d_sized = between_sized (first q M_LEN) (first_length q M_LEN);
      starts = λ k l hk hl. ap₂ (λ (a b : Float). pair a b) (between_at p k l hk (omega arith)) (between_at q k l hk (omega arith)) ∙ chosen (eqb k 1) (start i l) none;
    })

-- the two ways to ask whether a lane is below the degree
alike : (m n j : ℕ) → j + n ≡ m + N_MAX → ltb j N_MAX ≡ ltb m n
alike m n j e = ⊎_elim (λ (h : m < n). lt-ltb j N_MAX (omega arith) ∙ sym (lt-ltb m n h)) (λ (h : n ≤ m). le-ltb j N_MAX (omega arith) ∙ sym (le-ltb m n h)) (less_or m n)

module _ (i : Input Float) (l : Lanes) (top n : ℕ) (G : Ready i top l) (z : 0 < n) (ht : n ≤ top) (hn : n < M_LEN) where
  -- j is the place of lane m in the lists of weights
  lane_is : (m j : ℕ) (k : Float) (a b : PDp) → 4 * (m / 4) < n → j + n ≡ m + N_MAX → j < W_LEN → k ≡ i.K n m → a ≡ pdp (lane i (n - 1) m) → b ≡ pdp (two_back i n m)
      → lowered_at l.weights.now j k a b ≡ pdp (lane i n m)
  unfolding lane_step
  lane_is m j k a b h4 ej hj ek ea eb =
      let f : lane i n m ≡ lane_step i n m (lane i (n - 1) m) (two_back i n m) = lane_next i n m z h4 in
      rw (ek, ea, eb, G.weighed.cos_theta j hj, G.weighed.sin_theta j hj, alike m n j ej) refl ∙ ap pdp (sym f)

  term_is : (m k : ℕ) (r : PDp) → m ≤ n → k ≡ place n m → r ≡ pdp (lane i n m) → term_at l.sources m k r ≡ lane_terms i n m
  unfolding term_of
  term_is m k r hm ek er =
      let m13 : m < M_LEN = omega arith in
      let g = G.given in
      rw (ek, er, g.S n m hn hm, g.g_is n m z ht hm, g.h_is n m z ht hm, g.sin_is m m13, g.cos_is m m13)

  -- the division gives the next degree's factor
  factor_is : (m : ℕ) → m < M_LEN → next_k n m ≡ i.K (n + 1) m
  unfolding k_divided square_at divisor_at
  factor_is m hm = rw G.given.K (k_whole n m (omega arith) (omega arith))

  -- one degree more of the four orders
  module _ (m k j : ℕ) (a b : List PDp) (f : List Float) (r : Rows) (q : Places) (hm : 4 * (m / 4) ≡ m) (hl : m < n) (h3 : m + 3 < WMM_MAX) (ek : k ≡ place n m) (ej : j + n ≡ m + N_MAX)
      (C : Carried i m n a f) (R : Held i m n m r q) (eb : b ≡ four (λ o. pdp (cells r q.prev2 (m + o)))) where
    -- a lane of the four
    one_lane : (o : ℕ) → o < 4
        → lowered_at l.weights.now (j + o) (get_or (four (λ x. i.K n (m + x))) o nan) (get_or (lanes_of i (n - 1) m) o nothing) (get_or (four (λ x. pdp (cells r q.prev2 (m + x)))) o nothing)
        ≡ pdp (lane i n (m + o))
    one_lane o h =
        lane_is (m + o) (j + o) _ _ _ (omega arith) (omega arith) (omega arith) (four_get (λ x. i.K n (m + x)) o nan h) (four_get (λ x. pdp (lane i (n - 1) (m + x))) o nothing h)
        (four_get (λ x. pdp (cells r q.prev2 (m + x))) o nothing h ∙ ap pdp (R.prev2 (m + o) (omega arith) (omega arith)))

    lanes_are : lowered_four l.weights.now j f a b ≡ lanes_of i n m
    lanes_are = rw (C.lanes, C.factors, eb) (four_same _ _ one_lane)

    carried_on : (v : List PDp) (f' : List Float) → v ≡ lanes_of i n m → f' ≡ four (λ o. next_k n (m + o)) → Carried i m (n + 1) v f'
    carried_on v f' e ef = let u : n + 1 - 1 ≡ n = omega arith in record { lanes = rw u e; factors = ef ∙ four_same _ _ (λ o h. factor_is (m + o) (omega arith)) }

    stored : (v : List PDp) (t : Terms) → v ≡ lanes_of i n m → Block i top m n m t → Block i top m (n + 1) m (put_terms t k (four_terms l.sources m k v))
    stored v t e w =
        let s = most n hn in
        let m0 : m + 0 ≡ m = omega arith in
        let k0 : k + 0 ≡ k = omega arith in
        let k1 : k + 1 ≡ place n (m + 1) = omega arith in
        let k2 : k + 2 ≡ place n (m + 2) = omega arith in
        let k3 : k + 3 ≡ place n (m + 3) = omega arith in
        rw (e, m0, k0)
        (block_next i top m n _
        (block_put i top m n (m + 3) (m + 4) (k + 3) _ _ (omega arith) (omega arith) (omega arith) k3 (omega (arith, s, ek)) (λ h. term_is (m + 3) (k + 3) _ h k3 refl)
        (block_put i top m n (m + 2) (m + 3) (k + 2) _ _ (omega arith) (omega arith) (omega arith) k2 (omega (arith, s, ek)) (λ h. term_is (m + 2) (k + 2) _ h k2 refl)
        (block_put i top m n (m + 1) (m + 2) (k + 1) _ _ (omega arith) (omega arith) (omega arith) k1 (omega (arith, s, ek)) (λ h. term_is (m + 1) (k + 1) _ h k1 refl)
        (block_put i top m n m (m + 1) k t _ (omega arith) (omega arith) refl ek (omega (arith, s, ek)) (λ h. term_is m k _ h ek refl) w)))))

    -- what is carried, the rows and the terms, after that degree
    pub degree_on : (v : List PDp) (f' : List Float) (r' : Rows) (q' : Places) (t t' : Terms) → v ≡ lowered_four l.weights.now j f a b → f' ≡ four (λ o. next_k n (m + o))
        → r' ≡ put_pairs r q.cur m v → q' ≡ rotated q → t' ≡ put_terms t k (four_terms l.sources m k v) → Block i top m n m t
        → Carried i m (n + 1) v f' × Held i m (n + 1) m r' q' × Block i top m (n + 1) m t'
    degree_on v f' r' q' t t' ev ef er eq et B = let e : v ≡ lanes_of i n m = ev ∙ lanes_are in (carried_on v f' e ef, rw (er, eq) (rows_next i m n r q v z (omega arith) e R), rw et (stored v t e B))

  -- the order that is the degree, where four lanes begin
  pub corner_is : 4 * (n / 4) ≡ n → term_at l.sources n (place n n) (pair_at l.starts.now n) ≡ lane_terms i n n
  corner_is e = term_is n (place n n) _ (omega arith) refl (G.started n hn ∙ ap pdp (sym (lane_begun i n n (sym e))))

  -- the orders 12 and 13 in degree 13, one step from where they start
  pub last_is : (m : ℕ) → 4 * (m / 4) + 1 ≡ n → n ≡ N_MAX → m ≤ n
      → term_at l.sources m (place N_MAX m) (lowered_at l.weights.now m (of_bits binary32 0) (pair_at l.starts.now m) nothing) ≡ lane_terms i N_MAX m
  last_is m e en hm =
      let k : of_bits binary32 0 ≡ i.K n m = unfold of_bits in sym (rw G.given.K (k_zero n m (omega arith))) in
      let a : pair_at l.starts.now m ≡ pdp (lane i (n - 1) m) = G.started m (omega arith) ∙ ap pdp (sym (lane_begun i (n - 1) m (omega arith))) in
      let b : nothing ≡ pdp (two_back i n m) = rw lit_zero (ap pdp (sym (none_back i n m (omega arith)))) in
      let r : lowered_at l.weights.now m (of_bits binary32 0) (pair_at l.starts.now m) nothing ≡ pdp (lane i n m) = lane_is m m (of_bits binary32 0) (pair_at l.starts.now m) nothing (omega arith) (omega arith) (omega arith) k a b in
      rw (sym en) (term_is m (place N_MAX m) _ hm (rw en refl) r)

-- before the first degree of four orders
pub carried_start : (i : Input Float) (m : ℕ) (r : Rows) (a : List PDp) (k : List Float) → i.K ≡ k_of → 4 * (m / 4) ≡ m → m + 3 < WMM_MAX → Held i m (m + 1) m r places
    → a ≡ four (λ j. pdp (cells r 1 (m + j))) → k ≡ replicate 4 (of_bits binary32 0) → Carried i m (m + 1) a k
carried_start i m r a k K e h w ea ek =
    let none : (l : ℕ) → m ≤ l → of_bits binary32 0 ≡ i.K (m + 1) l = λ l g. unfold of_bits in sym (rw K (k_zero (m + 1) l (omega arith))) in
    record {
      lanes = ea ∙ four_same _ _ (λ j h. ap pdp (w.prev1 (m + j) (omega arith) (omega arith)));
      factors = ek ∙ four_same (λ j. of_bits binary32 0) _ (λ j h. none (m + j) (omega arith));
    }

-- ---- the degrees, from their terms
total_same : (i : Input Float) (f g : ℕ → Float) (k : ℕ) → ((m : ℕ) → m < k → f m ≡ g m) → total rounded i f k ≡ total rounded i g k
unfolding total rounded
total_same i f g zero h = refl
total_same i f g (suc k) h = rw (total_same i f g k (λ m l. h m (omega arith)), h k (omega arith))

-- no term, and one term more, whose place is k: that of X is taken away
pub totals_none : (i : Input Float) (f : ℕ → Xyz) (n : ℕ) → n ≡ 0 → record { x = of_bits binary32 0; y = of_bits binary32 0; z = of_bits binary32 0 } ≡ totals i f n
unfolding total rounded
totals_none i f n e = rw e (rw lit_zero refl)

pub one_added : (i : Input Float) (t : Terms) (j k : ℕ) (v : Xyz) → j ≤ k → v ≡ totals i (λ m. cell_xyz t (j + m)) (k - j)
    → record { x = sub binary32 v.x (get_or t.x k nan); y = add binary32 v.y (get_or t.y k nan); z = add binary32 v.z (get_or t.z k nan) } ≡ totals i (λ m. cell_xyz t (j + m)) (k + 1 - j)
unfolding total rounded sub
one_added i t j k v h e =
    let n = k - j in
    let u : k + 1 - j ≡ suc n = omega arith in
    let w : j + n ≡ k = omega arith in
    rw (u, e, w) refl

-- the terms of all orders, added up
pub added : (i : Input Float) (top n k : ℕ) (t : Terms) (acc : Xyz) → 0 < n → n ≤ top → k ≡ place n 0 → Filled i top 0 t → acc ≡ totals i (λ m. cell_xyz t (k + m)) (n + 1) → acc ≡ lane_sums i n
added i top n k t acc z hn ek f e =
    let w : (l : ℕ) → l < n + 1 → cell_xyz t (k + l) ≡ lane_terms i n l = λ l h. (let p : k + l ≡ place n l = omega arith in rw p (f.terms_are n l z (omega arith) (omega arith) (omega arith))) in
    e ∙
    rw (
      total_same i (λ l. rounded.opp (cell_xyz t (k + l)).x) (λ l. rounded.opp (lane_terms i n l).x) (n + 1) (λ l h. ap (λ (v : Xyz). rounded.opp v.x) (w l h)),
      total_same i (λ l. (cell_xyz t (k + l)).y) (λ l. (lane_terms i n l).y) (n + 1) (λ l h. ap (λ (v : Xyz). v.y) (w l h)),
      total_same i (λ l. (cell_xyz t (k + l)).z) (λ l. (lane_terms i n l).z) (n + 1) (λ l h. ap (λ (v : Xyz). v.z) (w l h)),
    )

pub more_degrees : (i : Input Float) (n : ℕ) (tot acc : Xyz) (ar : Float) → 0 < n → tot ≡ lane_total i (n - 1) → ar ≡ power rounded i (n - 1) → acc ≡ lane_sums i n
    → add_degree tot n ar acc ≡ lane_total i (n + 1 - 1)
unfolding lane_total
more_degrees i zero tot acc ar z et er ea = absurd (not-suc-le-zero z)
more_degrees i (suc j) tot acc ar z et er ea =
    let u : suc j + 1 - 1 ≡ suc j = omega arith in
    let v : suc j - 1 ≡ j = omega arith in
    rw (et, er, ea, u, v)

general_next : (i : Input Float) (n : ℕ) → add_degree (general i n) (suc n) (power rounded i n) (row_sums i (suc n)) ≡ general i (suc n)
unfolding add_degree x_sum y_sum z_sum total rounded
general_next i n = refl

-- the sums from the lanes are the recurrence's
pub lane_total_lem : (i : Input Float) → Plain i → (N : ℕ) → N ≤ N_MAX → lane_total i N ≡ general i N
unfolding lane_total
lane_total_lem i x zero l = unfold x_sum y_sum z_sum total rounded in refl
lane_total_lem i x (suc n) l = ap₂ (λ (t a : Xyz). add_degree t (suc n) (power rounded i n) a) (lane_total_lem i x n (omega arith)) (lane_sums_lem i x (suc n) l) ∙ general_next i n

pub more_power : (i : Input Float) (n : ℕ) (ar : Float) → 0 < n → ar ≡ power rounded i (n - 1) → mul binary32 ar i.ratio ≡ power rounded i (n + 1 - 1)
unfolding power rounded
more_power i zero ar z e = absurd (not-suc-le-zero z)
more_power i (suc j) ar z e =
    let u : suc j + 1 - 1 ≡ suc j = omega arith in
    let v : suc j - 1 ≡ j = omega arith in
    rw (e, u, v)
