-- Where the terms of the general sum stand: what a store leaves as it was, and which degrees and orders are stored.
use mathlib.Core.Path.{◌≡◌, refl, sym, ◌∙◌}
use mathlib.Core.Logic.{⊎_elim}
use Prim.Native.Nat.{ℕ, ◌+◌, ◌*◌, ◌<◌, ◌≤◌}
use native.Mathlib.Nat.{mul-le-mul}
use native.Mathlib.Omega.{arith}
use lib.ListN.{replicate}
use lib.Ieee.{Float, binary32, of_bits}
use Rattle.tables.specs.Degree.{M_LEN, N_LEGENDRE, N_MAX, WMM_MAX, place}
use Rattle.synthesis.specs.declared.Xyz.{Xyz}
use Rattle.sums.specs.Recurrence.{Input}
use Rattle.sums.proofs.Step.{less_or, same_or}
use Rattle.synthesis.specs.declared.terms.Terms.{Terms}
use Rattle.synthesis.specs.Code.{Above, Filled, Wide, cell_xyz, lane_terms, put_term}
use Rattle.synthesis.proofs.RowsHold.{term_other, term_same, term_wide}
use Rattle.synthesis.proofs.PlaceSizes.{most}

-- ---- places of other degrees and orders
grow : (d n : ℕ) → d < n → (d + 1) * (d + 2) ≤ n * (n + 1)
grow d n h = mul-le-mul {n₁ = d + 1} {m₁ = d + 2} {n₂ = n} {m₂ = n + 1} (omega arith) (omega arith)

earlier : (d l n j : ℕ) → d < n → l ≤ d → place d l ≡ place n j → ⊥
earlier d l n j h hl e = omega (arith, e, grow d n h)

-- from order m + 4 on, against the orders m to m + 3
apart : (d l n j m : ℕ) → l ≤ d → m + 4 ≤ l → j < m + 4 → place d l ≡ place n j → ⊥
apart d l n j m hl ha hj e =
    ⊎_elim
    (λ (h : d < n). earlier d l n j h hl e)
    (λ (h : n ≤ d). ⊎_elim (λ (g : d ≡ n). (let f = rw g at e in omega (arith, f))) (λ g. omega (arith, e, grow n d (omega arith))) (same_or d n))
    (less_or d n)

-- ---- the four orders from m on: the degrees below n are stored, and of degree n the orders below j
pub record Block (i : Input Float) (top m n j : ℕ) (t : Terms) : Type 0 where
  pub wide : Wide t
  pub above : (d l : ℕ) → d ≤ top → m + 4 ≤ l → l ≤ d → cell_xyz t (place d l) ≡ lane_terms i d l
  pub before : (d l : ℕ) → m < d → d < n → m ≤ l → l < m + 4 → l ≤ d → cell_xyz t (place d l) ≡ lane_terms i d l
  pub row : (l : ℕ) → m ≤ l → l < j → l ≤ n → cell_xyz t (place n l) ≡ lane_terms i n l

-- one order more
pub block_put : (i : Input Float) (top m n j j' k : ℕ) (t : Terms) (v : Xyz) → m ≤ j → j < m + 4 → j' ≡ j + 1 → k ≡ place n j → k < N_LEGENDRE → (j ≤ n → v ≡ lane_terms i n j) → Block i top m n j t
    → Block i top m n j' (put_term t k v)
block_put i top m n j j' k t v hm hj ej ek hk ev b =
    let other : (d l : ℕ) → (place d l ≡ place n j → ⊥) → cell_xyz (put_term t k v) (place d l) ≡ cell_xyz t (place d l) = λ d l u. term_other t k v hk b.wide (place d l) (λ e. u (e ∙ ek)) in
    record {
      wide = term_wide t k v hk b.wide;
      above = λ d l hd ha hl. other d l (apart d l n j m hl ha hj) ∙ b.above d l hd ha hl;
      before = λ d l h1 h2 h3 h4 hl. other d l (earlier d l n j h2 hl) ∙ b.before d l h1 h2 h3 h4 hl;
      row = λ l h1 h2 hl.
          ⊎_elim
          (λ (e : l ≡ j). (let p : place n l ≡ k = rw e (sym ek) in rw p (term_same t k v hk b.wide) ∙ ev (omega arith) ∙ rw e refl))
          (λ e. other n l (λ f. e (omega (arith, f))) ∙ b.row l h1 (omega arith) hl)
          (same_or l j);
    }

-- the degree is stored
pub block_next : (i : Input Float) (top m n : ℕ) (t : Terms) → Block i top m n (m + 4) t → Block i top m (n + 1) m t
block_next i top m n t b =
    record {
      wide = b.wide;
      above = b.above;
      before = λ d l h1 h2 h3 h4 hl.
          ⊎_elim
          (λ (e : d ≡ n). rw e (b.row l h3 h4 (rw e at hl)))
          (λ e. b.before d l h1 (omega arith) h3 h4 hl)
          (same_or d n);
      row = λ l h1 h2 hl. absurd (omega arith);
    }

pub block_start : (i : Input Float) (top m : ℕ) (t : Terms) → Above i top (m + 4) t → Block i top m (m + 1) m t
block_start i top m t a = record { wide = a.wide; above = a.terms_are; before = λ d l h1 h2 h3 h4 hl. absurd (omega arith); row = λ l h1 h2 hl. absurd (omega arith) }

pub block_end : (i : Input Float) (top m : ℕ) (t : Terms) → Block i top m (top + 1) m t → Filled i top m t
block_end i top m t b =
    record {
      wide = b.wide;
      terms_are = λ d l hd hn hm hl. ⊎_elim (λ (h : l < m + 4). b.before d l hd (omega arith) hm h hl) (λ (h : m + 4 ≤ l). b.above d l hn h hl) (less_or l (m + 4));
    }

-- ---- the orders from m on
pub corner_put : (i : Input Float) (top m : ℕ) (t : Terms) (v : Xyz) → m < M_LEN → v ≡ lane_terms i m m → Filled i top m t → Above i top m (put_term t (place m m) v)
corner_put i top m t v hm ev f =
    let k : place m m < N_LEGENDRE = omega (arith, most m hm) in
    record {
      wide = term_wide t (place m m) v k f.wide;
      terms_are = λ d l hd h1 h2.
          ⊎_elim
          (λ (e : d ≡ m). (let el : l ≡ m = omega arith in rw (e, el, term_same t (place m m) v k f.wide) ev))
          (λ e. (let g : m < d = omega arith in term_other t (place m m) v k f.wide (place d l) (λ u. earlier m m d l g (omega arith) (sym u)) ∙ f.terms_are d l g hd h1 h2))
          (same_or d m);
    }

-- before the last order: nothing is due in degree 12, and the orders 12 and 13 in degree 13
pub filled_start : (i : Input Float) (top : ℕ) (t : Terms) → top ≤ WMM_MAX → Wide t → Filled i top WMM_MAX t
filled_start i top t h z = record { wide = z; terms_are = λ d l h1 h2 h3 h4. absurd (omega arith) }

pub last_put : (i : Input Float) (t : Terms) (u v : Xyz) → u ≡ lane_terms i N_MAX WMM_MAX → v ≡ lane_terms i N_MAX N_MAX → Wide t
    → Filled i N_MAX WMM_MAX (put_term (put_term t (place N_MAX WMM_MAX) u) (place N_MAX N_MAX) v)
last_put i t u v eu ev z =
    let w = term_wide t (place N_MAX WMM_MAX) u (omega arith) z in
    record {
      wide = term_wide _ (place N_MAX N_MAX) v (omega arith) w;
      terms_are = λ d l h1 h2 h3 h4.
          let ed : d ≡ N_MAX = omega arith in
          ⊎_elim
          (λ (e : l ≡ N_MAX). rw (ed, e, term_same _ (place N_MAX N_MAX) v (omega arith) w) ev)
          (λ e. (let el : l ≡ WMM_MAX = omega arith in rw (ed, el, term_other _ (place N_MAX N_MAX) v (omega arith) w (place N_MAX WMM_MAX) (λ f. omega (arith, f)), term_same t (place N_MAX WMM_MAX) u (omega arith) z) eu))
          (same_or l N_MAX);
    }

abbrev pub zeros : Terms
zeros = let z = replicate N_LEGENDRE (of_bits binary32 0) in record { x = z; y = z; z = z }

pub zeros_wide : Wide zeros
zeros_wide = record { x = refl; y = refl; z = refl }
