-- The ninety lines: what is read so far, and what is left to say. Assumes nothing.
use mathlib.Core.Path.{◌≡◌, refl, sym, ap, subst, ◌∙◌}
use mathlib.Core.Bool.{Bool, true, false, cond}
use mathlib.Core.List.{List, [], ◌∷◌, ◌++◌, map, append-nil, map-append}
use Prim.Native.Nat.{ℕ, zero, suc, ◌+◌, ◌≤◌, ◌<◌}
use native.Mathlib.Numerals.{add-one}
use native.Mathlib.Omega.{arith}
use lib.Dec.{eqb}
use lib.IntN.{ℤ}
use lib.ListN.{length, set, take, length-set}
use lib.Seq.{append_snoc, take_all, take-suc-set}
use lib.Ieee.{Float}
use Rattle.std.specs.Prelude.{Ok, Err}
use Rattle.refusals.specs.Paper.{Paper, Verdict, answered, refused, paper, after, told}
use Rattle.refusals.specs.declared.Refusal.{Refusal}
use Rattle.tables.specs.Degree.{N_COEFF}
use Rattle.text.specs.Lines.{lines}
use Rattle.agency.specs.declared.entries.Entry.{Entry}
use Rattle.agency.specs.declared.file.FileSet.{FileSet}
use Rattle.agency.specs.declared.file.Place.{Place}
use Rattle.lists.specs.Sets.{Lists, ModelSet, Ninety, lists_of}
use Rattle.agency.specs.Cof.{columns, file_says, first, following, header_says, nines_verdict, row_says, rows_say}
use Rattle.agency.specs.Code.{set_of}

-- ---- what is said of a file with the year y, where `done` are the lines that are read, and q is what is said of those to come
abbrev Ends : ℤ → List Entry → Paper (List Entry) → Paper ModelSet
Ends y done q = after q (λ es. answered (record { year = y; lists = columns (done ++ es) }))

ends_one : (y : ℤ) (done : List Entry) (e : Entry) (q : Paper (List Entry)) → Ends y done (after q (λ es. answered (e ∷ es))) ≡ Ends y (done ++ (e ∷ [])) q
ends_one y done e (answered es) = ap (λ (l : List Entry). answered (record { year = y; lists = columns l })) (sym (append_snoc done e es))
ends_one y done e (refused n f z) = refl

-- ---- a list that is filled from the front: the first k of f
abbrev Column : (Entry → Float) → List Float → ℕ → List Entry → Type 0
Column f l k done = (length l ≡ N_COEFF) × (take k l ≡ map f done)

begun : (f : Entry → Float) (l : List Float) → length l ≡ N_COEFF → Column f l 0 []
begun f l h = (h, refl)

filled : (f : Entry → Float) (l : List Float) (k : ℕ) (done : List Entry) (e : Entry) → k < N_COEFF → Column f l k done → Column f (set l k (f e)) (k + 1) (done ++ (e ∷ []))
filled f l k done e h c = (
  length-set l k (f e) ∙ c.0,
  ap (λ (n : ℕ). take n (set l k (f e))) (add-one k)
      ∙ take-suc-set l k (f e) (subst (λ (n : ℕ). k < n) (sym c.0) h)
      ∙ ap (λ (r : List Float). r ++ (f e ∷ [])) c.1
      ∙ sym (map-append f done (e ∷ [])),
)

complete : (f : Entry → Float) (l : List Float) (k : ℕ) (done : List Entry) → N_COEFF ≤ k → Column f l k done → l ≡ map f done
complete f l k done h c = sym (take_all k l (subst (λ (n : ℕ). n ≤ k) (sym c.0) h)) ∙ c.1

-- ---- the header
pub no_header : (ls : List (List ℕ)) (r : Refusal) → paper r ≡ header_says ls → paper r ≡ file_says ls
unfolding file_says
no_header ls r e = rw (← e)

-- ---- the loop's state: k lines of the text are read, `rest` is left of it, and its next line is line i
pub record Progress (text rest : List ℕ) (i : ℕ) (p : Place) (s : FileSet) (k : ℕ) : Type 0 where
  pub done : List Entry
  pub to_come : ℕ
  pub count : k + to_come ≡ N_COEFF
  pub low_degree : p.degree ≤ k + 1
  pub low_order : p.order ≤ k + 1
  pub says : file_says (lines text) ≡ Ends s.epoch_year done (rows_say to_come i p (lines rest))
  pub g_column : Column (λ e. e.g) s.g k done
  pub h_column : Column (λ e. e.h) s.h k done
  pub gd_column : Column (λ e. e.g_dot) s.g_dot k done
  pub hd_column : Column (λ e. e.h_dot) s.h_dot k done

pub start : (text rest : List ℕ) (i : ℕ) (s : FileSet) → i ≡ 2 → answered (s.epoch_year, lines rest) ≡ header_says (lines text) → Ninety (set_of s).lists → Progress text rest i first s 0
unfolding file_says
start text rest i s two e n =
    record {
      done = [];
      to_come = N_COEFF;
      count = refl;
      low_degree = omega arith;
      low_order = omega arith;
      says = rw two headed;
      g_column = begun (λ e. e.g) s.g n.0;
      h_column = begun (λ e. e.h) s.h n.1;
      gd_column = begun (λ e. e.g_dot) s.g_dot n.2;
      hd_column = begun (λ e. e.h_dot) s.h_dot n.3;
    }
  where
    headed : file_says (lines text) ≡ Ends s.epoch_year [] (rows_say N_COEFF 2 first (lines rest))
    headed = rw (← e)

module _ (p : Place) (k : ℕ) where
  degree_grows : p.degree ≤ k + 1 → (following p).degree ≤ k + 1 + 1
  unfolding following
  degree_grows h = go (eqb p.order p.degree)
    where
      go : (b : Bool) → (cond {A = Place} b (record { degree = p.degree + 1; order = 0 }) (record { degree = p.degree; order = p.order + 1 })).degree ≤ k + 1 + 1
      go true = omega (arith, h)
      go false = omega (arith, h)

  order_grows : p.order ≤ k + 1 → (following p).order ≤ k + 1 + 1
  unfolding following
  order_grows h = go (eqb p.order p.degree)
    where
      go : (b : Bool) → (cond {A = Place} b (record { degree = p.degree + 1; order = 0 }) (record { degree = p.degree; order = p.order + 1 })).order ≤ k + 1 + 1
      go true = omega arith
      go false = omega (arith, h)

-- one line more, or its refusal
say_row : (n i : ℕ) (p : Place) (ls : List (List ℕ)) (e : Entry) (rest : List (List ℕ)) → row_says i p ls ≡ answered (e, rest)
    → rows_say (suc n) i p ls ≡ after (rows_say n (suc i) (following p) rest) (λ es. answered (e ∷ es))
unfolding rows_say
say_row n i p ls e rest h = rw h

say_refusal : (n i : ℕ) (p : Place) (ls : List (List ℕ)) (r : Refusal) → row_says i p ls ≡ paper r → rows_say (suc n) i p ls ≡ paper r
unfolding rows_say
say_refusal n i p ls r h = rw h

-- the set with the entry e at k
abbrev pub with_entry : FileSet → ℕ → Entry → FileSet
with_entry s k e = record s { g = set s.g k e.g; h = set s.h k e.h; g_dot = set s.g_dot k e.g_dot; h_dot = set s.h_dot k e.h_dot }

module _ (text rest : List ℕ) (i : ℕ) (p : Place) (s : FileSet) (k : ℕ) (t : Progress text rest i p s k) where
  pub refused_row : (r : Refusal) → k < N_COEFF → paper r ≡ row_says i p (lines rest) → paper r ≡ file_says (lines text)
  refused_row r b e = sym (go t.to_come t.count t.says)
    where
      go : (n : ℕ) → k + n ≡ N_COEFF → file_says (lines text) ≡ Ends s.epoch_year t.done (rows_say n i p (lines rest)) → file_says (lines text) ≡ paper r
      go zero c q = absurd (omega (arith, b, c))
      go (suc n) c q = q ∙ ap (Ends s.epoch_year t.done) (say_refusal n i p (lines rest) r (sym e))

  pub next_row : (e : Entry) (rest' : List ℕ) (i' : ℕ) (p' : Place) → k < N_COEFF → answered (e, lines rest') ≡ row_says i p (lines rest) → i' ≡ i + 1 → p' ≡ following p
      → Progress text rest' i' p' (with_entry s k e) (k + 1)
  next_row e rest' i' p' b h a d = go t.to_come t.count t.says
    where
      go : (n : ℕ) → k + n ≡ N_COEFF → file_says (lines text) ≡ Ends s.epoch_year t.done (rows_say n i p (lines rest)) → Progress text rest' i' p' (with_entry s k e) (k + 1)
      go zero c q = absurd (omega (arith, b, c))
      go (suc n) c q =
          record {
            done = t.done ++ (e ∷ []);
            to_come = n;
            count = omega (arith, c);
            low_degree = rw d (degree_grows p k t.low_degree);
            low_order = rw d (order_grows p k t.low_order);
            says =
                q
                ∙ ap (Ends s.epoch_year t.done) (say_row n i p (lines rest) e (lines rest') (sym h))
                ∙ ends_one s.epoch_year t.done e (rows_say n (suc i) (following p) (lines rest'))
                ∙ rw (d, a, add-one);
            g_column = filled (λ e. e.g) s.g k t.done e b t.g_column;
            h_column = filled (λ e. e.h) s.h k t.done e b t.h_column;
            gd_column = filled (λ e. e.g_dot) s.g_dot k t.done e b t.gd_column;
            hd_column = filled (λ e. e.h_dot) s.h_dot k t.done e b t.hd_column;
          }

  pub ninety : Ninety (set_of s).lists
  ninety = (t.g_column.0, t.h_column.0, t.gd_column.0, t.hd_column.0)

  -- ---- all ninety are read
  module _ (b : N_COEFF ≤ k) where
    behind : file_says (lines text) ≡ Ends s.epoch_year t.done (told (nines_verdict i (lines rest)) (answered []))
    unfolding rows_say
    behind = go t.to_come t.count t.says
      where
        go : (n : ℕ) → k + n ≡ N_COEFF → file_says (lines text) ≡ Ends s.epoch_year t.done (rows_say n i p (lines rest))
            → file_says (lines text) ≡ Ends s.epoch_year t.done (told (nines_verdict i (lines rest)) (answered []))
        go zero c q = q
        go (suc n) c q = absurd (omega (arith, b, c))

    pub no_nines : (r : Refusal) → Err r ≡ nines_verdict i (lines rest) → paper r ≡ file_says (lines text)
    no_nines r e = sym (behind ∙ rw (← e))

    pub last_row : (u : Unit {0}) → Ok u ≡ nines_verdict i (lines rest) → answered (set_of s) ≡ file_says (lines text)
    last_row u e = sym (behind ∙ rw (← e, append-nil) (ap (λ (l : Lists). answered (record { year = s.epoch_year; lists = l })) (sym all_done)))
      where
        all_done : (set_of s).lists ≡ columns t.done
        all_done =
            let d = t.done in
            let g = complete (λ e. e.g) s.g k d b t.g_column in
            let h = complete (λ e. e.h) s.h k d b t.h_column in
            let gd = complete (λ e. e.g_dot) s.g_dot k d b t.gd_column in
            let hd = complete (λ e. e.h_dot) s.h_dot k d b t.hd_column in
            λ i. lists_of (g i) (h i) (gd i) (hd i)
