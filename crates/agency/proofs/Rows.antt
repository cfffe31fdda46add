-- The ways to a line's answer. Assumes nothing.
use mathlib.Core.Path.{◌≡◌, sym}
use mathlib.Core.Bool.{Bool, true, false, ◌&&◌}
use mathlib.Core.List.{List, [], ◌∷◌}
use Prim.Native.Nat.{ℕ, ◌+◌}
use native.Mathlib.Numerals.{add-one}
use borrow.Author.Tests.{eq-eqb, ne_eqb}
use lib.IntN.{ℤ}
use lib.Ieee.{Float}
use Rattle.std.specs.Prelude.{Option, Some, None, Err}
use Rattle.refusals.specs.Paper.{accepted, answered, paper}
use Rattle.refusals.specs.declared.Refusal.{Refusal}
use Rattle.refusals.specs.declared.Refusal.TheVariants.{Malformed, OutOfOrder}
use Rattle.text.specs.Decimals.{number_of, whole_of}
use Rattle.text.specs.Reading.{next_word, two_words}
use Rattle.text.specs.Words.{words}
use Rattle.agency.specs.declared.entries.Entry.{Entry}
use Rattle.agency.specs.declared.file.Place.{Place}
use Rattle.agency.specs.Entries.{entry_of, equals, nines, none}
use Rattle.agency.specs.Cof.{following, header_says, nines_verdict, placed, row_says}

-- ---- a coefficient line's words, one after another
module _ (ws : List (List ℕ)) where
  pub no_degree : None ≡ next_word whole_of ws → None ≡ entry_of ws
  unfolding entry_of
  no_degree h = rw (← h)

  module _ (n : ℤ) (ws1 : List (List ℕ)) (e1 : Some (n, ws1) ≡ next_word whole_of ws) where
    pub no_order : None ≡ next_word whole_of ws1 → None ≡ entry_of ws
    unfolding entry_of
    no_order h = rw (← e1, ← h)

    module _ (m : ℤ) (ws2 : List (List ℕ)) (e2 : Some (m, ws2) ≡ next_word whole_of ws1) where
      pub no_g : None ≡ next_word number_of ws2 → None ≡ entry_of ws
      unfolding entry_of
      no_g h = rw (← e1, ← e2, ← h)

      module _ (g : Float) (ws3 : List (List ℕ)) (e3 : Some (g, ws3) ≡ next_word number_of ws2) where
        pub no_h : None ≡ next_word number_of ws3 → None ≡ entry_of ws
        unfolding entry_of
        no_h h = rw (← e1, ← e2, ← e3, ← h)

        module _ (h : Float) (ws4 : List (List ℕ)) (e4 : Some (h, ws4) ≡ next_word number_of ws3) where
          pub no_g_dot : None ≡ next_word number_of ws4 → None ≡ entry_of ws
          unfolding entry_of
          no_g_dot k = rw (← e1, ← e2, ← e3, ← e4, ← k)

          module _ (g_dot : Float) (ws5 : List (List ℕ)) (e5 : Some (g_dot, ws5) ≡ next_word number_of ws4) where
            pub no_h_dot : None ≡ next_word number_of ws5 → None ≡ entry_of ws
            unfolding entry_of
            no_h_dot k = rw (← e1, ← e2, ← e3, ← e4, ← e5, ← k)

            module _ (h_dot : Float) (ws6 : List (List ℕ)) (e6 : Some (h_dot, ws6) ≡ next_word number_of ws5) where
              pub too_many : false ≡ none ws6 → None ≡ entry_of ws
              unfolding entry_of
              too_many k = rw (← e1, ← e2, ← e3, ← e4, ← e5, ← e6, ← k)

              pub good_entry : true ≡ none ws6 → Some (record { degree = n; order = m; g = g; h = h; g_dot = g_dot; h_dot = h_dot }) ≡ entry_of ws
              unfolding entry_of
              good_entry k = rw (← e1, ← e2, ← e3, ← e4, ← e5, ← e6, ← k)

-- ---- a coefficient line's words, two by two
module _ (ws : List (List ℕ)) where
  pub bad_place : two_words whole_of ws ≡ None → None ≡ entry_of ws
  unfolding entry_of
  bad_place e = rw e

  module _ (n m : ℤ) (vs : List (List ℕ)) (e : two_words whole_of ws ≡ Some ((n, m), vs)) where
    pub bad_main : two_words number_of vs ≡ None → None ≡ entry_of ws
    unfolding entry_of
    bad_main f = rw (e, f)

    module _ (g h : Float) (us : List (List ℕ)) (f : two_words number_of vs ≡ Some ((g, h), us)) where
      pub bad_rate : two_words number_of us ≡ None → None ≡ entry_of ws
      unfolding entry_of
      bad_rate k = rw (e, f, k)

-- ---- the line that is due
module _ (i : ℕ) (p : Place) (nine : Bool) (q : Option Entry) where
  module _ (e : Entry) (h : Some e ≡ q) (b : Bool) (d : b ≡ equals e.degree p.degree && equals e.order p.order) where
    pub due : b ≡ true → answered e ≡ placed i p nine q
    due t = rw (sym h, sym d, t)

    pub not_due : b ≡ false → paper {A = Entry} (OutOfOrder i) ≡ placed i p nine q
    not_due t = rw (sym h, sym d, t)

  module _ (h : None ≡ q) (b : Bool) (d : b ≡ nine) where
    pub nines_early : b ≡ true → paper {A = Entry} (OutOfOrder i) ≡ placed i p nine q
    nines_early t = rw (sym h, sym d, t)

    pub no_entry : b ≡ false → paper {A = Entry} (Malformed i) ≡ placed i p nine q
    no_entry t = rw (sym h, sym d, t)

-- ---- a line of the file
module _ (ls : List (List ℕ)) where
  pub no_header : ls ≡ [] → header_says ls ≡ paper (OutOfOrder 1)
  no_header e = rw e

  module _ (l : List ℕ) (rest : List (List ℕ)) (e : ls ≡ l ∷ rest) where
    pub bad_header : next_word whole_of (words l) ≡ None → header_says ls ≡ paper (Malformed 1)
    bad_header h = rw (e, h)

    pub good_header : (y : ℤ) (ws : List (List ℕ)) → next_word whole_of (words l) ≡ Some (y, ws) → header_says ls ≡ answered (y, rest)
    good_header y ws h = rw (e, h)

  module _ (i : ℕ) (p : Place) where
    pub no_row : ls ≡ [] → row_says i p ls ≡ paper (OutOfOrder i)
    no_row e = rw e

    module _ (l : List ℕ) (rest : List (List ℕ)) (e : ls ≡ l ∷ rest) where
      pub bad_row : (k : Refusal) → paper k ≡ placed i p (nines l) (entry_of (words l)) → row_says i p ls ≡ paper k
      bad_row k h = rw (e, sym h)

      pub good_row : (a : Entry) → answered a ≡ placed i p (nines l) (entry_of (words l)) → row_says i p ls ≡ answered (a, rest)
      good_row a h = rw (e, sym h)

-- ---- the place that is due after another
pub next_degree : (p : Place) → p.order ≡ p.degree → record { degree = p.degree + 1; order = 0 } ≡ following p
unfolding following
next_degree p e = rw (eq-eqb p.order p.degree e)

pub next_order : (p : Place) → (p.order ≡ p.degree → ⊥) → record { degree = p.degree; order = p.order + 1 } ≡ following p
unfolding following
next_order p e = rw (ne_eqb p.order p.degree e)

-- ---- the nines after the coefficient lines: what is said of the lines ls, from line i on
module _ (i : ℕ) (ls : List (List ℕ)) where
  pub nines_end : ls ≡ [] → accepted ≡ nines_verdict i ls
  unfolding nines_verdict
  nines_end e = rw e

  module _ (l : List ℕ) (rest : List (List ℕ)) (e : ls ≡ l ∷ rest) where
    pub nines_bad : false ≡ nines l → Err (Malformed i) ≡ nines_verdict i ls
    unfolding nines_verdict
    nines_bad n = rw (e, ← n)

    pub nines_on : true ≡ nines l → nines_verdict i ls ≡ nines_verdict (i + 1) rest
    unfolding nines_verdict
    nines_on n = rw (e, ← n, add-one)
