-- A scan that goes from place to place, what the byte at a place says of what follows, and from the number of a word to an f32 and to a whole number. Assumes nothing.
use mathlib.Core.Path.{◌≡◌, sym, ◌∙◌}
use mathlib.Core.Bool.{Bool, true, false, not, cond}
use mathlib.Core.List.{List}
use Prim.Native.Nat.{ℕ, suc, ◌+◌, ◌<◌, ◌≤◌}
use native.Mathlib.Omega.{arith}
use native.Mathlib.Numerals.{add-one}
use borrow.Author.Tests.{eq-eqb, ne_eqb}
use lib.ListN.{length, get_or, drop, drop_of_length-le}
use lib.Seq.{drop-cons}
use lib.IntN.{ℤ}
use lib.Ieee.{Float}
use Rattle.std.specs.Prelude.{Option, Some, None}
use Rattle.text.specs.Bytes.{LF, CR, blank, until}
use Rattle.text.specs.Lines.{at_end, ending}
use Rattle.text.specs.Words.{at_blank, at_word}
use Rattle.text.specs.Decimals.{decimal_of, nearest_of, number_of, whole_in, whole_of}
use Rattle.text.specs.declared.Decimal.{Decimal}

-- n is where the scan ends, which has come to i
module _ (stop : List ℕ → Bool) (s : List ℕ) (n i : ℕ) (e : n ≡ i + until stop (drop i s)) where
  pub ended : length s ≤ i → i ≡ n
  unfolding until
  ended h = let u : until stop (drop i s) ≡ 0 = rw (drop_of_length-le s {i = i} h) in omega (arith, e, u)

  module _ (h : i < length s) where
    at_i : until stop (drop i s) ≡ cond (stop (drop i s)) 0 (suc (until stop (drop (i + 1) s)))
    unfolding until
    at_i = rw (add-one, drop-cons s i 0 h)

    pub stopped : stop (drop i s) ≡ true → i ≡ n
    stopped t = let u : until stop (drop i s) ≡ 0 = at_i ∙ rw t in omega (arith, e, u)

    pub scans_on : stop (drop i s) ≡ false → n ≡ i + 1 + until stop (drop (i + 1) s)
    scans_on t = let u : until stop (drop i s) ≡ suc (until stop (drop (i + 1) s)) = at_i ∙ rw t in omega (arith, e, u)

-- ---- what the byte at i says
module _ (s : List ℕ) (i : ℕ) where
  pub end_of_text : length s ≤ i → 0 ≡ ending (drop i s)
  end_of_text h = rw (drop_of_length-le s {i = i} h)

  module _ (h : i < length s) where
    pub blank_at : blank (get_or s i 0) ≡ at_blank (drop i s)
    blank_at = rw (drop-cons s i 0 h)

    pub word_at : not (blank (get_or s i 0)) ≡ at_word (drop i s)
    word_at = rw (drop-cons s i 0 h)

    pub at_LF_1 : get_or s i 0 ≡ LF → 1 ≡ ending (drop i s)
    at_LF_1 e = rw (drop-cons s i 0 h, eq-eqb (get_or s i 0) LF e)

    module _ (l : get_or s i 0 ≡ LF → ⊥) where
      pub at_other : (get_or s i 0 ≡ CR → ⊥) → 0 ≡ ending (drop i s)
      at_other r = rw (drop-cons s i 0 h, ne_eqb (get_or s i 0) LF l, ne_eqb (get_or s i 0) CR r)

      module _ (r : get_or s i 0 ≡ CR) where
        pub at_last_CR : length s ≤ i + 1 → 0 ≡ ending (drop i s)
        at_last_CR n =
            rw (drop-cons s i 0 h, ne_eqb (get_or s i 0) LF l, eq-eqb (get_or s i 0) CR r, sym (add-one i), drop_of_length-le s {i = i + 1} n)

        module _ (k : i + 1 < length s) where
          pub at_CR_LF : get_or s (i + 1) 0 ≡ LF → 2 ≡ ending (drop i s)
          at_CR_LF e =
              rw (drop-cons s i 0 h, ne_eqb (get_or s i 0) LF l, eq-eqb (get_or s i 0) CR r, sym (add-one i), drop-cons s (i + 1) 0 k, eq-eqb (get_or s (i + 1) 0) LF e)

          pub at_CR : (get_or s (i + 1) 0 ≡ LF → ⊥) → 0 ≡ ending (drop i s)
          at_CR e =
              rw (drop-cons s i 0 h, ne_eqb (get_or s i 0) LF l, eq-eqb (get_or s i 0) CR r, sym (add-one i), drop-cons s (i + 1) 0 k, ne_eqb (get_or s (i + 1) 0) LF e)

-- ---- what the length r of a line's end says
module _ (t : List ℕ) (r : ℕ) (e : r ≡ ending t) where
  pub ends_here : (r ≡ 0 → ⊥) → at_end t ≡ true
  ends_here h = rw (ne_eqb (ending t) 0 (λ z. h (e ∙ z)))

  pub none_here : r ≡ 0 → at_end t ≡ false
  none_here h = rw (sym e, h)

-- ---- from the number of a word
module _ (w : List ℕ) (a : Option Decimal) (says : a ≡ decimal_of w) where
  module _ (d : Decimal) (e : a ≡ Some d) where
    pub number_read : (x : Float) → x ≡ nearest_of d → Some x ≡ number_of w
    unfolding number_of
    number_read x i = rw (sym says ∙ e, i)

    pub whole_read : (r : Option ℤ) → r ≡ whole_in d → r ≡ whole_of w
    unfolding whole_of
    whole_read r i = rw (sym says ∙ e) i

  pub no_number : a ≡ None → None ≡ number_of w
  unfolding number_of
  no_number e = rw (sym says ∙ e)

  pub no_whole : a ≡ None → None ≡ whole_of w
  unfolding whole_of
  no_whole e = rw (sym says ∙ e)

-- ---- what is said of some bytes leaves one answer
module _ (w : List ℕ) where
  pub decimal_one : (x y : Option Decimal) → x ≡ decimal_of w → y ≡ decimal_of w → x ≡ y
  decimal_one x y e f = e ∙ sym f

  pub number_one : (x y : Option Float) → x ≡ number_of w → y ≡ number_of w → x ≡ y
  number_one x y e f = e ∙ sym f

  pub whole_one : (x y : Option ℤ) → x ≡ whole_of w → y ≡ whole_of w → x ≡ y
  whole_one x y e f = e ∙ sym f
