-- The ways to a verdict, and what a verdict says of what is lent. Assumes nothing.
use mathlib.Core.Path.{◌≡◌, refl, sym, ap, subst, ◌∙◌}
use mathlib.Core.Bool.{Bool, true, false, not, cond, ◌&&◌, ◌||◌}
use mathlib.Core.List.{List, [], ◌∷◌}
use Prim.Native.Nat.{ℕ, zero, suc, ◌+◌, ◌<◌, ◌≤◌}
use native.Mathlib.Omega.{arith}
use native.Mathlib.Numerals.{add-one}
use native.Mathlib.Nat.{zero-add}
use borrow.Author.Tests.{eq-eqb, eqb-true, ne_eqb, not-true, not-false}
use lib.Dec.{T, eqb}
use lib.IntN.{ℤ, pos}
use lib.ListN.{length, get_or, drop}
use lib.Seq.{drop-cons}
use lib.Ieee.{Float, nan, fin, neg, of_bits}
use lib.Ieee.Bits.{is_true}
use lib.Ieee.Fits.{and_i, and_l, and_r}
use Rattle.exact.specs.Tests.{all_between, all_capped, between, capped}
use Rattle.float32.proofs.Checks.{within_capped}
use Rattle.refusals.specs.Paper.{Verdict, accepted, check}
use Rattle.refusals.specs.declared.Refusal.{Refusal}
use Rattle.refusals.specs.declared.ListName.{ListName}
use Rattle.refusals.specs.declared.ListName.TheVariants.{G, H, GDot, HDot, SecondG, SecondH}
use Rattle.refusals.specs.declared.Refusal.TheVariants.{Length, Coefficient, Degree}
use Rattle.std.specs.Prelude.{Err}
use Rattle.refusals.proofs.Laws.{check_accepted, both_accepted}
use Rattle.tables.proofs.Degrees.{of_long, of_short}
use Rattle.tables.specs.Degree.{N_COEFF, N_MAX, WMM_MAX, degree_of, entries}
use Rattle.lists.specs.Lists.{Long, all_whole, caps_by, caps_verdict, entries_verdict, lengths_verdict, lists_verdict, long, one_degree, main_cap, ninety_verdict, rate_cap, whole, within_of}

-- two facts of one result, as what a call ensures and what was found. Over variables, so that the places of the code are written out once
pub same : {A : Type 0} {r l b : A} → r ≡ l → r ≡ b → l ≡ b
same e h = sym e ∙ h

pub holds : {b : Bool} → b ≡ true → T b
holds e = subst T (sym e) tt

-- ---- the search
entries_next : (cap : Float) (k : ListName) (s : List Float) (i : ℕ) → i < length s
    → entries_verdict cap k i (drop i s) ≡ check (capped cap (get_or s i nan)) (Coefficient k i) (entries_verdict cap k (i + 1) (drop (i + 1) s))
unfolding entries_verdict
entries_next cap k s i h = rw (add-one, drop-cons s i nan h)

module _ (cap : Float) (k : ListName) (s : List Float) (i : ℕ) (q : Verdict) (h : i < length s) (e : q ≡ entries_verdict cap k i (drop i s)) where
  pub entry_bad : not (capped cap (get_or s i nan)) ≡ true → Err (Coefficient k i) ≡ q
  entry_bad n = sym (e ∙ entries_next cap k s i h ∙ rw (not-true (capped cap (get_or s i nan)) n))

  pub entry_good : not (capped cap (get_or s i nan)) ≡ false → q ≡ entries_verdict cap k (i + 1) (drop (i + 1) s)
  entry_good n = e ∙ entries_next cap k s i h ∙ rw (not-false (capped cap (get_or s i nan)) n)

-- ---- all at once
pub and_true : (b : Bool) → b && true ≡ b
and_true true = refl
and_true false = refl

and_false : (b : Bool) → b && false ≡ false
and_false true = refl
and_false false = refl

between_next : (lo hi : Float) (s : List Float) (i : ℕ) → i < length s → all_between lo hi (drop i s) ≡ between lo hi (get_or s i nan) && all_between lo hi (drop (i + 1) s)
unfolding all_between
between_next lo hi s i h = rw (add-one, drop-cons s i nan h)

module _ (lo hi : Float) (s : List Float) (i : ℕ) (ok all : Bool) (h : i < length s) (e : all ≡ ok && all_between lo hi (drop i s)) where
  pub good_next : not (between lo hi (get_or s i nan)) ≡ false → all ≡ ok && all_between lo hi (drop (i + 1) s)
  good_next n =
      let b : between lo hi (get_or s i nan) ≡ true = not-false (between lo hi (get_or s i nan)) n in
      e ∙ ap (λ (t : Bool). ok && t) (between_next lo hi s i h ∙ ap (λ (t : Bool). t && all_between lo hi (drop (i + 1) s)) b)

  pub bad_all : not (between lo hi (get_or s i nan)) ≡ true → all ≡ false
  bad_all n =
      let b : between lo hi (get_or s i nan) ≡ false = not-true (between lo hi (get_or s i nan)) n in
      e ∙ ap (λ (t : Bool). ok && t) (between_next lo hi s i h ∙ ap (λ (t : Bool). t && all_between lo hi (drop (i + 1) s)) b) ∙ and_false ok

-- a flag is 1 where a test fails, else 0. Flags add to 0 where each is 0
pub flag_of : (n : ℕ) (b : Bool) → n ≤ 1 → b ≡ eqb n 0 → n ≡ cond b 0 1
flag_of zero b h e = rw e
flag_of (suc zero) b h e = rw e
flag_of (suc (suc n)) b h e = absurd (omega arith)

flag_none : (b : Bool) → eqb (cond b 0 1) 0 ≡ b
flag_none true = refl
flag_none false = refl

none_added : (m n : ℕ) → eqb (m + n) 0 ≡ eqb m 0 && eqb n 0
none_added zero n = ap (λ (k : ℕ). eqb k 0) (zero-add n)
none_added (suc m) n = rw (ne_eqb (suc m + n) 0 (λ z. omega arith), ne_eqb (suc m) 0 (λ z. omega arith))

no_flag : (a b c d : Bool) → eqb (cond a 0 1 + cond b 0 1 + cond c 0 1 + cond d 0 1) 0 ≡ a && b && c && d
no_flag a b c d =
    rw (none_added (cond a 0 1 + cond b 0 1 + cond c 0 1) (cond d 0 1), none_added (cond a 0 1 + cond b 0 1) (cond c 0 1), none_added (cond a 0 1) (cond b 0 1))
    (rw (flag_none a, flag_none b, flag_none c, flag_none d) refl)

pub flags_decide : (cap : Float) (g h gd hd : List Float) (m n k l : ℕ) → m ≡ cond (all_between (neg main_cap) main_cap g) 0 1 → n ≡ cond (all_between (neg main_cap) main_cap h) 0 1
    → k ≡ cond (all_between (neg cap) cap gd) 0 1 → l ≡ cond (all_between (neg cap) cap hd) 0 1 → eqb (m + n + k + l) 0 ≡ within_of cap g h gd hd
unfolding within_of
flags_decide cap g h gd hd m n k l a b c d =
    rw (a, b, c, d)
    (no_flag (all_between (neg main_cap) main_cap g) (all_between (neg main_cap) main_cap h) (all_between (neg cap) cap gd) (all_between (neg cap) cap hd))

-- nothing over a cap: the search finds nothing
entries_pass : (cap : Float) (k : ListName) (i : ℕ) (l : List Float) → T (all_capped cap l) → entries_verdict cap k i l ≡ accepted
unfolding entries_verdict all_capped
entries_pass cap k i [] t = refl
entries_pass cap k i (x ∷ l) t = go (capped cap x) (entries_verdict cap k (suc i) l) (and_l (capped cap x) (all_capped cap l) t) (entries_pass cap k (suc i) l (and_r (capped cap x) (all_capped cap l) t))
  where
    go : (b : Bool) (q : Verdict) → T b → q ≡ accepted → check b (Coefficient k i) q ≡ accepted
    go true q h e = e
    go false q h e = absurd h

-- as the code asks it
between_capped : (n : ℕ) (d : ℤ) (l : List Float) → T (all_between (neg (fin false n d)) (fin false n d) l) → T (all_capped (fin false n d) l)
unfolding all_between all_capped
between_capped n d [] t = tt
between_capped n d (x ∷ l) t =
    let cap = fin false n d in
    and_i (capped cap x) (all_capped cap l) (within_capped n d x (and_l (between (neg cap) cap x) (all_between (neg cap) cap l) t)) (between_capped n d l (and_r (between (neg cap) cap x) (all_between (neg cap) cap l) t))

cap_pass : (n : ℕ) (d : ℤ) (k : ListName) (l : List Float) → T (all_between (neg (fin false n d)) (fin false n d) l) → entries_verdict (fin false n d) k 0 l ≡ accepted
cap_pass n d k l t = entries_pass (fin false n d) k 0 l (between_capped n d l t)

-- every entry within its cap: the search finds nothing
within_pass : (n : ℕ) (e : ℤ) (k l : ListName) (g h gd hd : List Float) → within_of (fin false n e) g h gd hd ≡ true → accepted ≡ caps_by k l (fin false n e) g h gd hd
unfolding within_of of_bits
within_pass n e k l g h gd hd w =
    let cap = fin false n e in
    let a = all_between (neg main_cap) main_cap g in
    let b = all_between (neg main_cap) main_cap h in
    let c = all_between (neg cap) cap gd in
    let d = all_between (neg cap) cap hd in
    let t1 : T (a && b && c && d) = holds w in
    let t2 = and_l (a && b && c) d t1 in
    let t3 = and_l (a && b) c t2 in
    rw (cap_pass 1 (pos 16) G g (and_l a b t3), cap_pass 1 (pos 16) H h (and_r a b t3), cap_pass n e k gd (and_r (a && b) c t2), cap_pass n e l hd (and_r (a && b && c) d t1))

-- of a set, and of g and h of two
pub caps_pass : (g h gd hd : List Float) → within_of rate_cap g h gd hd ≡ true → accepted ≡ caps_verdict g h gd hd
unfolding of_bits
caps_pass g h gd hd w = within_pass 1 (pos 12) GDot HDot g h gd hd w

pub pair_caps_pass : (g h gd hd : List Float) → within_of main_cap g h gd hd ≡ true → accepted ≡ caps_by SecondG SecondH main_cap g h gd hd
unfolding of_bits
pair_caps_pass g h gd hd w = within_pass 1 (pos 16) SecondG SecondH g h gd hd w

-- ---- the lengths
-- lists of one degree: their lengths are those of the first
module _ (g h gd hd : List Float) where
  pub alike_long : one_degree g h gd hd ≡ true → (length h ≡ length g) × (length gd ≡ length g) × (length hd ≡ length g)
  alike_long e =
      let b = eqb (length h) (length g) in
      let c = eqb (length gd) (length g) in
      let d = eqb (length hd) (length g) in
      let t1 : T (b && c && d) = holds e in
      let t2 = and_l (b && c) d t1 in (
        eqb-true (length h) (length g) (is_true b (and_l b c t2)),
        eqb-true (length gd) (length g) (is_true c (and_r b c t2)),
        eqb-true (length hd) (length g) (is_true d (and_r (b && c) d t1)),
      )

  -- so the first speaks for all
  first_speaks : one_degree g h gd hd ≡ true → all_whole g h gd hd ≡ whole g
  first_speaks e = let l = alike_long e in rw (l.0, l.1, l.2) (go (whole g))
    where
      go : (b : Bool) → b && b && b && b ≡ b
      go true = refl
      go false = refl

  pub lengths_pass : one_degree g h gd hd ≡ true → whole g ≡ true → accepted ≡ lengths_verdict g h gd hd
  unfolding lengths_verdict
  lengths_pass e w = rw (first_speaks e ∙ w, e)

  pub none_whole : one_degree g h gd hd ≡ true → whole g ≡ false → Err Length ≡ lengths_verdict g h gd hd
  unfolding lengths_verdict
  none_whole e w = rw (first_speaks e ∙ w)

  pub two_degrees : one_degree g h gd hd ≡ false → all_whole g h gd hd ≡ true → Err Degree ≡ lengths_verdict g h gd hd
  unfolding lengths_verdict
  two_degrees e w = rw (w, e)

  pub one_not_whole : all_whole g h gd hd ≡ false → Err Length ≡ lengths_verdict g h gd hd
  unfolding lengths_verdict
  one_not_whole w = rw w

-- ---- the lists
pub bad_lengths : (g h gd hd : List Float) (k : Refusal) → lengths_verdict g h gd hd ≡ Err k → Err k ≡ lists_verdict g h gd hd
unfolding lists_verdict
bad_lengths g h gd hd k e = rw e

module _ (g h gd hd : List Float) (e : lengths_verdict g h gd hd ≡ accepted) where
  pub lists_pass : within_of rate_cap g h gd hd ≡ true → accepted ≡ lists_verdict g h gd hd
  unfolding lists_verdict
  lists_pass w = caps_pass g h gd hd w ∙ rw e

  pub caps_decide : (v : Verdict) → v ≡ caps_verdict g h gd hd → v ≡ lists_verdict g h gd hd
  unfolding lists_verdict
  caps_decide v r = r ∙ rw e

-- ---- the lists of the WMM's sets
pub too_short : (g h gd hd : List Float) → long g h gd hd ≡ false → Err Length ≡ ninety_verdict g h gd hd
unfolding ninety_verdict
too_short g h gd hd e = rw e

pub caps_of_ninety : (g h gd hd : List Float) → long g h gd hd ≡ true → (v : Verdict) → v ≡ caps_verdict g h gd hd → v ≡ ninety_verdict g h gd hd
unfolding ninety_verdict
caps_of_ninety g h gd hd e v r = r ∙ rw e

-- ---- the search, list by list
module _ (k l : ListName) (cap : Float) (g h gd hd : List Float) where
  pub bad_g : (r : Refusal) → entries_verdict main_cap G 0 g ≡ Err r → Err r ≡ caps_by k l cap g h gd hd
  bad_g r e = rw e

  module _ (a0 : entries_verdict main_cap G 0 g ≡ accepted) where
    pub bad_h : (r : Refusal) → entries_verdict main_cap H 0 h ≡ Err r → Err r ≡ caps_by k l cap g h gd hd
    bad_h r e = rw (a0, e)

    module _ (a1 : entries_verdict main_cap H 0 h ≡ accepted) where
      pub bad_gd : (r : Refusal) → entries_verdict cap k 0 gd ≡ Err r → Err r ≡ caps_by k l cap g h gd hd
      bad_gd r e = rw (a0, a1, e)

      pub last_list : entries_verdict cap k 0 gd ≡ accepted → entries_verdict cap l 0 hd ≡ caps_by k l cap g h gd hd
      last_list a2 = rw (a0, a1, a2)

-- lists that nothing is refused of
pub record Listed (g h gd hd : List Float) : Type 0 where
  pub long : Long g h gd hd
  pub g_capped : T (all_capped main_cap g)
  pub h_capped : T (all_capped main_cap h)
  pub gd_capped : T (all_capped rate_cap gd)
  pub hd_capped : T (all_capped rate_cap hd)

pub entries_capped : (cap : Float) (k : ListName) (i : ℕ) (l : List Float) → entries_verdict cap k i l ≡ accepted → T (all_capped cap l)
unfolding entries_verdict all_capped
entries_capped cap k i [] e = tt
entries_capped cap k i (x ∷ l) e =
    let u = check_accepted (capped cap x) (Coefficient k i) (entries_verdict cap k (suc i) l) e in
    subst (λ (b : Bool). T (b && all_capped cap l)) (sym u.0) (entries_capped cap k (suc i) l u.1)

-- what `long` asks of each list
pub each_long : (g h gd hd : List Float) → long g h gd hd ≡ true → (length g ≡ N_COEFF) × (length h ≡ N_COEFF) × (length gd ≡ N_COEFF) × (length hd ≡ N_COEFF)
each_long g h gd hd e =
    let a = eqb (length g) N_COEFF in
    let b = eqb (length h) N_COEFF in
    let c = eqb (length gd) N_COEFF in
    let d = eqb (length hd) N_COEFF in
    let t1 : T (a && b && c && d) = holds e in
    let t2 = and_l (a && b && c) d t1 in
    let t3 = and_l (a && b) c t2 in (
      eqb-true (length g) N_COEFF (is_true a (and_l a b t3)),
      eqb-true (length h) N_COEFF (is_true b (and_r a b t3)),
      eqb-true (length gd) N_COEFF (is_true c (and_r (a && b) c t2)),
      eqb-true (length hd) N_COEFF (is_true d (and_r (a && b && c) d t1)),
    )

-- a list of 90 or 104 has the entries of its degree, and no other has
whole_degree : (l : List Float) → whole l ≡ true → length l ≡ entries (degree_of (length l))
whole_degree l e = go (eqb (length l) (entries WMM_MAX)) refl e
  where
    go : (b : Bool) → eqb (length l) (entries WMM_MAX) ≡ b → b || eqb (length l) (entries N_MAX) ≡ true → length l ≡ entries (degree_of (length l))
    go true s t = of_short (length l) (eqb-true (length l) (entries WMM_MAX) s)
    go false s t = of_long (length l) (eqb-true (length l) (entries N_MAX) t)

degree_whole : (l : List Float) → length l ≡ entries (degree_of (length l)) → whole l ≡ true
unfolding degree_of
degree_whole l e = go (eqb (length l) (entries N_MAX)) refl e
  where
    go : (b : Bool) → eqb (length l) (entries N_MAX) ≡ b → length l ≡ entries (cond b N_MAX WMM_MAX) → eqb (length l) (entries WMM_MAX) || eqb (length l) (entries N_MAX) ≡ true
    go true s t = rw t refl
    go false s t = rw t refl

module _ (g h gd hd : List Float) where
  -- what is known where the lengths are not refused
  pub lengths_long : lengths_verdict g h gd hd ≡ accepted → Long g h gd hd
  unfolding lengths_verdict
  lengths_long e =
      let u = check_accepted (all_whole g h gd hd) Length _ e in
      let v = check_accepted (one_degree g h gd hd) Degree _ u.1 in
      let l = alike_long g h gd hd v.0 in
      record { g_long = whole_degree g (sym (first_speaks g h gd hd v.0) ∙ u.0); h_long = l.0; gd_long = l.1; hd_long = l.2 }

  -- and of lists of which that is known nothing is refused
  pub long_pass : Long g h gd hd → lengths_verdict g h gd hd ≡ accepted
  long_pass l =
      let o : one_degree g h gd hd ≡ true = rw (l.h_long, l.gd_long, l.hd_long, eq-eqb (length g) (length g) refl) refl in
      sym (lengths_pass g h gd hd o (degree_whole g l.g_long))

pub listed : (g h gd hd : List Float) → lists_verdict g h gd hd ≡ accepted → Listed g h gd hd
unfolding lists_verdict
listed g h gd hd e =
    let u = both_accepted (lengths_verdict g h gd hd) _ e in
    let q1 = both_accepted (entries_verdict main_cap G 0 g) _ u.1 in
    let q2 = both_accepted (entries_verdict main_cap H 0 h) _ q1.1 in
    let q3 = both_accepted (entries_verdict rate_cap GDot 0 gd) _ q2.1 in
    record {
      long = lengths_long g h gd hd u.0;
      g_capped = entries_capped main_cap G 0 g q1.0;
      h_capped = entries_capped main_cap H 0 h q2.0;
      gd_capped = entries_capped rate_cap GDot 0 gd q3.0;
      hd_capped = entries_capped rate_cap HDot 0 hd q3.1;
    }

-- and of lists of which that is known nothing is refused
pub listed_pass : {g h gd hd : List Float} → Listed g h gd hd → lists_verdict g h gd hd ≡ accepted
unfolding lists_verdict
listed_pass {g} {h} {gd} {hd} l =
    rw (long_pass g h gd hd l.long)
    (rw (entries_pass main_cap G 0 g l.g_capped, entries_pass main_cap H 0 h l.h_capped, entries_pass rate_cap GDot 0 gd l.gd_capped, entries_pass rate_cap HDot 0 hd l.hd_capped) refl)
