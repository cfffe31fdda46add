-- The fields of a stored set: the ways to the verdict, and what a set without fault is. Assumes nothing.
use mathlib.Core.Path.{◌≡◌, refl, sym, ap, ◌∙◌}
use mathlib.Core.List.{List, [], ◌∷◌, ◌++◌, append_assoc, append-nil}
use Prim.Native.Nat.{ℕ, suc, ◌+◌, ◌≤◌, ◌<◌}
use native.Mathlib.Numerals.{add-one}
use native.Mathlib.Omega.{arith}
use borrow.Author.Tests.{eq-eqb, eqb-true, le-leb, leb-true, le-ltb, lt-leb, lt-ltb, ne_eqb}
use lib.Dec.{T, eqb, leb, ltb}
use lib.ListN.{length, get_or, take, drop, length-append, length-drop, drop_of_length-le, take-append-drop}
use lib.Pow.{are_bytes}
use lib.Seq.{drop-append-add, drop_at, drop-cons, drop-drop, get_or-append_seam, length-take-le}
use Rattle.std.specs.Prelude.{Err}
use Rattle.refusals.specs.Paper.{Verdict, accepted, both}
use Rattle.refusals.specs.declared.Refusal.{Refusal}
use Rattle.refusals.specs.declared.Refusal.TheVariants.{WrongTag, WrongLength, WrongEnd}
use Rattle.refusals.proofs.Laws.{check_accepted, both_accepted}
use Rattle.stored.specs.Layout.{HEAD, extent, field_of, fields_of, low_first, number}
use Rattle.stored.specs.Stored.{field_verdict, fields_verdict}
use Rattle.stored.proofs.Bytes.{bytes_drop, bytes_take, low_back, number_back}

-- ---- the ways to a field's verdict
module _ (tag n at : ℕ) (s : List ℕ) where
  pub no_tag : length s ≤ at → Err (WrongEnd (length s)) ≡ field_verdict tag n at s
  no_tag h = rw (le-ltb at (length s) h)

  module _ (h1 : at < length s) where
    pub other_tag : (get_or s at 0 ≡ tag → ⊥) → Err (WrongTag at) ≡ field_verdict tag n at s
    other_tag h = rw (lt-ltb at (length s) h1, ne_eqb (get_or s at 0) tag h)

    module _ (h2 : get_or s at 0 ≡ tag) where
      pub no_length : length s < at + HEAD → Err (WrongEnd (length s)) ≡ field_verdict tag n at s
      no_length h = rw (lt-ltb at (length s) h1, eq-eqb (get_or s at 0) tag h2, lt-leb (at + HEAD) (length s) h)

      module _ (h3 : at + HEAD ≤ length s) (v : ℕ) (e : v ≡ number (take 2 (drop (at + 1) s))) where
        pub other_length : (v ≡ n → ⊥) → Err (WrongLength (at + 1)) ≡ field_verdict tag n at s
        other_length h = rw (lt-ltb at (length s) h1, eq-eqb (get_or s at 0) tag h2, le-leb (at + HEAD) (length s) h3, sym e, ne_eqb v n h)

        module _ (h4 : v ≡ n) where
          pub no_content : length s < at + HEAD + n → Err (WrongEnd (length s)) ≡ field_verdict tag n at s
          no_content h = rw (lt-ltb at (length s) h1, eq-eqb (get_or s at 0) tag h2, le-leb (at + HEAD) (length s) h3, sym e, eq-eqb v n h4, lt-leb (at + HEAD + n) (length s) h)

          pub whole : at + HEAD + n ≤ length s → accepted ≡ field_verdict tag n at s
          whole h = rw (lt-ltb at (length s) h1, eq-eqb (get_or s at 0) tag h2, le-leb (at + HEAD) (length s) h3, sym e, eq-eqb v n h4, le-leb (at + HEAD + n) (length s) h)

-- ---- field after field
module _ (ns : List ℕ) (s : List ℕ) (i at n : ℕ) (q : Verdict) (h : i < length ns) (en : n ≡ get_or ns i 0) (e : q ≡ fields_verdict (drop i ns) (i + 1) at s) where
  -- the field that is next, then the others
  split : q ≡ both (field_verdict (i + 1) n at s) (fields_verdict (drop (i + 1) ns) (i + 1 + 1) (at + HEAD + n) s)
  unfolding fields_verdict
  split = e ∙ rw (drop-cons ns i 0 h, add-one i, add-one (suc i), sym en)

  module _ (v : Verdict) (ev : v ≡ field_verdict (i + 1) n at s) where
    pub field_bad : (k : Refusal) → v ≡ Err k → Err k ≡ q
    field_bad k r = sym (split ∙ rw (sym ev, r))

    pub field_good : v ≡ accepted → q ≡ fields_verdict (drop (i + 1) ns) (i + 1 + 1) (at + HEAD + n) s
    field_good r = split ∙ rw (sym ev, r)

-- ---- after the last field
module _ (tag at : ℕ) (s : List ℕ) where
  pub left_over : at < length s → Err (WrongEnd at) ≡ fields_verdict [] tag at s
  unfolding fields_verdict
  left_over l = rw (lt-leb (length s) at l)

  pub all_taken : length s ≤ at → accepted ≡ fields_verdict [] tag at s
  unfolding fields_verdict
  all_taken l = rw (le-leb (length s) at l)

-- ---- a field without fault
pub record Field (tag n at : ℕ) (s : List ℕ) : Type 0 where
  pub tagged : get_or s at 0 ≡ tag
  pub measured : number (take 2 (drop (at + 1) s)) ≡ n
  pub reaches : at + HEAD + n ≤ length s

pub field_of_lem : (tag n at : ℕ) (s : List ℕ) → field_verdict tag n at s ≡ accepted → Field tag n at s
field_of_lem tag n at s e =
    let a = check_accepted (ltb at (length s)) (WrongEnd (length s)) _ e in
    let b = check_accepted (eqb (get_or s at 0) tag) (WrongTag at) _ a.1 in
    let c = check_accepted (leb (at + HEAD) (length s)) (WrongEnd (length s)) _ b.1 in
    let d = check_accepted (eqb (number (take 2 (drop (at + 1) s))) n) (WrongLength (at + 1)) _ c.1 in
    let f = check_accepted (leb (at + HEAD + n) (length s)) (WrongEnd (length s)) _ d.1 in
    record {
      tagged = eqb-true (get_or s at 0) tag b.0;
      measured = eqb-true (number (take 2 (drop (at + 1) s))) n d.0;
      reaches = leb-true (at + HEAD + n) (length s) f.0;
    }

-- ---- fields without fault
-- they end where the bytes end
pub fields_length : (ns : List ℕ) (tag at : ℕ) (s : List ℕ) → at ≤ length s → fields_verdict ns tag at s ≡ accepted → length s ≡ at + extent ns
unfolding fields_verdict
fields_length [] tag at s h e = let l = leb-true (length s) at (check_accepted (leb (length s) at) (WrongEnd at) accepted e).0 in omega (arith, h, l)
fields_length (n ∷ ns) tag at s h e =
    let u = both_accepted (field_verdict tag n at s) _ e in
    let f = (field_of_lem tag n at s u.0).reaches in
    let r = fields_length ns (suc tag) (at + HEAD + n) s f u.1 in
    omega (arith, r)

-- their contents
unfoldable pub parts : List ℕ → ℕ → List ℕ → List (List ℕ)
parts [] at s = []
parts (n ∷ ns) at s = take n (drop (at + HEAD) s) ∷ parts ns (at + HEAD + n) s

-- a field and what follows it
field_joined : (tag n at : ℕ) (s : List ℕ) → T (are_bytes s) → Field tag n at s → field_of tag (take n (drop (at + HEAD) s)) ++ drop (at + HEAD + n) s ≡ drop at s
field_joined tag n at s t f =
    let r = f.reaches in
    let three : at + HEAD ≡ at + 1 + 2 = omega arith in
    let content = take n (drop (at + HEAD) s) in
    let len : length content ≡ n = length-take-le n (drop (at + HEAD) s) (omega (arith, r, length-drop (at + HEAD) s)) in
    let two : length (take 2 (drop (at + 1) s)) ≡ 2 = length-take-le 2 (drop (at + 1) s) (omega (arith, r, length-drop (at + 1) s)) in
    let head : low_first 2 n ≡ take 2 (drop (at + 1) s) =
    ap (low_first 2) (sym f.measured)
    ∙ ap (λ (k : ℕ). low_first k (number (take 2 (drop (at + 1) s)))) (sym two)
    ∙ number_back (take 2 (drop (at + 1) s)) (bytes_take 2 (drop (at + 1) s) (bytes_drop (at + 1) s t)) in
    ap (λ (k : ℕ). (tag ∷ low_first 2 k) ++ content ++ drop (at + HEAD + n) s) len
    ∙ ap (λ (k : List ℕ). (tag ∷ k) ++ content ++ drop (at + HEAD + n) s) head
    ∙ append_assoc (tag ∷ take 2 (drop (at + 1) s)) content (drop (at + HEAD + n) s)
    ∙ ap (λ (k : List ℕ). (tag ∷ take 2 (drop (at + 1) s)) ++ k) (ap (λ (k : List ℕ). content ++ k) (sym (drop-drop n (at + HEAD) s)) ∙ take-append-drop n (drop (at + HEAD) s))
    ∙ ap (λ (k : List ℕ). tag ∷ take 2 (drop (at + 1) s) ++ k) (ap (λ (m : ℕ). drop m s) three ∙ sym (drop-drop 2 (at + 1) s))
    ∙ ap (λ (k : List ℕ). tag ∷ k) (take-append-drop 2 (drop (at + 1) s))
    ∙ ap (λ (b : ℕ). b ∷ drop (at + 1) s) (sym f.tagged)
    ∙ ap (λ (m : ℕ). get_or s at 0 ∷ drop m s) (add-one at)
    ∙ sym (drop-cons s at 0 (omega (arith, r)))

-- the contents, written as fields, are the bytes
pub fields_joined : (ns : List ℕ) (tag at : ℕ) (s : List ℕ) → T (are_bytes s) → fields_verdict ns tag at s ≡ accepted → fields_of tag (parts ns at s) ≡ drop at s
unfolding fields_verdict fields_of parts
fields_joined [] tag at s t e = sym (drop_of_length-le s {i = at} (leb-true (length s) at (check_accepted (leb (length s) at) (WrongEnd at) accepted e).0))
fields_joined (n ∷ ns) tag at s t e =
    let u = both_accepted (field_verdict tag n at s) _ e in
    ap (λ (r : List ℕ). field_of tag (take n (drop (at + HEAD) s)) ++ r) (fields_joined ns (suc tag) (at + HEAD + n) s t u.1)
    ∙ field_joined tag n at s t (field_of_lem tag n at s u.0)

-- ---- what is written has no fault
pub length_field : (tag : ℕ) (c : List ℕ) → length (field_of tag c) ≡ HEAD + length c
length_field tag c = omega (arith, length-append (tag ∷ low_first 2 (length c)) c)

unfoldable pub lengths : List (List ℕ) → List ℕ
lengths [] = []
lengths (c ∷ cs) = length c ∷ lengths cs

pub length_fields : (cs : List (List ℕ)) (tag : ℕ) → length (fields_of tag cs) ≡ extent (lengths cs)
unfolding fields_of lengths
length_fields [] tag = refl
length_fields (c ∷ cs) tag = omega (arith, length-append (field_of tag c) (fields_of (suc tag) cs), length_field tag c, length_fields cs (suc tag))

-- contents whose lengths two bytes hold
unfoldable pub Short : List (List ℕ) → Type 0
Short [] = Prim.Unit
Short (c ∷ cs) = (length c < 65536) × Short cs

-- a field after the bytes p
field_taken : (tag : ℕ) (p c r : List ℕ) → length c < 65536 → accepted ≡ field_verdict tag (length c) (length p) (p ++ (field_of tag c ++ r))
field_taken tag p c r h =
    let s = p ++ (field_of tag c ++ r) in
    let l : length s ≡ length p + (HEAD + length c + length r) = omega (arith, length-append p (field_of tag c ++ r), length-append (field_of tag c) r, length_field tag c) in
    let d : drop (length p + 1) s ≡ low_first 2 (length c) ++ c ++ r = drop-append-add p (field_of tag c ++ r) 1 in
    rw (
      lt-ltb (length p) (length s) (omega (arith, l)),
      eq-eqb (get_or s (length p) 0) tag (get_or-append_seam p tag (low_first 2 (length c) ++ c ++ r) 0),
      le-leb (length p + HEAD) (length s) (omega (arith, l)),
      ap (λ (k : List ℕ). number (take 2 k)) d ∙ low_back 2 (length c) h,
      eq-eqb (length c) (length c) refl,
      le-leb (length p + HEAD + length c) (length s) (omega (arith, l)),
    )
    refl

pub fields_taken : (cs : List (List ℕ)) (tag : ℕ) (p : List ℕ) → Short cs → fields_verdict (lengths cs) tag (length p) (p ++ fields_of tag cs) ≡ accepted
unfolding fields_verdict fields_of Short lengths
fields_taken [] tag p h = rw (append-nil p, le-leb (length p) (length p) (omega arith))
fields_taken (c ∷ cs) tag p h =
    let e : length p + HEAD + length c ≡ length (p ++ field_of tag c) = omega (arith, length-append p (field_of tag c), length_field tag c) in
    let a = append_assoc p (field_of tag c) (fields_of (suc tag) cs) in
    rw (sym (field_taken tag p c (fields_of (suc tag) cs) h.0))
    (ap (λ (k : ℕ). fields_verdict (lengths cs) (suc tag) k (p ++ (field_of tag c ++ fields_of (suc tag) cs))) e
    ∙ ap (fields_verdict (lengths cs) (suc tag) (length (p ++ field_of tag c))) (sym a)
    ∙ fields_taken cs (suc tag) (p ++ field_of tag c) h.1)

-- ---- where the contents stand
module _ (s : List ℕ) (tag at : ℕ) (c : List ℕ) (cs : List (List ℕ)) (e : drop at s ≡ fields_of tag (c ∷ cs)) where
  pub content_here : drop (at + HEAD) s ≡ c ++ fields_of (suc tag) cs
  unfolding fields_of
  content_here = sym (drop-drop HEAD at s) ∙ ap (drop HEAD) e

  pub next_field : (n : ℕ) → length c ≡ n → drop (at + HEAD + n) s ≡ fields_of (suc tag) cs
  next_field n h = sym (drop-drop n (at + HEAD) s) ∙ ap (drop n) content_here ∙ drop_at c (fields_of (suc tag) cs) n h
