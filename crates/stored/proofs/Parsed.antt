-- The five fields as the code reads them, one after another: each place is the one where the field before ends. Assumes nothing.
use mathlib.Core.Path.{◌≡◌, refl, sym, ap, ◌∙◌}
use mathlib.Core.List.{List, [], ◌∷◌}
use Prim.Native.Nat.{ℕ, suc, ◌+◌}
use native.Mathlib.Omega.{arith}
use lib.IntN.{pos}
use denote.Ref.{Bor}
use lib.ListN.{take, drop}
use Rattle.std.specs.Prelude.{Err}
use Rattle.refusals.specs.Paper.{Verdict, accepted}
use Rattle.refusals.specs.declared.Refusal.{Refusal}
use Rattle.lists.specs.Sets.{lists_of}
use Rattle.stored.specs.Fields.{contents_set}
use Rattle.stored.specs.declared.fields.Contents.{Contents}
use Rattle.stored.specs.declared.fields.Fields.{Fields}
use Rattle.stored.specs.Layout.{HEAD, YEAR, content_at, floats_in, list_length, number}
use Rattle.stored.specs.Stored.{field_verdict, fields_verdict, frame_of, set_of}
use Rattle.stored.proofs.Floats.{floats_part}

-- the next place, after a field with n bytes of content
abbrev pub Next : ℕ → Fields → Fields → Type 0
Next n f g = g ≡ record f { at = f.at + HEAD + n }

-- this field passed, or is refused with r
abbrev pub Passed : ℕ → ℕ → Fields → Type 0
Passed tag n f = accepted ≡ field_verdict tag n f.at f.bytes.now

abbrev pub Refused : Refusal → ℕ → ℕ → Fields → Type 0
Refused r tag n f = Err r ≡ field_verdict tag n f.at f.bytes.now

-- q is the verdict of the fields from f on
module _ (q : Verdict) (n : ℕ) (ns : List ℕ) (tag : ℕ) (f : Fields) (e : q ≡ fields_verdict (n ∷ ns) tag f.at f.bytes.now) where
  passed : Passed tag n f → (g : Fields) → Next n f g → q ≡ fields_verdict ns (suc tag) g.at g.bytes.now
  unfolding fields_verdict
  passed h g r = e ∙ rw (sym h) (ap (λ (o : Fields). fields_verdict ns (suc tag) o.at o.bytes.now) (sym r))

  refused : (r : Refusal) → Refused r tag n f → Err r ≡ q
  unfolding fields_verdict
  refused r h = sym (e ∙ rw (sym h))

-- a list of k entries, by the bytes from its place on
list_taken : (k : ℕ) (c s t : List ℕ) (at p : ℕ) → c ≡ take (list_length k) (drop at t) → t ≡ s → at ≡ p → floats_in k c ≡ floats_in k (drop p s)
list_taken k c s t at p e b q = ap (floats_in k) e ∙ floats_part k (drop at t) ∙ (λ i. floats_in k (drop (q i) (b i)))

abbrev start : Bor (List ℕ) → Fields
start b = record { bytes = b; at = 0 }

-- from the second field on: what is refused, and what stands in the fields
module _ (k : ℕ) (b : Bor (List ℕ)) (f2 : Fields) (v1 : Passed 1 YEAR (start b)) (e2 : Next YEAR (start b) f2) where
  n : ℕ
  n = list_length k

  module _ (f3 : Fields) (v2 : Passed 2 (list_length k) f2) (e3 : Next (list_length k) f2 f3) where
    third : frame_of k b.now ≡ fields_verdict (n ∷ n ∷ n ∷ []) 3 f3.at f3.bytes.now
    unfolding n
    third = passed _ n (n ∷ n ∷ n ∷ []) 2 f2 (passed _ YEAR (n ∷ n ∷ n ∷ n ∷ []) 1 (start b) refl v1 f2 e2) v2 f3 e3

    pub third_refused : (r : Refusal) → Refused r 3 (list_length k) f3 → Err r ≡ frame_of k b.now
    unfolding n
    third_refused r h = refused _ n (n ∷ n ∷ []) 3 f3 third r h

    module _ (f4 : Fields) (v3 : Passed 3 (list_length k) f3) (e4 : Next (list_length k) f3 f4) where
      fourth : frame_of k b.now ≡ fields_verdict (n ∷ n ∷ []) 4 f4.at f4.bytes.now
      unfolding n
      fourth = passed _ n (n ∷ n ∷ []) 3 f3 third v3 f4 e4

      pub fourth_refused : (r : Refusal) → Refused r 4 (list_length k) f4 → Err r ≡ frame_of k b.now
      unfolding n
      fourth_refused r h = refused _ n (n ∷ []) 4 f4 fourth r h

      module _ (f5 : Fields) (v4 : Passed 4 (list_length k) f4) (e5 : Next (list_length k) f4 f5) where
        fifth : frame_of k b.now ≡ fields_verdict (n ∷ []) 5 f5.at f5.bytes.now
        unfolding n
        fifth = passed _ n (n ∷ []) 4 f4 fourth v4 f5 e5

        pub fifth_refused : (r : Refusal) → Refused r 5 (list_length k) f5 → Err r ≡ frame_of k b.now
        unfolding n
        fifth_refused r h = refused _ n [] 5 f5 fifth r h

        pub at_the_end : (f6 : Fields) → Passed 5 (list_length k) f5 → Next (list_length k) f5 f6 → (v : Verdict) → v ≡ fields_verdict [] 6 f6.at f6.bytes.now → v ≡ frame_of k b.now
        unfolding n
        at_the_end f6 v5 e6 v h = h ∙ sym (passed _ n [] 5 f5 fifth v5 f6 e6)

        pub contents_taken : (c : Contents) → c.epoch_year.now ≡ take YEAR (drop 3 b.now) → c.g.now ≡ take (list_length k) (drop (f2.at + HEAD) f2.bytes.now)
            → c.h.now ≡ take (list_length k) (drop (f3.at + HEAD) f3.bytes.now) → c.g_dot.now ≡ take (list_length k) (drop (f4.at + HEAD) f4.bytes.now)
            → c.h_dot.now ≡ take (list_length k) (drop (f5.at + HEAD) f5.bytes.now) → contents_set k c ≡ set_of k b.now
        contents_taken c year g h gd hd =
            let p2 : f2.at ≡ 5 = ap (λ (f : Fields). f.at) e2 in
            let p3 : f3.at ≡ f2.at + HEAD + list_length k = ap (λ (f : Fields). f.at) e3 in
            let p4 : f4.at ≡ f3.at + HEAD + list_length k = ap (λ (f : Fields). f.at) e4 in
            let p5 : f5.at ≡ f4.at + HEAD + list_length k = ap (λ (f : Fields). f.at) e5 in
            let b2 : f2.bytes.now ≡ b.now = ap (λ (f : Fields). f.bytes.now) e2 in
            let b3 = ap (λ (f : Fields). f.bytes.now) e3 ∙ b2 in
            let b4 = ap (λ (f : Fields). f.bytes.now) e4 ∙ b3 in
            let b5 = ap (λ (f : Fields). f.bytes.now) e5 ∙ b4 in
            let l2 = list_taken k c.g.now b.now f2.bytes.now (f2.at + HEAD) (content_at k 1) g b2 (omega (arith, p2)) in
            let l3 = list_taken k c.h.now b.now f3.bytes.now (f3.at + HEAD) (content_at k 2) h b3 (omega (arith, p2, p3)) in
            let l4 = list_taken k c.g_dot.now b.now f4.bytes.now (f4.at + HEAD) (content_at k 3) gd b4 (omega (arith, p2, p3, p4)) in
            let l5 = list_taken k c.h_dot.now b.now f5.bytes.now (f5.at + HEAD) (content_at k 4) hd b5 (omega (arith, p2, p3, p4, p5)) in
            λ i. record { year = pos (number (year i)); lists = lists_of (l2 i) (l3 i) (l4 i) (l5 i) }
