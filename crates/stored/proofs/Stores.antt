-- What is written, part after part, and as runs of stores. Assumes nothing.
use mathlib.Core.Path.{◌≡◌, refl, sym, ap, ◌∙◌}
use mathlib.Core.List.{List, [], ◌∷◌, ◌++◌, append_assoc, append-nil}
use Prim.Native.Nat.{ℕ, suc, ◌+◌, ◌-◌, ◌*◌, ◌/◌, ◌%◌, ◌≤◌, ◌<◌}
use native.Mathlib.Nat.{add-suc, add-zero, div-div-eq-div-mul, suc-add}
use native.Mathlib.Numerals.{add-one}
use native.Mathlib.Omega.{arith}
use borrow.Rule.Slice.PartMut.{put_mid}
use lib.ListN.{length, get_or, take, drop, drop_of_length-le, set}
use lib.Seq.{drop_at, drop-drop, length-take-le, sets, take_all, take_at, take-suc}
use lib.Ieee.{Float, nan}
use Rattle.float32.specs.Bits.{bits_of}
use Rattle.stored.specs.Layout.{HEAD, bytes_of, field_of, fields_of, list_length, low_first}
use Rattle.stored.proofs.Floats.{bytes_more, length_bytes}
use Rattle.stored.proofs.Frame.{length_field}

-- four bytes of a number, as the library has them
pub low_four : (n : ℕ) → n % 256 ∷ n / 256 % 256 ∷ n / 65536 % 256 ∷ n / 16777216 % 256 ∷ [] ≡ low_first 4 n
low_four n =
    let two : n / 256 / 256 ≡ n / 65536 = div-div-eq-div-mul n 256 256 in
    let three : n / 65536 / 256 ≡ n / 16777216 = div-div-eq-div-mul n 65536 256 in
    rw (two, three) refl

-- four bytes after those of b, which stand before what s held
next_put : (b s w : List ℕ) (at : ℕ) → length b ≡ at → put_mid at 4 (b ++ drop at s) w ≡ (b ++ w) ++ drop (at + 4) s
next_put b s w at e =
    ap (λ (p : List ℕ). p ++ (w ++ drop 4 (drop at (b ++ drop at s)))) (take_at b (drop at s) at e)
    ∙ ap (λ (p : List ℕ). b ++ (w ++ drop 4 p)) (drop_at b (drop at s) at e)
    ∙ ap (λ (p : List ℕ). b ++ (w ++ p)) (drop-drop 4 at s)
    ∙ sym (append_assoc b w (drop (at + 4) s))

-- the entries of a list, one after another: what x holds is the bytes of the first i, then what s held
module _ (s : List ℕ) (l : List Float) where
  pub entry_put : (i : ℕ) → i < length l → (x : List ℕ) → x ≡ bytes_of (take i l) ++ drop (4 * i) s → (n : ℕ) → n ≡ bits_of (get_or l i nan)
      → (w : List ℕ) → w ≡ n % 256 ∷ n / 256 % 256 ∷ n / 65536 % 256 ∷ n / 16777216 % 256 ∷ []
      → put_mid (4 * i) (4 * i + 4 - 4 * i) x w ≡ bytes_of (take (i + 1) l) ++ drop (4 * (i + 1)) s
  entry_put i h x e n f w g =
      let b = bytes_of (take i l) in
      let four : 4 * i + 4 - 4 * i ≡ 4 = omega arith in
      let at : length b ≡ 4 * i = omega (arith, length_bytes (take i l), length-take-le i l (omega (arith, h))) in
      let next : 4 * i + 4 ≡ 4 * (i + 1) = omega arith in
      ap (λ (k : ℕ). put_mid (4 * i) k x w) four
      ∙ ap (λ (y : List ℕ). put_mid (4 * i) 4 y w) e
      ∙ next_put b s w (4 * i) at
      ∙ ap (λ (v : List ℕ). (b ++ v) ++ drop (4 * i + 4) s) (g ∙ low_four n ∙ ap (low_first 4) f)
      ∙ ap (λ (p : List ℕ). p ++ drop (4 * i + 4) s) (sym (bytes_more (take i l) (get_or l i nan)) ∙ ap bytes_of (sym (take-suc l i nan h) ∙ ap (λ (k : ℕ). take k l) (sym (add-one i))))
      ∙ ap (λ (k : ℕ). bytes_of (take (i + 1) l) ++ drop k s) next

  pub all_put : length s ≡ list_length (length l) → (i : ℕ) → length l ≤ i → i ≤ length l → (x : List ℕ) → x ≡ bytes_of (take i l) ++ drop (4 * i) s → x ≡ bytes_of l
  all_put h i a b x e =
      let j : i ≡ length l = omega (arith, a, b) in
      e ∙ ap (λ (m : List Float). bytes_of m ++ drop (4 * i) s) (take_all i l a)
      ∙ ap (λ (r : List ℕ). bytes_of l ++ r) (drop_of_length-le s {i = 4 * i} (omega (arith, h, j)))
      ∙ append-nil (bytes_of l)

-- ---- runs of stores
-- one run, then another where it ends
pub sets_both : (l : List ℕ) (at : ℕ) (p q : List ℕ) → sets (sets l at p) (at + length p) q ≡ sets l at (p ++ q)
sets_both l at [] q = ap (λ (k : ℕ). sets l k q) (add-zero at)
sets_both l at (a ∷ p) q = ap (λ (k : ℕ). sets (sets (set l at a) (suc at) p) k q) (add-suc at (length p) ∙ sym (suc-add at (length p))) ∙ sets_both (set l at a) (suc at) p q

-- one entry of a list more
entry_stored : (b : List ℕ) (at : ℕ) (l : List Float) (i : ℕ) → i < length l
    → sets (sets b at (bytes_of (take i l))) (at + 4 * i) (low_first 4 (bits_of (get_or l i nan))) ≡ sets b at (bytes_of (take (suc i) l))
entry_stored b at l i h =
    let e : 4 * i ≡ length (bytes_of (take i l)) = omega (arith, length_bytes (take i l), length-take-le i l (omega (arith, h))) in
    let x = low_first 4 (bits_of (get_or l i nan)) in
    ap (λ (k : ℕ). sets (sets b at (bytes_of (take i l))) (at + k) x) e
    ∙ sets_both b at (bytes_of (take i l)) x
    ∙ ap (sets b at) (sym (bytes_more (take i l) (get_or l i nan)) ∙ ap bytes_of (sym (take-suc l i nan h)))

-- the same, where the bytes and the number are known by equations
pub stored_on : (b : List ℕ) (at : ℕ) (l : List Float) (i : ℕ) → i < length l → (held : List ℕ) → held ≡ sets b at (bytes_of (take i l)) → (n : ℕ) → n ≡ bits_of (get_or l i nan)
    → sets held (at + 4 * i) (low_first 4 n) ≡ sets b at (bytes_of (take (i + 1) l))
stored_on b at l i h held e n f =
    ap (λ (r : List ℕ). sets r (at + 4 * i) (low_first 4 n)) e
    ∙ ap (λ (k : ℕ). sets (sets b at (bytes_of (take i l))) (at + 4 * i) (low_first 4 k)) f
    ∙ entry_stored b at l i h
    ∙ ap (λ (k : ℕ). sets b at (bytes_of (take k l))) (sym (add-one i))

-- the head of a field, then its content
pub field_stored : (b : List ℕ) (at tag : ℕ) (c : List ℕ) (n : ℕ) → length c ≡ n → sets (sets b at (tag ∷ low_first 2 n)) (at + HEAD) c ≡ sets b at (field_of tag c)
field_stored b at tag c n e =
    ap (λ (k : ℕ). sets (sets b at (tag ∷ low_first 2 k)) (at + HEAD) c) (sym e) ∙ sets_both b at (tag ∷ low_first 2 (length c)) c

-- a field, then the others
pub one_field : (b : List ℕ) (at tag : ℕ) (c : List ℕ) (cs : List (List ℕ)) (next : ℕ) → at + HEAD + length c ≡ next
    → sets b at (fields_of tag (c ∷ cs)) ≡ sets (sets b at (field_of tag c)) next (fields_of (suc tag) cs)
unfolding fields_of
one_field b at tag c cs next e =
    sym (sets_both b at (field_of tag c) (fields_of (suc tag) cs)) ∙ ap (λ (k : ℕ). sets (sets b at (field_of tag c)) k (fields_of (suc tag) cs)) (omega (arith, length_field tag c, e))
