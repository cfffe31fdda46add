-- Lists as bytes: how long they are, one entry more, and there and back. Assumes nothing.
use mathlib.Core.Path.{◌≡◌, refl, sym, ap, subst, ◌∙◌}
use mathlib.Core.Bool.{Bool, true, false, not, ◌&&◌}
use mathlib.Core.List.{List, [], ◌∷◌, ◌++◌, append-nil}
use Prim.Native.Nat.{ℕ, zero, suc, ◌+◌, ◌*◌, ◌^◌, ◌≤◌, ◌<◌}
use native.Mathlib.Numerals.{add-one}
use native.Mathlib.Omega.{arith}
use Rattle.std.proofs.lemmas.List.{drop-take, take-take}
use lib.Dec.{T}
use lib.Ieee.{Float, binary32, fits, le, nan, nan_bits}
use lib.Ieee.Fits.{and_l, and_r}
use lib.ListN.{length, get_or, set, take, drop, drop_of_length-le, length-append, length-drop}
use lib.Pow.{are_bytes}
use lib.Seq.{append_snoc, drop-cons, drop-drop, length-take-le, set_at, take-add}
use Rattle.exact.specs.Tests.{all_capped, capped}
use Rattle.float32.specs.Bits.{bits_of, float_of}
use Rattle.float32.proofs.Bits.{bits_back, bits_small, float_back, nan_read}
use Rattle.stored.specs.Layout.{bytes_of, floats_in, list_length, low_first, number}
use Rattle.stored.proofs.Bytes.{bytes_drop, bytes_take, low_back, number_back, number_small}

-- ---- how long they are
pub length_bytes : (l : List Float) → length (bytes_of l) ≡ 4 * length l
unfolding bytes_of
length_bytes [] = refl
length_bytes (x ∷ l) =
    let e = length-append (low_first 4 (bits_of x)) (bytes_of l) in
    let r = length_bytes l in
    omega (arith, e, r)

-- those of a list of k entries
pub list_long : (k : ℕ) (l : List Float) → length l ≡ k → length (bytes_of l) ≡ list_length k
list_long k l h = length_bytes l ∙ ap list_length h

pub length_floats : (k : ℕ) (s : List ℕ) → length (floats_in k s) ≡ k
unfolding floats_in
length_floats zero s = refl
length_floats (suc k) s = ap suc (length_floats k (drop 4 s))

-- no more bytes than its own are read for a list
pub floats_part : (k : ℕ) (s : List ℕ) → floats_in k (take (4 * k) s) ≡ floats_in k s
unfolding floats_in
floats_part zero s = refl
floats_part (suc k) s =
    let w : 4 + 4 * k ≡ 4 * suc k = omega arith in
    let e : drop 4 (take (4 * suc k) s) ≡ take (4 * k) (drop 4 s) = ap (λ (n : ℕ). drop 4 (take n s)) (sym w) ∙ drop-take 4 (4 * k) s in
    ap (λ (b : List ℕ). float_of (number b) ∷ floats_in k (drop 4 (take (4 * suc k) s))) (take-take 4 (4 * suc k) s (omega arith))
    ∙ ap (λ (r : List ℕ). float_of (number (take 4 s)) ∷ floats_in k r) e
    ∙ ap (λ (l : List Float). float_of (number (take 4 s)) ∷ l) (floats_part k (drop 4 s))

-- ---- one entry more, at the end
pub bytes_more : (l : List Float) (x : Float) → bytes_of (l ++ (x ∷ [])) ≡ bytes_of l ++ low_first 4 (bits_of x)
unfolding bytes_of
bytes_more [] x = refl
bytes_more (y ∷ l) x = ap (λ (r : List ℕ). low_first 4 (bits_of y) ++ r) (bytes_more l x)

pub floats_more : (k : ℕ) (s : List ℕ) → floats_in (suc k) s ≡ floats_in k s ++ (float_of (number (take 4 (drop (4 * k) s))) ∷ [])
unfolding floats_in
floats_more zero s = refl
floats_more (suc k) s =
    let e : 4 + 4 * k ≡ 4 * suc k = omega arith in
    ap (λ (r : List Float). float_of (number (take 4 s)) ∷ r)
    (floats_more k (drop 4 s) ∙ ap (λ (r : List ℕ). floats_in k (drop 4 s) ++ (float_of (number (take 4 r)) ∷ [])) (drop-drop (4 * k) 4 s ∙ ap (λ (n : ℕ). drop n s) e))

-- one entry more is read: what the list l is now, x, is the first k entries, then what it held
module _ (k : ℕ) (s : List ℕ) (l : List Float) (x : List Float) where
  pub entry_taken : k < length l → x ≡ floats_in k s ++ drop k l → (y : Float) → y ≡ float_of (number (take 4 (drop (4 * k) s)))
      → set x k y ≡ floats_in (k + 1) s ++ drop (k + 1) l
  entry_taken h e y f =
      ap (λ (r : List Float). set r k y) e
      ∙ ap (λ (r : List Float). set (floats_in k s ++ r) k y) (drop-cons l k nan h)
      ∙ set_at (floats_in k s) (get_or l k nan) (drop (suc k) l) y k (length_floats k s)
      ∙ sym (append_snoc (floats_in k s) y (drop (suc k) l))
      ∙ ap (λ (z : Float). (floats_in k s ++ (z ∷ [])) ++ drop (suc k) l) f
      ∙ ap (λ (r : List Float). r ++ drop (suc k) l) (sym (floats_more k s))
      ∙ ap (λ (j : ℕ). floats_in j s ++ drop j l) (sym (add-one k))

  -- all of them
  pub all_read : length l ≤ k → k ≤ length l → x ≡ floats_in k s ++ drop k l → x ≡ floats_in (length l) s
  all_read a b e =
      e ∙ ap (λ (r : List Float). floats_in k s ++ r) (drop_of_length-le l {i = k} a)
      ∙ append-nil (floats_in k s)
      ∙ ap (λ (i : ℕ). floats_in i s) (omega (arith, a, b))

-- ---- there and back
-- every entry is an f32
unfoldable pub all_fit : List Float → Bool
all_fit [] = true
all_fit (x ∷ l) = fits binary32 x && all_fit l

-- the entries of a list are read back from its bytes, to the bit
pub floats_back : (l : List Float) (s : List ℕ) → T (all_fit l) → floats_in (length l) (bytes_of l ++ s) ≡ l
unfolding floats_in bytes_of all_fit
floats_back [] s t = refl
floats_back (x ∷ l) s t =
    let f = and_l (fits binary32 x) (all_fit l) t in
    let e : number (low_first 4 (bits_of x)) ≡ bits_of x = low_back 4 (bits_of x) (bits_small x f) in
    ap (λ (r : List Float). float_of (number (low_first 4 (bits_of x))) ∷ r) (floats_back l s (and_r (fits binary32 x) (all_fit l) t))
    ∙ ap (λ (y : Float). y ∷ l) (ap float_of e ∙ float_back x f)

no_nan : (cap : Float) (b : ℕ) → T (capped cap (float_of b)) → T (not (nan_bits binary32 b))
unfolding capped le
no_nan cap b t = go (nan_bits binary32 b) refl
  where
    go : (q : Bool) → nan_bits binary32 b ≡ q → T (not q)
    go false e = tt
    go true e = subst (λ (x : Float). T (capped cap x)) (nan_read b (subst T (sym e) tt)) t

-- bytes are written again from the entries that they are read as, where none of these is a NaN
pub bytes_back : (cap : Float) (k : ℕ) (s : List ℕ) → T (are_bytes s) → 4 * k ≤ length s → T (all_capped cap (floats_in k s)) → bytes_of (floats_in k s) ≡ take (4 * k) s
unfolding bytes_of floats_in all_capped
bytes_back cap zero s t h c = refl
bytes_back cap (suc k) s t h c =
    let four = length-take-le 4 s (omega (arith, h)) in
    let part = bytes_take 4 s t in
    let small = number_small (take 4 s) part in
    let b = number (take 4 s) in
    let x = float_of b in
    let n : b < 2 ^ 32 = subst (λ (m : ℕ). b < 256 ^ m) four small in
    let e : bits_of x ≡ b = bits_back b n (no_nan cap b (and_l (capped cap x) (all_capped cap (floats_in k (drop 4 s))) c)) in
    let r : bytes_of (floats_in k (drop 4 s)) ≡ take (4 * k) (drop 4 s) = bytes_back cap k (drop 4 s) (bytes_drop 4 s t) (omega (arith, h, length-drop 4 s)) (and_r (capped cap x) (all_capped cap (floats_in k (drop 4 s))) c) in
    let w : 4 + 4 * k ≡ 4 * suc k = omega arith in
    ap (λ (m : ℕ). low_first 4 m ++ bytes_of (floats_in k (drop 4 s))) e
    ∙ ap (λ (m : ℕ). low_first m b ++ bytes_of (floats_in k (drop 4 s))) (sym four)
    ∙ ap (λ (p : List ℕ). p ++ bytes_of (floats_in k (drop 4 s))) (number_back (take 4 s) part)
    ∙ ap (λ (p : List ℕ). take 4 s ++ p) r
    ∙ sym (take-add 4 (4 * k) s)
    ∙ ap (λ (m : ℕ). take m s) w
