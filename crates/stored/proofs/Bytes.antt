-- Numbers as bytes, low byte first: there and back, and read from a place of some bytes. Assumes nothing.
use mathlib.Core.Path.{◌≡◌, refl, sym, ap, subst, ◌∙◌}
use mathlib.Core.List.{List, [], ◌∷◌}
use Prim.Native.Nat.{ℕ, zero, suc, ◌+◌, ◌*◌, ◌/◌, ◌%◌, ◌^◌, ◌≤◌, ◌<◌}
use native.Mathlib.Nat.{div-add-mod, div-lt_iff_lt-mul, pow-suc}
use native.Mathlib.Numerals.{add-one}
use native.Mathlib.Omega.{arith}
use lib.Arith.{digits_div, digits_mod}
use lib.Dec.{T, ltb, ltb→lt, lit<}
use lib.Ieee.Fits.{and_i, and_l, and_r}
use lib.ListN.{length, get_or, take, drop}
use lib.Pow.{are_bytes}
use lib.Seq.{drop-cons}
use Rattle.stored.specs.Layout.{low_first, number}

-- ---- there and back
pub length_low : (k n : ℕ) → length (low_first k n) ≡ k
length_low zero n = refl
length_low (suc k) n = ap suc (length_low k (n / 256))

-- a number that k bytes hold is read back from them
pub low_back : (k n : ℕ) → n < 256 ^ k → number (low_first k n) ≡ n
low_back zero n h = let z : n < 1 = h in omega (arith, z)
low_back (suc k) n h =
    let l : n < 256 ^ k * 256 = subst (λ (b : ℕ). n < b) (pow-suc 256 k) h in
    let e = low_back k (n / 256) ((div-lt_iff_lt-mul {k = 256} (lit< tt)).1 l) in
    let d = div-add-mod n 256 in
    ap (λ (v : ℕ). n % 256 + 256 * v) e ∙ omega (arith, d)

turned : (b v : ℕ) → b + 256 * v ≡ v * 256 + b
turned b v = omega arith

-- bytes are written again from their number
pub number_back : (s : List ℕ) → T (are_bytes s) → low_first (length s) (number s) ≡ s
number_back [] t = refl
number_back (b ∷ s) t =
    let h = ltb→lt b 256 (and_l (ltb b 256) (are_bytes s) t) in
    rw (turned b (number s), digits_mod (number s) {m = 256} {r = b} h, digits_div (number s) {m = 256} {r = b} h)
    (ap (λ (r : List ℕ). b ∷ r) (number_back s (and_r (ltb b 256) (are_bytes s) t)))

pub number_small : (s : List ℕ) → T (are_bytes s) → number s < 256 ^ length s
number_small [] t = lit< tt
number_small (b ∷ s) t =
    let h = ltb→lt b 256 (and_l (ltb b 256) (are_bytes s) t) in
    let l = number_small s (and_r (ltb b 256) (are_bytes s) t) in
    let e = pow-suc 256 (length s) in
    omega (arith, h, l, e)

-- ---- parts of bytes
pub bytes_take : (n : ℕ) (s : List ℕ) → T (are_bytes s) → T (are_bytes (take n s))
bytes_take zero s t = tt
bytes_take (suc n) [] t = tt
bytes_take (suc n) (b ∷ s) t = and_i (ltb b 256) (are_bytes (take n s)) (and_l (ltb b 256) (are_bytes s) t) (bytes_take n s (and_r (ltb b 256) (are_bytes s) t))

pub bytes_drop : (n : ℕ) (s : List ℕ) → T (are_bytes s) → T (are_bytes (drop n s))
bytes_drop zero s t = t
bytes_drop (suc n) [] t = tt
bytes_drop (suc n) (b ∷ s) t = bytes_drop n s (and_r (ltb b 256) (are_bytes s) t)

-- ---- read from a place
-- the first of what stands at a place, and the rest
next : (s : List ℕ) (at : ℕ) → at < length s → drop at s ≡ get_or s at 0 ∷ drop (at + 1) s
next s at h = rw (add-one at) (drop-cons s at 0 h)

after : (s : List ℕ) (at i : ℕ) → at + i < length s → drop (at + i) s ≡ get_or s (at + i) 0 ∷ drop (at + (i + 1)) s
after s at i h = let e : at + i + 1 ≡ at + (i + 1) = omega arith in next s (at + i) h ∙ ap (λ (k : ℕ). get_or s (at + i) 0 ∷ drop k s) e

module _ (s : List ℕ) (at : ℕ) where
  pub two_read : at + 2 ≤ length s → get_or s at 0 + 256 * get_or s (at + 1) 0 ≡ number (take 2 (drop at s))
  two_read h =
      let e = next s at (omega (arith, h)) ∙ ap (λ (r : List ℕ). get_or s at 0 ∷ r) (after s at 1 (omega (arith, h))) in
      two (get_or s at 0) (get_or s (at + 1) 0) ∙ sym (ap (λ (r : List ℕ). number (take 2 r)) e)
    where
      two : (a b : ℕ) → a + 256 * b ≡ a + 256 * (b + 256 * 0)
      two a b = omega arith

  pub four_read : at + 4 ≤ length s
      → get_or s at 0 + 256 * get_or s (at + 1) 0 + 65536 * get_or s (at + 2) 0 + 16777216 * get_or s (at + 3) 0 ≡ number (take 4 (drop at s))
  four_read h =
      let e =
      next s at (omega (arith, h))
      ∙ ap (λ (r : List ℕ). get_or s at 0 ∷ r) (after s at 1 (omega (arith, h)))
      ∙ ap (λ (r : List ℕ). get_or s at 0 ∷ get_or s (at + 1) 0 ∷ r) (after s at 2 (omega (arith, h)))
      ∙ ap (λ (r : List ℕ). get_or s at 0 ∷ get_or s (at + 1) 0 ∷ get_or s (at + 2) 0 ∷ r) (after s at 3 (omega (arith, h))) in
      four (get_or s at 0) (get_or s (at + 1) 0) (get_or s (at + 2) 0) (get_or s (at + 3) 0) ∙ sym (ap (λ (r : List ℕ). number (take 4 r)) e)
    where
      four : (a b c d : ℕ) → a + 256 * b + 65536 * c + 16777216 * d ≡ a + 256 * (b + 256 * (c + 256 * (d + 256 * 0)))
      four a b c d = omega arith
