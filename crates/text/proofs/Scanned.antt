-- A run of digits: a turn of its loop, and what it took and left. Assumes nothing.
use mathlib.Core.Path.{◌≡◌, refl, sym, ap, subst, ◌∙◌}
use mathlib.Core.Bool.{Bool, true, false, cond}
use mathlib.Core.List.{List, [], ◌∷◌, ◌++◌}
use mathlib.Core.Logic.{◌⊎◌, inl, inr}
use Prim.Native.Nat.{ℕ, zero, suc, ◌+◌, ◌-◌, ◌*◌, ◌^◌, ◌≤◌, ◌<◌}
use native.Mathlib.Nat.{mul-le-mul_right, mul-le-mul_left, mul_assoc, pow-succ', one-le-pow}
use native.Mathlib.Omega.{arith}
use lib.ListN.{length, take, drop, get_or, drop_of_length-le}
use Rattle.std.proofs.lemmas.List.{drop_more, take_rest}
use Rattle.text.specs.Bytes.{digit}
use Rattle.text.specs.Decimals.{digits, value_of}
use Rattle.text.specs.Scan.{State, scan, Ran}

-- ---- the number stays small
-- another digit takes the room of one
pub smaller : (v x m N : ℕ) → (v + 1) * 10 ^ m ≤ N → 0 < m → x ≤ 9 → (v * 10 + x + 1) * 10 ^ (m - 1) ≤ N
smaller v x zero N h p q = elim p [ ]
smaller v x (suc m) N h p q =
    let e : suc m - 1 ≡ m = omega arith in
    let a : (v * 10 + x + 1) * 10 ^ m ≤ (v + 1) * 10 * 10 ^ m = mul-le-mul_right (10 ^ m) (omega arith) in
    let b : (v + 1) * 10 * 10 ^ m ≡ (v + 1) * 10 ^ suc m = mul_assoc (v + 1) 10 (10 ^ m) ∙ ap (λ (z : ℕ). (v + 1) * z) (sym (pow-succ' 10 m)) in
    rw e (omega arith)

pub below : (v m N : ℕ) → (v + 1) * 10 ^ m ≤ N → v < N
below v m N h =
    let a : (v + 1) * 1 ≤ (v + 1) * 10 ^ m = mul-le-mul_left (v + 1) (one-le-pow m 10 (omega arith)) in
    omega arith

-- so a digit has room
pub room : (v x m : ℕ) → (v + 1) * 10 ^ m ≤ 10 ^ 9 → (m ≡ 0 → ⊥) → x ≤ 9 → v * 10 + x < 10 ^ 9
room v x m h n q = below (v * 10 + x) (m - 1) (10 ^ 9) (smaller v x m (10 ^ 9) h (omega arith) q)

-- ---- a turn
stay : (m v : ℕ) (c : ℕ) (w : List ℕ) → digit c ≡ false → scan m v (c ∷ w) ≡ record { left = m; value = v; ahead = c ∷ w }
unfolding scan
stay zero v c w e = refl
stay (suc m) v c w e = rw e

go_on : (m v c : ℕ) (w : List ℕ) → digit c ≡ true → 0 < m → scan m v (c ∷ w) ≡ scan (m - 1) (v * 10 + (c - 48)) w
unfolding scan
go_on zero v c w e h = elim h [ ]
go_on (suc m) v c w e h = let i : suc m - 1 ≡ m = omega arith in rw (e, i)

out : (m v : ℕ) → scan m v [] ≡ record { left = m; value = v; ahead = [] }
unfolding scan
out zero v = refl
out (suc m) v = refl

-- the loop's turns: the run has come to i
module _ (s : List ℕ) (i m v : ℕ) where
  pub full : m ≡ 0 → scan m v (drop i s) ≡ record { left = m; value = v; ahead = drop i s }
  unfolding scan
  full e = rw e

  pub over : length s ≤ i → scan m v (drop i s) ≡ record { left = m; value = v; ahead = drop i s }
  over h = rw (drop_of_length-le s {i = i} h) (out m v)

  pub no_digit_at : i < length s → digit (get_or s i 0) ≡ false → scan m v (drop i s) ≡ record { left = m; value = v; ahead = drop i s }
  no_digit_at h e = rw (drop_more s i 0 h) (stay m v (get_or s i 0) (drop (i + 1) s) e)

  pub digit_at : i < length s → digit (get_or s i 0) ≡ true → 0 < m → scan m v (drop i s) ≡ scan (m - 1) (v * 10 + (get_or s i 0 - 48)) (drop (i + 1) s)
  digit_at h e p = ap (scan m v) (drop_more s i 0 h) ∙ go_on m v (get_or s i 0) (drop (i + 1) s) e p

-- ---- what a run took and what it left
-- it stops at the end, where it may take no more, or before a byte that is no digit
abbrev pub Stops : ℕ → List ℕ → Type 0
Stops l [] = Unit
Stops l (c ∷ w) = (l ≡ 0) ⊎ (digit c ≡ false)

pub record Split (m v : ℕ) (w : List ℕ) (st : State) : Type 0 where
  pub front : List ℕ
  pub whole : w ≡ front ++ st.ahead
  pub all : digits front ≡ true
  pub count : length front + st.left ≡ m
  pub is : st.value ≡ value_of v front
  pub stops : Stops st.left st.ahead

stopped : (m v : ℕ) (w : List ℕ) → Stops m w → Split m v w (record { left = m; value = v; ahead = w })
unfolding digits value_of
stopped m v w h = record { front = []; whole = refl; all = refl; count = omega arith; is = refl; stops = h }

split : (m v : ℕ) (w : List ℕ) → Split m v w (scan m v w)
unfolding scan digits value_of
split zero v [] = stopped zero v [] tt
split zero v (c ∷ w) = stopped zero v (c ∷ w) (inl refl)
split (suc m) v [] = stopped (suc m) v [] tt
split (suc m) v (c ∷ w) = go (digit c) refl (split m (v * 10 + (c - 48)) w)
  where
    go : (b : Bool) → digit c ≡ b → Split m (v * 10 + (c - 48)) w (scan m (v * 10 + (c - 48)) w)
        → Split (suc m) v (c ∷ w) (cond b (scan m (v * 10 + (c - 48)) w) (record { left = suc m; value = v; ahead = c ∷ w }))
    go true e r =
        let k = r.count in
        record { front = c ∷ r.front; whole = ap (λ (z : List ℕ). c ∷ z) r.whole; all = rw e r.all; count = omega arith; is = r.is; stops = r.stops }
    go false e r = stopped (suc m) v (c ∷ w) (inr e)

pub ran_split : (s : List ℕ) (m v : ℕ) (rest : List ℕ) (l x : ℕ) → Ran s m v rest l x → Split m v s (record { left = l; value = x; ahead = rest })
ran_split s m v rest l x r = subst (λ (t : State). Split m v s t) r.is (split m v s)

-- ---- the loop's ways to a return: the run has come to i
module _ (s : List ℕ) (most value i l x : ℕ) (small : (x + 1) * 10 ^ l ≤ 10 ^ 9) (e : scan most value s ≡ scan l x (drop i s)) where
  pub stopped_at : scan l x (drop i s) ≡ record { left = l; value = x; ahead = drop i s } → Ran s most value (take (length s - i) (drop i s)) l x
  stopped_at h = record { small = small; is = e ∙ h ∙ ap (λ t. record { left = l; value = x; ahead = t }) (sym (take_rest s i)) }
