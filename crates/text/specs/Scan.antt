-- What the functions of src/decimals.rt promise each other, and what the laws about them speak of. Definitions only; no entry's contract cites them.
use Rattle.std.specs.Prelude.{cond, List, [], ◌∷◌, ◌≡◌, ℕ, zero, suc, ◌+◌, ◌-◌, ◌*◌, ◌^◌, ◌≤◌, length, drop, eqb}
use Rattle.text.specs.Bytes.{digit}
use Rattle.text.specs.Decimals.{is_minus, unsigned}

-- where a run of digits stands: how many more it may take, the number so far, and the bytes ahead
pub record State : Type 0 where
  pub left : ℕ
  pub value : ℕ
  pub ahead : List ℕ

-- a run takes digits while there are some, and no more than it may
unfoldable pub scan : ℕ → ℕ → List ℕ → State
scan zero v w = record { left = zero; value = v; ahead = w }
scan (suc m) v [] = record { left = suc m; value = v; ahead = [] }
scan (suc m) v (c ∷ w) = cond (digit c) (scan m (v * 10 + (c - 48)) w) (record { left = suc m; value = v; ahead = c ∷ w })

-- a run of the digits that stand first in s, before `rest`; with all digits that it may still take the number stays below 10 ^ 9
pub record Ran (s : List ℕ) (most value : ℕ) (rest : List ℕ) (left value' : ℕ) : Type 0 where
  pub small : (value' + 1) * 10 ^ left ≤ 10 ^ 9
  pub is : scan most value s ≡ record { left = left; value = value'; ahead = rest }

-- r bytes of w are its sign
pub record Sign (w : List ℕ) (r : ℕ) : Type 0 where
  pub inside : r ≤ length w
  pub is : is_minus w ≡ eqb r 1
  pub rest : unsigned w ≡ drop r w
