-- Decimal numbers. Definitions only.
use Rattle.std.specs.Prelude.{Bool, true, false, not, ◌&&◌, ◌||◌, cond, List, [], ◌∷◌, ◌++◌, ℕ, ◌+◌, ◌-◌, ◌*◌, ◌/◌, ◌%◌, ◌^◌, eqb, leb, ℤ, pos, neg_ℤ, length, Float, Some, None, Option}
use Rattle.std.specs.Option.{option_and_then, option_map}
use Rattle.std.specs.Float.{binary32}
use Rattle.std.specs.Float.Ieee.{round}
use Rattle.text.specs.Bytes.{MINUS, POINT, digit}
use Rattle.text.specs.declared.Decimal.{Decimal}

-- what was read, handed on
abbrev pub and_then : {A B : Type 0} → Option A → (A → Option B) → Option B
and_then a k = option_and_then k a

-- ---- the parts of a word
-- a minus stands first; the bytes after it
abbrev pub is_minus : List ℕ → Bool
is_minus [] = false
is_minus (c ∷ s) = eqb c MINUS

abbrev pub unsigned : List ℕ → List ℕ
unsigned [] = []
unsigned (c ∷ s) = cond (eqb c MINUS) s (c ∷ s)

-- the bytes before the first point, and those after it
unfoldable pub before : List ℕ → List ℕ
before [] = []
before (c ∷ s) = cond (eqb c POINT) [] (c ∷ before s)

unfoldable pub beyond : List ℕ → List ℕ
beyond [] = []
beyond (c ∷ s) = cond (eqb c POINT) s (beyond s)

-- there is a point
unfoldable pub pointed : List ℕ → Bool
pointed [] = false
pointed (c ∷ s) = eqb c POINT || pointed s

-- digits alone
unfoldable pub digits : List ℕ → Bool
digits [] = true
digits (c ∷ s) = digit c && digits s

-- digits alone, one at least
abbrev pub numeral : List ℕ → Bool
numeral [] = false
numeral (c ∷ s) = digits (c ∷ s)

-- the whole number that v and the digits after it write
unfoldable pub value_of : ℕ → List ℕ → ℕ
value_of v [] = v
value_of v (c ∷ s) = value_of (v * 10 + (c - 48)) s

-- ---- a number
-- digits, and optionally a point with digits after it; nine digits at most
unfoldable pub plain : List ℕ → Bool
plain u = numeral (before u) && (not (pointed u) || numeral (beyond u)) && leb (length (before u) + length (beyond u)) 9

-- the number of what is plain, where m says whether a minus stands before it
unfoldable pub plain_of : Bool → List ℕ → Option Decimal
plain_of m u = cond (plain u) (Some (record { minus = m; digits = value_of 0 (before u ++ beyond u); places = length (beyond u) })) None

-- the number of a word: an optional minus, and what is plain
unfoldable pub decimal_of : List ℕ → Option Decimal
decimal_of w = plain_of (is_minus w) (unsigned w)

-- ---- what it is taken for
-- the nearest f32, ties to even: `lib.Ieee`'s rounding of the exact fraction
unfoldable pub nearest_of : Decimal → Float
nearest_of d = round binary32 d.minus d.digits (10 ^ d.places)

-- the digits after the point are all 0
abbrev pub is_whole : Decimal → Bool
is_whole d = eqb (d.digits % 10 ^ d.places) 0

-- the number before the point, with its sign; -0 is 0
abbrev pub whole_part : Decimal → ℤ
whole_part d = let n = pos (d.digits / 10 ^ d.places) in cond d.minus (neg_ℤ n) n

-- the whole number that a decimal is
unfoldable pub whole_in : Decimal → Option ℤ
whole_in d = cond (is_whole d) (Some (whole_part d)) None

-- a word as an f32, and as a whole number
unfoldable pub number_of : List ℕ → Option Float
number_of w = option_map nearest_of (decimal_of w)

unfoldable pub whole_of : List ℕ → Option ℤ
whole_of w = and_then (decimal_of w) whole_in
