-- The table statement: one computed test a table, and one law that turns it into the rule at each entry, over the degree limit; an entry by its place. Assumes nothing.
use mathlib.Core.Path.{◌≡◌, refl, sym, subst, ◌∙◌}
use mathlib.Core.Bool.{Bool, true, ◌&&◌}
use mathlib.Core.List.{List, [], ◌∷◌}
use Prim.Native.Nat.{ℕ, zero, suc, ◌+◌, ◌-◌, ◌*◌, ◌^◌, ◌<◌}
use native.Mathlib.Nat.{add-zero, zero-add, add-suc, suc-add, le_of_suc-le-suc, not-suc-le-zero}
use lib.Dec.{T, eqb, eqb→eq, ltb, ltb→lt}
use lib.IntN.{ℤ}
use lib.ListN.{length, get_or, get_or-map}
use lib.Ieee.{nan, binary32, of_bits, to_bits, round}
use lib.Ieee.Fits.{and_l, and_r}
use Rattle.tables.specs.Degree.{N_MAX, N_LEGENDRE, WMM_MAX, place}
use Rattle.tables.specs.Tables.{schmidt_bits, k_bits, schmidt_table, schmidt_at}
use Rattle.tables.specs.Rule.{k_of, factorial, central, square_num, square_den, units, NearestRoot, mended, misses}

-- ---- a test of every number below a limit
-- the test f passes at i, i + 1, .., i + n - 1
unfoldable every : (ℕ → Bool) → ℕ → ℕ → Bool
every f i zero = true
every f i (suc n) = f i && every f (suc i) n

from : (f : ℕ → Bool) (i n : ℕ) → T (every f i n) → (k : ℕ) → k < n → T (f (i + k))
unfolding every
from f i zero t k h = absurd (not-suc-le-zero h)
from f i (suc n) t zero h = rw add-zero (and_l (f i) (every f (suc i) n) t)
from f i (suc n) t (suc k) h = rw (add-suc, ← suc-add) (from f (suc i) n (and_r (f i) (every f (suc i) n) t) k (le_of_suc-le-suc h))

all : (f : ℕ → Bool) (n : ℕ) → T (every f 0 n) → (k : ℕ) → k < n → T (f k)
all f n t k h = subst (λ (j : ℕ). T (f j)) (zero-add k) (from f 0 n t k h)

-- the test passes at each order of each degree up to N
unfoldable triangle : (ℕ → ℕ → Bool) → ℕ → Bool
unfolding every
triangle f N = every (λ n. every (f n) 0 (suc n)) 0 (suc N)

at_place : (f : ℕ → ℕ → Bool) (N : ℕ) → T (triangle f N) → (n m : ℕ) → n < suc N → m < suc n → T (f n m)
unfolding triangle
at_place f N t n m hn hm = all (f n) (suc n) (all (λ n. every (f n) 0 (suc n)) (suc N) t n hn) m hm

-- ---- K: the source's table holds these factors, bit for bit
unfoldable k_right : List ℕ → ℕ → ℕ → Bool
unfolding k_of
k_right bits n m = eqb (to_bits binary32 (k_of n m)) (get_or bits (place n m) 0)

k_law : (N : ℕ) (bits : List ℕ) → T (triangle (k_right bits) N) → (n m : ℕ) → n < suc N → m < suc n → to_bits binary32 (k_of n m) ≡ get_or bits (place n m) 0
unfolding k_right
k_law N bits t n m hn hm = eqb→eq _ _ (at_place (k_right bits) N t n m hn hm)

pub k_stored : (n m : ℕ) → n < suc WMM_MAX → m < suc n → to_bits binary32 (k_of n m) ≡ get_or k_bits (place n m) 0
unfolding triangle k_right k_bits to_bits round
k_stored n m hn hm = k_law WMM_MAX k_bits tt n m hn hm

-- and it has no other entry, nor one too few: beyond its end `k_stored` would read 0, which is a factor too
pub k_entries : length k_bits ≡ place (WMM_MAX + 1) 0
unfolding k_bits
k_entries = refl

-- ---- Schmidt: every entry, moved by its miss, is the nearest f32
abbrev low_test : ℕ → ℕ → ℕ → Bool
low_test num den b = ltb (den * ((units (b - 1) + units b) * (units (b - 1) + units b))) (4 * num * 2 ^ 298)

abbrev high_test : ℕ → ℕ → ℕ → Bool
high_test num den b = ltb (4 * num * 2 ^ 298) (den * ((units b + units (b + 1)) * (units b + units (b + 1))))

unfoldable rooted : ℕ → ℕ → ℕ → Bool
rooted num den b = low_test num den b && high_test num den b

rooted_is : (num den b : ℕ) → T (rooted num den b) → NearestRoot num den b
unfolding rooted
rooted_is num den b t =
    record {
      above = ltb→lt _ _ (and_l (low_test num den b) (high_test num den b) t);
      below = ltb→lt _ _ (and_r (low_test num den b) (high_test num den b) t);
    }

unfoldable schmidt_right : List ℕ → List ℤ → ℕ → ℕ → Bool
unfolding rooted
schmidt_right bits steps n m = rooted (square_num n m) (square_den n m) (mended bits steps n m)

schmidt_law : (N : ℕ) (bits : List ℕ) (steps : List ℤ) → T (triangle (schmidt_right bits steps) N) → (n m : ℕ) → n < suc N → m < suc n
    → NearestRoot (square_num n m) (square_den n m) (mended bits steps n m)
unfolding schmidt_right
schmidt_law N bits steps t n m hn hm = rooted_is _ _ _ (at_place (schmidt_right bits steps) N t n m hn hm)

schmidt_tested : triangle (schmidt_right schmidt_bits misses) N_MAX ≡ true
unfolding triangle schmidt_right schmidt_bits misses square_num square_den central factorial units of_bits
schmidt_tested = refl

pub schmidt_rule : (n m : ℕ) → n < suc N_MAX → m < suc n → NearestRoot (square_num n m) (square_den n m) (mended schmidt_bits misses n m)
schmidt_rule n m hn hm = schmidt_law N_MAX schmidt_bits misses (subst T (sym schmidt_tested) tt) n m hn hm

-- ---- the entry at a place
-- within a list the default does not count
pub get_any : {A : Type 0} (l : List A) (k : ℕ) (d e : A) → k < length l → get_or l k d ≡ get_or l k e
get_any [] k d e h = absurd (not-suc-le-zero h)
get_any (x ∷ l) zero d e h = refl
get_any (x ∷ l) (suc k) d e h = get_any l k d e (le_of_suc-le-suc h)

pub schmidt_entry : (i : ℕ) → i < N_LEGENDRE → get_or schmidt_table i nan ≡ schmidt_at i
unfolding schmidt_table schmidt_at schmidt_bits
schmidt_entry i h = get_any schmidt_table i nan (of_bits binary32 0) h ∙ get_or-map (of_bits binary32) schmidt_bits i 0
