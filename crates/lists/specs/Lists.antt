-- The checks of the four lent lists (document 01, "Refusal numbers"). Definitions only.
use Rattle.std.specs.Prelude.{◌≡◌, Bool, ◌&&◌, ◌||◌, List, [], ◌∷◌, ℕ, suc, eqb, length, Float}
use Rattle.std.specs.Float.{binary32}
use Rattle.std.specs.Float.Ieee.{neg, of_bits}
use Rattle.exact.specs.Tests.{all_between, capped}
use Rattle.refusals.specs.Paper.{Verdict, accepted, both, check}
use Rattle.refusals.specs.declared.ListName.{ListName}
use Rattle.refusals.specs.declared.ListName.TheVariants.{G, H, GDot, HDot}
use Rattle.refusals.specs.declared.Refusal.TheVariants.{Length, Coefficient, Degree}
use Rattle.tables.specs.Degree.{N_COEFF, N_MAX, WMM_MAX, degree_of, entries}

-- caps of 65,536 nT, and of 4,096 nT a year
abbrev pub main_cap : Float
main_cap = of_bits binary32 0x47800000

abbrev pub rate_cap : Float
rate_cap = of_bits binary32 0x45800000

-- refusal 7 at the first entry of list k, from index i on, that is not finite or over its cap
unfoldable pub entries_verdict : Float → ListName → ℕ → List Float → Verdict
entries_verdict cap k i [] = accepted
entries_verdict cap k i (x ∷ l) = check (capped cap x) (Coefficient k i) (entries_verdict cap k (suc i) l)

-- a list of degree 12 or of degree 13: of 90 entries, or of 104
abbrev pub whole : List Float → Bool
whole l = eqb (length l) (entries WMM_MAX) || eqb (length l) (entries N_MAX)

-- each of the four is one
abbrev pub all_whole : List Float → List Float → List Float → List Float → Bool
all_whole g h g_dot h_dot = whole g && whole h && whole g_dot && whole h_dot

-- they are of one degree
abbrev pub one_degree : List Float → List Float → List Float → List Float → Bool
one_degree g h g_dot h_dot = eqb (length h) (length g) && eqb (length g_dot) (length g) && eqb (length h_dot) (length g)

-- so the first has the entries of its degree, and the others are as long
pub record Long (g h gd hd : List Float) : Type 0 where
  pub g_long : length g ≡ entries (degree_of (length g))
  pub h_long : length h ≡ length g
  pub gd_long : length gd ≡ length g
  pub hd_long : length hd ≡ length g

-- each of the four lists is 90 long: what the readers and the writer of the WMM's sets ask
abbrev pub long : List Float → List Float → List Float → List Float → Bool
long g h g_dot h_dot = eqb (length g) N_COEFF && eqb (length h) N_COEFF && eqb (length g_dot) N_COEFF && eqb (length h_dot) N_COEFF

-- refusal 7 in the first list that has it: g and h, then the two others, which have names and a cap of their own
abbrev pub caps_by : (third fourth : ListName) → Float → List Float → List Float → List Float → List Float → Verdict
caps_by third fourth cap g h c d = both (entries_verdict main_cap G 0 g) (both (entries_verdict main_cap H 0 h) (both (entries_verdict cap third 0 c) (entries_verdict cap fourth 0 d)))

-- of a set: the others are the rates
abbrev pub caps_verdict : List Float → List Float → List Float → List Float → Verdict
caps_verdict g h g_dot h_dot = caps_by GDot HDot rate_cap g h g_dot h_dot

-- refusal 6, then 23
unfoldable pub lengths_verdict : List Float → List Float → List Float → List Float → Verdict
lengths_verdict g h g_dot h_dot = check (all_whole g h g_dot h_dot) Length (check (one_degree g h g_dot h_dot) Degree accepted)

-- refusal 6, 23, then 7
unfoldable pub lists_verdict : List Float → List Float → List Float → List Float → Verdict
lists_verdict g h g_dot h_dot = both (lengths_verdict g h g_dot h_dot) (caps_verdict g h g_dot h_dot)

-- of the WMM's sets: refusal 6 where a list is not 90 long, then 7
unfoldable pub ninety_verdict : List Float → List Float → List Float → List Float → Verdict
ninety_verdict g h g_dot h_dot = check (long g h g_dot h_dot) Length (caps_verdict g h g_dot h_dot)

-- every entry of the four lists is within its cap, as the code asks it before it searches
unfoldable pub within_of : Float → List Float → List Float → List Float → List Float → Bool
within_of cap g h c d = all_between (neg main_cap) main_cap g && all_between (neg main_cap) main_cap h && all_between (neg cap) cap c && all_between (neg cap) cap d
