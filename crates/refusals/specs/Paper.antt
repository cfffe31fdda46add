-- The paper's number and values of every answer. Document 01, "Refusal numbers", and document 02. Definitions only.
use Rattle.std.specs.Prelude.{Bool, true, false, List, [], ◌∷◌, ℕ, ℤ, pos, Float, Result, Ok, Err}
use Rattle.refusals.specs.declared.Refusal.{Refusal}
use Rattle.refusals.specs.declared.ListName.{ListName}

-- a line of the documents' table: a refusal's number, the floats and the whole numbers that it carries
pub record Line : Type 0 where
  pub number : ℕ
  pub floats : List Float
  pub wholes : List ℤ

abbrev pub carries : ℕ → List Float → List ℤ → Line
carries n f z = record { number = n; floats = f; wholes = z }

-- each list's number
abbrev pub list_number : ListName → ℕ
list_number ListName.G = 0
list_number ListName.H = 1
list_number ListName.GDot = 2
list_number ListName.HDot = 3
list_number ListName.SecondG = 4
list_number ListName.SecondH = 5

-- each refusal's line
abbrev pub line : Refusal → Line
line (Refusal.Height low high) = carries 1 (low ∷ high ∷ []) []
line Refusal.Latitude = carries 2 [] []
line Refusal.Longitude = carries 3 [] []
line Refusal.DayOfYear = carries 4 [] []
line (Refusal.EpochYear a b) = carries 5 [] (a.year ∷ a.day_of_year ∷ b.year ∷ b.day_of_year ∷ [])
line Refusal.Length = carries 6 [] []
line (Refusal.Coefficient l i) = carries 7 [] (pos (list_number l) ∷ pos i ∷ [])
line (Refusal.OtherEpoch d s) = carries 8 [] (d ∷ s ∷ [])
line Refusal.Colatitude = carries 9 [] []
line Refusal.Ratio = carries 10 [] []
line Refusal.Offset = carries 11 [] []
line Refusal.Unusable = carries 12 [] []
line (Refusal.Malformed i) = carries 13 [] (pos i ∷ [])
line (Refusal.OutOfOrder i) = carries 14 [] (pos i ∷ [])
line Refusal.NoErrorRecord = carries 15 [] []
line Refusal.Angle = carries 16 [] []
line (Refusal.WrongTag i) = carries 17 [] (pos i ∷ [])
line (Refusal.WrongLength i) = carries 18 [] (pos i ∷ [])
line (Refusal.WrongEnd i) = carries 19 [] (pos i ∷ [])
line Refusal.NoRoom = carries 20 [] []
line Refusal.ZeroDivisor = carries 21 [] []
line Refusal.RateAboveEight = carries 22 [] []
line Refusal.Degree = carries 23 [] []

-- what a call says: its answer, or a refusal's number with the floats and the whole numbers that it carries
pub data Paper (A : Type 0) : Type 0 where
  answered : A → Paper A
  refused : ℕ → List Float → List ℤ → Paper A

-- a refusal, as its line has it
abbrev pub paper : {A : Type 0} → Refusal → Paper A
paper k = refused (line k).number (line k).floats (line k).wholes

-- r, unless the test passes
abbrev pub unless : {A : Type 0} → Bool → Paper A → Paper A → Paper A
unless true r p = p
unless false r p = r

-- what f says of the answer, or the refusal
abbrev pub after : {A B : Type 0} → Paper A → (A → Paper B) → Paper B
after (answered a) f = f a
after (refused n x z) f = refused n x z

-- what a call's result says: its answer, or the refusal's line
abbrev pub said : {A : Type 0} → Result A Refusal → Paper A
said (Ok a) = answered a
said (Err k) = paper k

-- what a group of checks finds: nothing, or the first refusal
abbrev pub Verdict : Type 0
Verdict = Result Unit Refusal

abbrev pub accepted : Verdict
accepted = Ok tt

-- a verdict, before what follows it
abbrev pub told : {A : Type 0} → Verdict → Paper A → Paper A
told (Ok _) p = p
told (Err k) p = paper k

-- a test of a group of checks: what follows it, or the refusal
abbrev pub check : Bool → Refusal → Verdict → Verdict
check true k v = v
check false k v = Err k

-- one group of checks, then another
abbrev pub both : Verdict → Verdict → Verdict
both (Ok _) v = v
both (Err k) v = Err k
