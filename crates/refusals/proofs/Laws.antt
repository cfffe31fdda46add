-- Laws of the paper's numbers: a number with its values leaves one refusal, a number alone one case, and none is 0. Assumes nothing.
use mathlib.Core.Path.{◌≡◌, refl, sym, ap, subst, ◌∙◌}
use mathlib.Core.Bool.{Bool, true, false, cond}
use mathlib.Core.List.{List, [], ◌∷◌, map}
use Prim.Native.Nat.{ℕ}
use native.Mathlib.Omega.{arith}
use lib.Dec.{eqb}
use lib.IntN.{ℤ, pos, nat_abs}
use lib.ListN.{get_or}
use lib.Ieee.{Float, nan}
use denote.Enum.Declared.{tag_of}
use Rattle.refusals.specs.declared.Day.{Day}
use Rattle.refusals.specs.declared.Refusal.{Refusal}
use Rattle.refusals.specs.declared.ListName.{ListName}
use Rattle.std.specs.Prelude.{Ok, Err, Result}
use Rattle.refusals.specs.Paper.{Line, carries, line, Paper, answered, refused, paper, unless, told, check, both, Verdict, accepted, said, list_number}
use Rattle.refusals.specs.contracts.Refusal.{the_type}

-- ---- the number and the values leave one refusal
float : Line → ℕ → Float
float v i = get_or v.floats i nan

whole : Line → ℕ → ℤ
whole v i = get_or v.wholes i (pos 0)

day : Line → ℕ → ℕ → Day
unfolding whole
day v i j = record { year = whole v i; day_of_year = whole v j }

-- the list that has the number n
list_numbered : ℕ → ListName
list_numbered n =
    cond (eqb n 0) ListName.G (cond (eqb n 1) ListName.H (cond (eqb n 2) ListName.GDot (cond (eqb n 3) ListName.HDot (cond (eqb n 4) ListName.SecondG ListName.SecondH))))

list_back : (l : ListName) → list_numbered (list_number l) ≡ l
unfolding list_numbered
list_back ListName.G = refl
list_back ListName.H = refl
list_back ListName.GDot = refl
list_back ListName.HDot = refl
list_back ListName.SecondG = refl
list_back ListName.SecondH = refl

-- each case, with the values of a line
cases : Line → List Refusal
unfolding float whole day
cases v =
    Refusal.Height (float v 0) (float v 1) ∷
    Refusal.Latitude ∷
    Refusal.Longitude ∷
    Refusal.DayOfYear ∷
    Refusal.EpochYear (day v 0 1) (day v 2 3) ∷
    Refusal.Length ∷
    Refusal.Coefficient (list_numbered (nat_abs (whole v 0))) (nat_abs (whole v 1)) ∷
    Refusal.OtherEpoch (whole v 0) (whole v 1) ∷
    Refusal.Colatitude ∷
    Refusal.Ratio ∷
    Refusal.Offset ∷
    Refusal.Unusable ∷
    Refusal.Malformed (nat_abs (whole v 0)) ∷
    Refusal.OutOfOrder (nat_abs (whole v 0)) ∷
    Refusal.NoErrorRecord ∷
    Refusal.Angle ∷
    Refusal.WrongTag (nat_abs (whole v 0)) ∷
    Refusal.WrongLength (nat_abs (whole v 0)) ∷
    Refusal.WrongEnd (nat_abs (whole v 0)) ∷
    Refusal.NoRoom ∷
    Refusal.ZeroDivisor ∷
    Refusal.RateAboveEight ∷
    Refusal.Degree ∷
    []

-- the first refusal of the list that has the number n
numbered : ℕ → List Refusal → Refusal
numbered n [] = Refusal.Latitude
numbered n (k ∷ ks) = cond (eqb (line k).number n) k (numbered n ks)

read_back : (k : Refusal) → numbered (line k).number (cases (line k)) ≡ k
unfolding numbered cases
read_back (Refusal.Height low high) = refl
read_back Refusal.Latitude = refl
read_back Refusal.Longitude = refl
read_back Refusal.DayOfYear = refl
read_back (Refusal.EpochYear a b) = refl
read_back Refusal.Length = refl
read_back (Refusal.Coefficient l i) = ap (λ (m : ListName). Refusal.Coefficient m i) (list_back l)
read_back (Refusal.OtherEpoch d s) = refl
read_back Refusal.Colatitude = refl
read_back Refusal.Ratio = refl
read_back Refusal.Offset = refl
read_back Refusal.Unusable = refl
read_back (Refusal.Malformed i) = refl
read_back (Refusal.OutOfOrder i) = refl
read_back Refusal.NoErrorRecord = refl
read_back Refusal.Angle = refl
read_back (Refusal.WrongTag i) = refl
read_back (Refusal.WrongLength i) = refl
read_back (Refusal.WrongEnd i) = refl
read_back Refusal.NoRoom = refl
read_back Refusal.ZeroDivisor = refl
read_back Refusal.RateAboveEight = refl
read_back Refusal.Degree = refl

line_of : {A : Type 0} → Paper A → Line
line_of (answered a) = carries 0 [] []
line_of (refused n f z) = carries n f z

pub paper_one : {A : Type 0} (k l : Refusal) → paper {A = A} k ≡ paper l → k ≡ l
unfolding line_of
paper_one {A} k l e = sym (read_back k) ∙ ap (λ (p : Paper A). numbered (line_of p).number (cases (line_of p))) e ∙ read_back l

-- ---- the number alone leaves one case
-- the place of a case in the enum
abbrev pub case : Refusal → ℕ
case k = tag_of the_type k

-- the case of the first refusal that has the number n, by the numbers and the cases alone
case_numbered : ℕ → List ℕ → List ℕ → ℕ
case_numbered n [] cs = case Refusal.Latitude
case_numbered n (m ∷ ms) [] = case Refusal.Latitude
case_numbered n (m ∷ ms) (c ∷ cs) = cond (eqb m n) c (case_numbered n ms cs)

case_of : (n : ℕ) (ks : List Refusal) → case (numbered n ks) ≡ case_numbered n (map (λ (k : Refusal). (line k).number) ks) (map case ks)
unfolding numbered case_numbered
case_of n [] = refl
case_of n (k ∷ ks) = go (eqb (line k).number n) (numbered n ks) _ (case_of n ks)
  where
    go : (b : Bool) (l : Refusal) (c : ℕ) → case l ≡ c → case (cond b k l) ≡ cond b (case k) c
    go true l c h = refl
    go false l c h = h

-- neither turns on the values
one_case : (n : ℕ) (v w : Line) → case (numbered n (cases v)) ≡ case (numbered n (cases w))
unfolding cases
one_case n v w = case_of n (cases v) ∙ sym (case_of n (cases w))

pub same_case : (k l : Refusal) → (line k).number ≡ (line l).number → case k ≡ case l
same_case k l e =
    sym (ap case (read_back k))
    ∙ one_case (line k).number (line k) (line l)
    ∙ ap (λ (n : ℕ). case (numbered n (cases (line l)))) e
    ∙ ap case (read_back l)

-- no refusal has the number 0: that is for an answer
pub not_zero : (k : Refusal) → (line k).number ≡ 0 → ⊥
unfolding numbered cases
not_zero k e =
    let l : Refusal.Latitude ≡ k = ap (λ (n : ℕ). numbered n (cases (line k))) (sym e) ∙ read_back k in
    let n : ◌≡◌ {A = ℕ} 2 0 = ap (λ (r : Refusal). (line r).number) l ∙ e in
    omega arith

-- ---- an answer is no refusal
pub no_answer : {A : Type 0} (k : Refusal) (a : A) → paper k ≡ answered a → ⊥
no_answer k a e = let z : ◌≡◌ {A = ℕ} 0 1 = cc in omega arith

pub no_refusal : {A : Type 0} {a : A} {n : ℕ} {f : List Float} {z : List ℤ} → answered a ≡ refused n f z → ⊥
no_refusal {A} e = subst (λ (p : Paper A). IsAnswer p) e tt
  where
    IsAnswer : Paper A → Type 0
    IsAnswer (answered a) = Prim.Unit
    IsAnswer (refused n f z) = ⊥

pub answered_one : {A : Type 0} (a b : A) → answered a ≡ answered b → a ≡ b
answered_one a b e = cc

-- what is said leaves one result
pub said_one : {A : Type 0} (x y : Result A Refusal) → said x ≡ said y → x ≡ y
said_one (Ok a) (Ok b) e = ap Ok (answered_one a b e)
said_one (Ok a) (Err k) e = absurd (no_answer k a (sym e))
said_one (Err k) (Ok a) e = absurd (no_answer k a e)
said_one (Err k) (Err l) e = ap Err (paper_one k l e)

-- an answer that stands behind a test: the test passed
pub passed : {A : Type 0} (b : Bool) (k : Refusal) (p : Paper A) (a : A) → unless b (paper k) p ≡ answered a → (b ≡ true) × (p ≡ answered a)
passed true k p a e = (refl, e)
passed false k p a e = absurd (no_answer k a e)

-- ---- what a verdict leaves
-- a group of checks that refuses nothing: each test passed
pub check_accepted : (b : Bool) (k : Refusal) (v : Verdict) → check b k v ≡ accepted → (b ≡ true) × (v ≡ accepted)
check_accepted true k v e = (refl, e)
check_accepted false k v e = absurd (let z : ◌≡◌ {A = ℕ} 0 1 = cc in omega arith)

pub both_accepted : (u v : Verdict) → both u v ≡ accepted → (u ≡ accepted) × (v ≡ accepted)
both_accepted (Ok _) v e = (refl, e)
both_accepted (Err k) v e = absurd (let z : ◌≡◌ {A = ℕ} 0 1 = cc in omega arith)

-- an answer behind a verdict: nothing was refused
pub told_answered : {A : Type 0} (u : Verdict) (p : Paper A) (a : A) → told u p ≡ answered a → (u ≡ accepted) × (p ≡ answered a)
told_answered (Ok _) p a e = (refl, e)
told_answered (Err k) p a e = absurd (no_answer k a e)

-- a refusal before an answer is the same refusal before anything else
pub told_carry : {A B : Type 0} (u : Verdict) (k : Refusal) (a : A) (p : Paper B) → paper k ≡ told u (answered a) → paper k ≡ told u p
told_carry (Ok _) k a p e = absurd (no_answer k a e)
told_carry (Err j) k a p e = ap paper (paper_one k j e)
