-- The two paths, the ways to an answer, and what an answer says of what is lent.
use mathlib.Core.Path.{◌≡◌, refl, sym, ap, subst, ◌∙◌}
use mathlib.Core.Bool.{Bool, true, false, cond}
use mathlib.Core.List.{List}
use Prim.Native.Nat.{ℕ}
use lib.Dec.{T}
use lib.ListN.{length}
use Rattle.tables.specs.Degree.{degree_of}
use Rattle.tables.proofs.Degrees.{degree_high, degree_low}
use lib.Ieee.{Float, binary32, of_bits, lt, div}
use lib.Ieee.Bits.{is_true}
use Rattle.refusals.specs.Paper.{Paper, Verdict, accepted, answered, paper, said, told}
use Rattle.refusals.proofs.Laws.{both_accepted, answered_one, said_one, told_answered}
use Rattle.refusals.specs.declared.Refusal.{Refusal}
use Rattle.std.specs.Prelude.{Ok, Err, Result}
use Rattle.lists.specs.Lists.{Long, lengths_verdict, lists_verdict}
use Rattle.lists.proofs.Checked.{lengths_long, listed, same}
use Rattle.synthesis.proofs.NumberChecks.{numbered}
use Rattle.synthesis.specs.declared.Xyz.{Xyz}
use Rattle.synthesis.specs.Sum.{Lent, SumAccepted, SumClose, degree, inputs, numbers_verdict, offset_ok, ratio_ok, sum_says, summed_says, uncapped_says, value_of}
use Rattle.sums.specs.Paths.{placed, small_sine}
use Rattle.synthesis.proofs.Demand.{close}
use Rattle.synthesis.specs.Code.{OfDegree, general, near_pole}
use Rattle.sums.specs.Arithmetic.{rounded}
use Rattle.exact.specs.Tests.{abs, circle}

-- ---- the two paths, of the degree of the lists
-- lists that have the entries of the degree
pub of_degree : (top : ℕ) (g h gd hd : List Float) → top ≡ degree_of (length g) → Long g h gd hd → OfDegree top g h gd hd
of_degree top g h gd hd e l =
    rw e (degree_low (length g), degree_high (length g), l.g_long, l.h_long ∙ l.g_long, l.gd_long ∙ l.g_long, l.hd_long ∙ l.g_long)

module _ (a : Lent) (top : ℕ) (et : top ≡ degree a) (u : Float) (eu : u ≡ abs a.sin_theta) where
  pub value_pole : lt u (of_bits binary32 0x3a83126f) ≡ true → (v : Xyz) → v ≡ near_pole (inputs rounded a) top → v ≡ value_of a
  unfolding value_of small_sine inputs placed
  value_pole n v e = let s : lt (abs a.sin_theta) (of_bits binary32 0x3a83126f) ≡ true = rw eu at n in rw (s, e, et)

  pub value_general : lt u (of_bits binary32 0x3a83126f) ≡ false → (r : Xyz) → r ≡ general (inputs rounded a) top → record { x = r.x; y = div binary32 r.y a.sin_theta; z = r.z } ≡ value_of a
  unfolding value_of small_sine inputs placed rounded
  value_general n r e = let s : lt (abs a.sin_theta) (of_bits binary32 0x3a83126f) ≡ false = rw eu at n in rw (s, e, et)

-- ---- the ways to an answer
abbrev of_numbers : Lent → Verdict
of_numbers a = numbers_verdict a.cos_theta a.sin_theta a.sin_lambda a.cos_lambda a.ratio a.offset

abbrev of_lists : Lent → Verdict
of_lists a = lists_verdict a.g a.h a.g_dot a.h_dot

-- with the caps looked at, or without
abbrev of_lists_by : Bool → Lent → Verdict
of_lists_by look a = cond look (of_lists a) (lengths_verdict a.g a.h a.g_dot a.h_dot)

abbrev says_by : Bool → Lent → Paper Xyz
says_by look a = cond look (sum_says a) (uncapped_says a)

says_by_lem : (look : Bool) (a : Lent) → says_by look a ≡ summed_says (of_lists_by look a) a
unfolding sum_says uncapped_says
says_by_lem true a = refl
says_by_lem false a = refl

module _ (look : Bool) (a : Lent) where
  pub refused_numbers : (k : Refusal) → of_numbers a ≡ Err k → paper k ≡ says_by look a
  refused_numbers k e = rw (says_by_lem look a, e)

  module _ (n : of_numbers a ≡ accepted) where
    pub refused_lists : (k : Refusal) → of_lists_by look a ≡ Err k → paper k ≡ says_by look a
    refused_lists k e = rw (says_by_lem look a, n, e)

    pub summed : of_lists_by look a ≡ accepted → (x : Xyz) → x ≡ value_of a → answered x ≡ says_by look a
    summed e x h = rw (says_by_lem look a, n, e, h)

-- lists that pass are of one degree, as a call tells it
module _ (v : Verdict) (g h gd hd : List Float) where
  pub long_of : v ≡ lists_verdict g h gd hd → v ≡ accepted → Long g h gd hd
  long_of r e = (listed g h gd hd (same r e)).long

  pub long_of_lengths : v ≡ lengths_verdict g h gd hd → v ≡ accepted → Long g h gd hd
  long_of_lengths r e = lengths_long g h gd hd (same r e)

-- lists that neither refuses are of one degree
pub lengths_by : (look : Bool) (a : Lent) → of_lists_by look a ≡ accepted → lengths_verdict a.g a.h a.g_dot a.h_dot ≡ accepted
unfolding lists_verdict
lengths_by true a e = (both_accepted (lengths_verdict a.g a.h a.g_dot a.h_dot) _ e).0
lengths_by false a e = e

module _ (a : Lent) where
  -- where the lists pass, it makes no difference whether they are looked at
  pub uncapped_same : of_lists a ≡ accepted → uncapped_says a ≡ sum_says a
  unfolding sum_says uncapped_says
  uncapped_same e = rw (lengths_by true a e, e) refl

  -- numbers that pass: Sum says what its lists say
  pub numbers_pass : T (circle a.sin_theta a.cos_theta) → T (circle a.sin_lambda a.cos_lambda) → T (ratio_ok a.ratio) → T (offset_ok a.offset) → sum_says a ≡ told (of_lists a) (answered (value_of a))
  unfolding sum_says numbers_verdict
  numbers_pass c l r o =
      rw (is_true (circle a.sin_theta a.cos_theta) c, is_true (circle a.sin_lambda a.cos_lambda) l, is_true (ratio_ok a.ratio) r, is_true (offset_ok a.offset) o)

-- ---- what an answer says of what is lent
-- what passed both groups of checks
pub passed : (a : Lent) → of_numbers a ≡ accepted → of_lists a ≡ accepted → SumAccepted a
passed a n e =
    let m = numbered a.cos_theta a.sin_theta a.sin_lambda a.cos_lambda a.ratio a.offset n in
    let w = listed a.g a.h a.g_dot a.h_dot e in
    record {
      colatitude = m.0;
      longitude = m.1;
      ratio = m.2;
      offset = m.3;
      g = w.g_capped;
      h = w.h_capped;
      g_dot = w.gd_capped;
      h_dot = w.hd_capped;
    }

pub answer_accepted : (a : Lent) (v : Xyz) → sum_says a ≡ answered v → SumAccepted a × (value_of a ≡ v)
unfolding sum_says
answer_accepted a v e =
    let p = told_answered (of_numbers a) _ v e in
    let q = told_answered (of_lists a) _ v p.1 in
    (passed a p.0 q.0, answered_one (value_of a) v q.1)

-- demand 3: an answer lies close to the exact sums
pub answer_close : (a : Lent) (r : Result Xyz Refusal) → said r ≡ sum_says a → (v : Xyz) → r ≡ Ok v → SumClose a v
answer_close a r e v h =
    let u = answer_accepted a v (sym e ∙ ap said h) in
    subst (λ (x : Xyz). SumClose a x) u.1 (close a u.0)

-- the same, as the code comes to it
pub checked_close : (a : Lent) (checked : Verdict) (r : Result Xyz Refusal) → checked ≡ of_lists a → said r ≡ summed_says checked a → (v : Xyz) → r ≡ Ok v → SumClose a v
unfolding sum_says
checked_close a checked r c e = answer_close a r (e ∙ ap (λ (w : Verdict). summed_says w a) c)

-- any two answers that the contract allows are equal
pub sum_answer_one : (p : Paper Xyz) (r s : Result Xyz Refusal) → said r ≡ p → said s ≡ p → r ≡ s
sum_answer_one p r s e f = said_one r s (e ∙ sym f)
