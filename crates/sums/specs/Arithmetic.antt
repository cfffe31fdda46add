-- Arithmetics: the operations that the recurrences are written over, and three instances. Definitions only.
use Rattle.std.specs.Prelude.{◌+◌, ◌*◌, Float}
use Rattle.std.specs.Float.{binary32}
use Rattle.std.specs.Float.Ieee.{add, sub, mul, neg, div}
use Rattle.exact.specs.Exact.{Exact, add_e, sub_e, mul_e, neg_e, inv_e, own, Size, size}

-- operations on A, and how a float is read as an A
pub record Arithmetic (A : Type 0) : Type 0 where
  pub plus : A → A → A
  pub less : A → A → A
  pub times : A → A → A
  pub opp : A → A
  -- divided by a float
  pub over : A → Float → A
  pub num : Float → A

-- f32 operations, each rounded once: what the code computes (demand 2)
unfoldable pub rounded : Arithmetic Float
rounded = record { plus = add binary32; less = sub binary32; times = mul binary32; opp = neg; over = div binary32; num = λ x. x }

-- exact numbers: the exact sum (demand 3)
unfoldable pub unrounded : Arithmetic Exact
unrounded = record { plus = add_e; less = sub_e; times = mul_e; opp = neg_e; over = λ x s. mul_e x (inv_e (own s)); num = own }

unfoldable pub plus_s : Size → Size → Size
plus_s a b = record { num = a.num * b.over + b.num * a.over; over = a.over * b.over }

unfoldable pub times_s : Size → Size → Size
times_s a b = record { num = a.num * b.num; over = a.over * b.over }

-- sizes, with every minus read as plus: the majorant (demand 3)
unfoldable pub sizes : Arithmetic Size
unfolding plus_s times_s
sizes = record { plus = plus_s; less = plus_s; times = times_s; opp = λ a. a; over = λ a s. times_s a (size (inv_e (own s))); num = λ f. size (own f) }

-- two numbers: a sine and a cosine, or P and its derivative
pub record Pair (A : Type 0) : Type 0 where
  pub fst : A
  pub snd : A

abbrev pub pair : {A : Type 0} → A → A → Pair A
pair a b = record { fst = a; snd = b }
