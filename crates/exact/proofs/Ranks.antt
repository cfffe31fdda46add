-- Rank, size and slack as one value, and the rules of nearness on it: what a formula's rank, size and slack come to is then a computation.
use mathlib.Core.Path.{◌∙◌, subst}
use Prim.Native.Nat.{ℕ, suc, ◌+◌, ◌*◌, ◌^◌, ◌≤◌, max, zero}
use native.Mathlib.Nat.{le-suc, le-max_left, le-max_right, le_refl, le_trans, lt_of_le_of_lt, le-add_right, zero-add, suc-add, le_dest, add_comm}
use mathlib.Core.Bool.{Bool, ◌&&◌}
use lib.Dec.{T, leb, ltb, leb→le, ltb→lt}
use lib.Ieee.{Float, binary32, add, sub, mul}
use lib.Ieee.Fits.{and_l, and_r}
use Rattle.exact.specs.Exact.{Exact, add_e, mul_e, sub_e, own}
use Rattle.exact.proofs.Near.{Near, Fine, near_mul, near_add, near_neg, weaken}

-- ---- the same rules, as they are used
pub fine_below : {k B E k' B' E' : ℕ} → Fine k' B' E' → k ≤ k' → B ≤ B' → E ≤ E' → Fine k B E
fine_below f l b e = record { rank = le_trans l f.rank; size = lt_of_le_of_lt b f.size; slack = le_trans e f.slack }

pub fine : {k B E : ℕ} → T (leb k 127) → T (ltb B (2 ^ 125)) → T (leb E (2 ^ 149)) → Fine k B E
fine {k} {B} {E} a b c = record { rank = leb→le k 127 a; size = ltb→lt B (2 ^ 125) b; slack = leb→le E (2 ^ 149) c }

-- ---- the three numbers as one, and the rules on them: what the rank, the size and the slack of a formula come to is a computation
pub record Abs : Type 0 where
  pub rank : ℕ
  pub size : ℕ
  pub slack : ℕ

abbrev pub Nr : Abs → Float → Exact → Type 0
Nr a f x = Near a.rank a.size a.slack f x

abbrev pub leaf_a : ℕ → Abs
leaf_a B = record { rank = 0; size = B; slack = 0 }

abbrev pub add_a : Abs → Abs → Abs
add_a a b = record { rank = suc (max a.rank b.rank); size = a.size + b.size; slack = a.slack + b.slack + 1 }

abbrev pub mul_a : Abs → Abs → Abs
mul_a a b = record { rank = suc (a.rank + b.rank); size = a.size * b.size; slack = a.slack * b.size + b.slack * a.size + 2 * a.slack * b.slack + 1 }

abbrev pub FineA : Abs → Type 0
FineA a = Fine a.rank a.size a.slack

abbrev pub ok_a : Abs → Bool
ok_a a = leb a.rank 127 && ltb a.size (2 ^ 125) && leb a.slack (2 ^ 149)

pub fine_ok : (a : Abs) → T (ok_a a) → FineA a
fine_ok a t =
    let r : Bool = leb a.rank 127 in
    let s : Bool = ltb a.size (2 ^ 125) in
    let e : Bool = leb a.slack (2 ^ 149) in
    fine (and_l r s (and_l (r && s) e t)) (and_r r s (and_l (r && s) e t)) (and_r (r && s) e t)

pub nr_mul : {a b : Abs} {f g : Float} {x y : Exact} → Nr a f x → Nr b g y → FineA (mul_a a b) → Nr (mul_a a b) (mul binary32 f g) (mul_e x y)
nr_mul {a} {b} m n f = near_mul m n (fine_below f (le-suc (a.rank + b.rank)) (le_refl (a.size * b.size)) (le-add_right (a.slack * b.size + b.slack * a.size + 2 * a.slack * b.slack) 1))

pub nr_add : {a b : Abs} {f g : Float} {x y : Exact} → Nr a f x → Nr b g y → FineA (add_a a b) → Nr (add_a a b) (add binary32 f g) (add_e x y)
nr_add {a} {b} m n f =
    near_add (weaken (le-max_left a.rank b.rank) (le_refl a.size) (le_refl a.slack) m) (weaken (le-max_right a.rank b.rank) (le_refl b.size) (le_refl b.slack) n)
    (fine_below f (le-suc (max a.rank b.rank)) (le_refl (a.size + b.size)) (le-add_right (a.slack + b.slack) 1))

pub nr_sub : {a b : Abs} {f g : Float} {x y : Exact} → Nr a f x → Nr b g y → FineA (add_a a b) → Nr (add_a a b) (sub binary32 f g) (sub_e x y)
unfolding sub sub_e
nr_sub m n f = nr_add m (near_neg n) f

-- a float as it stands, of size at most B
abbrev pub Leaf : ℕ → Float → Type 0
Leaf B f = Nr (leaf_a B) f (own f)

-- ---- no more of each, and a family that grows at each step
abbrev pub Under : Abs → Abs → Type 0
Under a b = (a.rank ≤ b.rank) × (a.size ≤ b.size) × (a.slack ≤ b.slack)

pub nr_under : {a b : Abs} {f : Float} {x : Exact} → Under a b → Nr a f x → Nr b f x
nr_under u m = weaken u.0 u.1 u.2 m

pub fine_under : {a b : Abs} → Under a b → FineA b → FineA a
fine_under u f = fine_below f u.0 u.1 u.2

climb : (F : ℕ → Abs) → ((n : ℕ) → Under (F n) (F (suc n))) → (n j : ℕ) → Under (F n) (F (j + n))
climb F h n zero = simp zero-add (le_refl (F n).rank, le_refl (F n).size, le_refl (F n).slack)
climb F h n (suc j) =
    let a = climb F h n j in
    let b = h (j + n) in
    simp suc-add (le_trans a.0 b.0, le_trans a.1 b.1, le_trans a.2 b.2)

pub grows : (F : ℕ → Abs) → ((n : ℕ) → Under (F n) (F (suc n))) → (n k : ℕ) → n ≤ k → Under (F n) (F k)
grows F h n k l =
    let d = le_dest l in
    subst (λ (z : ℕ). Under (F n) (F z)) (add_comm d.0 n ∙ d.1) (climb F h n d.0)
