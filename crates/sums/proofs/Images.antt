-- Maps that respect the operations of two arithmetics, and that the size of an exact number is one: nothing cancels in an exact number, so each operation
-- carries over, and the majorant, as the recurrences give it over sizes, is the exact sum's own size.
use mathlib.Core.Path.{◌≡◌, refl, ap, ap₂, ◌∙◌}
use mathlib.Core.List.{List}
use Prim.Native.Nat.{ℕ, ◌*◌}
use native.Mathlib.Nat.{add_comm}
use native.Mathlib.Omega.{arith}
use lib.Ieee.{Float}
use Rattle.sums.specs.Arithmetic.{Arithmetic, plus_s, sizes, times_s, unrounded}
use Rattle.exact.specs.Exact.{Exact, add_e, inv_e, mul_e, neg_e, own, size, sub_e}
use Rattle.sums.proofs.Related.{Related, Alike}
use Rattle.sums.specs.Paths.{at, dated, placed}

-- ---- a map that respects the operations
pub record Hom {A B : Type 0} (o : Arithmetic A) (o' : Arithmetic B) (φ : A → B) : Type 0 where
  pub plus : (x y : A) → φ (o.plus x y) ≡ o'.plus (φ x) (φ y)
  pub less : (x y : A) → φ (o.less x y) ≡ o'.less (φ x) (φ y)
  pub times : (x y : A) → φ (o.times x y) ≡ o'.times (φ x) (φ y)
  pub opp : (x : A) → φ (o.opp x) ≡ o'.opp (φ x)
  pub over : (x : A) (f : Float) → φ (o.over x f) ≡ o'.over (φ x) f
  pub num : (f : Float) → φ (o.num f) ≡ o'.num f

module _ {A B : Type 0} {o : Arithmetic A} {o' : Arithmetic B} {φ : A → B} (k : Hom o o' φ) where
  -- every operation keeps the relation between a number and its image
  pub hom_related : Related o o' (λ x y. φ x ≡ y)
  hom_related =
      record {
        plus = λ p q. k.plus _ _ ∙ ap₂ o'.plus p q;
        less = λ p q. k.less _ _ ∙ ap₂ o'.less p q;
        times = λ p q. k.times _ _ ∙ ap₂ o'.times p q;
        opp = λ p. k.opp _ ∙ ap o'.opp p;
        over = λ f p. k.over _ f ∙ ap (λ (s : B). o'.over s f) p;
        num = k.num;
      }

-- ---- a relation between two arithmetics, of one place with coefficients that it holds of
module _ {A B : Type 0} {o : Arithmetic A} {o' : Arithmetic B} {R : A → B → Type 0} (k : Related o o' R) where
  pub dated_related : (main rate : List Float) (t : Float) (n m : ℕ) → R (dated o main rate t n m) (dated o' main rate t n m)
  dated_related main rate t n m = k.plus (k.num (at main n m)) (k.times (k.num t) (k.num (at rate n m)))

  pub placed_alike : (c s sl cl r : Float) (g h : ℕ → ℕ → A) (g' h' : ℕ → ℕ → B) → ((n m : ℕ) → R (g n m) (g' n m)) → ((n m : ℕ) → R (h n m) (h' n m))
      → Alike o o' R (placed c s sl cl r g h) (placed c s sl cl r g' h')
  unfolding placed
  placed_alike c s sl cl r g h g' h' G H =
      record {
        cos_theta = k.num c;
        sin_theta = k.num s;
        sin_lambda = k.num sl;
        cos_lambda = k.num cl;
        ratio = k.num r;
        S = λ n m. k.num _;
        K = λ n m. k.num _;
        g = G;
        h = H;
      }

-- ---- sizes are such an image: in each operation the two parts, added up, come to what it makes of the two sizes
module _ (x y : Exact) where
  sum_size : (size (unrounded.plus x y)).num ≡ (sizes.plus (size x) (size y)).num
  unfolding unrounded sizes add_e plus_s
  sum_size = omega arith

  less_size : (size (unrounded.less x y)).num ≡ (sizes.less (size x) (size y)).num
  unfolding unrounded sizes sub_e add_e neg_e plus_s
  less_size = omega arith

  product_size : (size (unrounded.times x y)).num ≡ (sizes.times (size x) (size y)).num
  unfolding unrounded sizes mul_e times_s
  product_size = omega arith

pub size_hom : Hom unrounded sizes size
unfolding plus_s times_s sizes unrounded add_e sub_e mul_e neg_e
size_hom =
    record {
      plus = λ x y j. record { num = sum_size x y j; over = x.over * y.over };
      less = λ x y j. record { num = less_size x y j; over = x.over * y.over };
      times = λ x y j. record { num = product_size x y j; over = x.over * y.over };
      over = λ x f j. record { num = product_size x (inv_e (own f)) j; over = x.over * (inv_e (own f)).over };
      opp = λ x j. record { num = add_comm x.minus x.plus j; over = x.over };
      num = λ f. refl;
    }
