-- What the two calls for a root answer, by the test `0.0 <= x` of `has_root`, and that the contract of `square_root` leaves one answer. Assumes nothing.
use mathlib.Core.Path.{◌≡◌, refl, sym, ◌∙◌}
use Prim.Native.Nat.{ℕ, zero, suc, ◌*◌, ◌≤◌, ◌<◌}
use native.Mathlib.Nat.{mul-pos, zero-mul, zero-lt-suc, le_antisymm}
use native.Mathlib.Omega.{arith}
use mathlib.Core.Bool.{Bool, true, false, ◌&&◌, ◌||◌, true≢false}
use lib.Dec.{ltb, eqb}
use borrow.Author.Tests.{ltb-false, eq-eqb, ne_eqb}
use lib.Ieee.{Float, nan, inf, fin, binary32, lt, le, eq, of_bits, up, down}
use lib.Ieee.Fits.{up_pos}
use Rattle.refusals.specs.declared.Refusal.TheVariants.{Unusable}
use Rattle.std.specs.Prelude.{Result}
use Rattle.refusals.specs.declared.Refusal.{Refusal}
use Rattle.refusals.specs.Paper.{answered, paper, said}
use Rattle.refusals.proofs.Laws.{said_one}
use Rattle.roots.specs.Root.{sqrt_of, rootable}
use Rattle.roots.specs.Answer.{root_says}

-- ---- the test
at_least : (a b : ℕ) → a ≤ b → ltb a b || (eqb a b && true) ≡ true
at_least a b h = go (ltb a b) refl
  where
    go : (t : Bool) → ltb a b ≡ t → ltb a b || (eqb a b && true) ≡ true
    go true e = rw e
    go false e = rw (e, eq-eqb a b (le_antisymm h (ltb-false a b e)))

below_zero : (m u w : ℕ) → 0 < u → eqb (0 * w) (m * u * 1) && eqb (0 * w) 0 ≡ eqb m 0
below_zero zero u w h = simp zero-mul
below_zero (suc m) u w h =
    let p : 0 < suc m * u = mul-pos (zero-lt-suc m) h in
    rw (ne_eqb (0 * w) (suc m * u * 1) (λ e. omega arith), ne_eqb (suc m) 0 (λ e. omega arith))

pub test_is : (x : Float) → le (of_bits binary32 0) x ≡ rootable x
unfolding le lt eq of_bits rootable
test_is nan = refl
test_is (inf true) = refl
test_is (inf false) = refl
test_is (fin false m d) = at_least (0 * down d) (m * up d * 1) (omega arith)
test_is (fin true m d) = below_zero m (up d) (down d) (up_pos d)

-- ---- what is returned on each way
pub no_root : (x : Float) → rootable x ≡ false → nan ≡ sqrt_of x
unfolding sqrt_of rootable
no_root nan e = refl
no_root (inf true) e = refl
no_root (inf false) e = absurd (true≢false e)
no_root (fin false m d) e = absurd (true≢false e)
no_root (fin true zero d) e = absurd (true≢false e)
no_root (fin true (suc m) d) e = refl

pub root_said : (x r : Float) → rootable x ≡ true → r ≡ sqrt_of x → answered r ≡ root_says x
unfolding root_says
root_said x r h e = rw (e, h)

pub refusal_said : (x : Float) → rootable x ≡ false → paper Unusable ≡ root_says x
unfolding root_says
refusal_said x h = rw h

-- ---- one answer
pub root_answer_one : (x : Float) (r s : Result Float Refusal) → said r ≡ root_says x → said s ≡ root_says x → r ≡ s
root_answer_one x r s p q = said_one r s (p ∙ sym q)
