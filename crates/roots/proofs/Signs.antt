-- What a caller shows to take the root of a sum of squares: a square has its sign clear, and so has a sum of two such values. A value with its sign
-- clear is its own size. Assumes nothing.
use mathlib.Core.Path.{◌≡◌, refl}
use Prim.Native.Nat.{ℕ, zero, suc, ◌+◌, ◌*◌, ◌^◌}
use mathlib.Core.Bool.{Bool, true, false, not, cond}
use lib.Dec.{T, ltb}
use lib.Ieee.{Float, nan, inf, fin, Format, is_nan, add, mul, sum, round, units, odd, prec, low, emax}
use Rattle.exact.specs.Tests.{abs}
use Rattle.roots.specs.Root.{clear}

pub abs_clear : (x : Float) → T (clear x) → abs x ≡ x
unfolding clear
abs_clear nan c = refl
abs_clear (inf true) c = absurd c
abs_clear (inf false) c = refl
abs_clear (fin true m e) c = absurd c
abs_clear (fin false m e) c = refl

clear_odd : (d q k l : ℕ) → T (clear (odd d false q k l))
unfolding odd clear
clear_odd d zero k l = tt
clear_odd d (suc q) k l = tt

clear_cond : (b : Bool) (x y : Float) → T (clear x) → T (clear y) → T (clear (cond b x y))
clear_cond true x y p q = p
clear_cond false x y p q = q

pub clear_units : (f : Format) (q k : ℕ) → T (clear (units f false q k))
unfolding units clear
clear_units f q k = clear_cond (ltb (q * 2 ^ k) (2 ^ (low f + suc (emax f)))) (odd (suc (prec f)) false q k (low f)) (inf false) (clear_odd (suc (prec f)) q k (low f)) tt

pub clear_round : (f : Format) (a c : ℕ) → T (clear (round f false a c))
unfolding round
clear_round f a c = clear_units f _ _

pub clear_square : (f : Format) (x : Float) → T (not (is_nan x)) → T (clear (mul f x x))
unfolding mul is_nan clear
clear_square f nan p = absurd p
clear_square f (inf true) p = tt
clear_square f (inf false) p = tt
clear_square f (fin true m e) p = clear_round f _ _
clear_square f (fin false m e) p = clear_round f _ _

pub clear_add : (f : Format) (x y : Float) → T (clear x) → T (clear y) → T (clear (add f x y))
unfolding add sum clear
clear_add f nan y p q = absurd p
clear_add f (inf true) y p q = absurd p
clear_add f (inf false) nan p q = absurd q
clear_add f (inf false) (inf true) p q = absurd q
clear_add f (inf false) (inf false) p q = tt
clear_add f (inf false) (fin t n d) p q = tt
clear_add f (fin true m e) y p q = absurd p
clear_add f (fin false m e) nan p q = absurd q
clear_add f (fin false m e) (inf true) p q = absurd q
clear_add f (fin false m e) (inf false) p q = tt
clear_add f (fin false m e) (fin true n d) p q = absurd q
clear_add f (fin false m e) (fin false n d) p q = clear_round f _ _
