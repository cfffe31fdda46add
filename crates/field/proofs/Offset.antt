-- Never 11: the offset of an accepted day lies between 0 and 5. It is a whole number of years up to 4, and a part of a year.
use mathlib.Core.Path.{◌≡◌, refl, sym, ap, subst}
use Prim.Native.Nat.{ℕ, ◌+◌, ◌-◌, ◌*◌, ◌^◌, ◌≤◌, ◌<◌, zero-le}
use native.Mathlib.Nat.{le_trans, le_of_eq, zero-mul, mul-pos, mul-le-mul_right}
use native.Mathlib.Omega.{arith}
use mathlib.Core.Bool.{Bool, true, false, not}
use lib.IntN.{ℤ, pos}
use lib.Dec.{T, lit≤, lit<}
use lib.Ieee.{Float, nan, inf, fin, binary32, round, of_bits, add, sum, div, le}
use lib.Ieee.Fits.{and_i}
use lib.Ieee.Exact.{HasValue}
use lib.Ieee.Positive.{num, den, den_pos, value→cross}
use lib.Ieee.Order.{round_mono}
use lib.Ieee.Scale.{finite}
use Rattle.exact.specs.Exact.{lit}
use Rattle.exact.specs.Tests.{between}
use Rattle.roots.specs.Root.{clear}
use Rattle.roots.proofs.Signs.{clear_round}
use Rattle.models.specs.Epochs.{natural_offset}
use Rattle.models.specs.Dated.{Dated}
use Rattle.models.specs.declared.epochs.EpochOffset.{EpochOffset}
use Rattle.synthesis.specs.Sum.{offset_ok}
use Rattle.exact.proofs.Sizes.{own_over, own_size}
use Rattle.exact.proofs.Range.{holds_one, round_fit, round_null}
use Rattle.exact.proofs.Wholes.{whole_quotient, whole_value}

abbrev nought : Float
nought = fin false 0 (pos 0)

-- a finite float with its sign clear
abbrev plain : Float → Bool
plain nan = false
plain (inf s) = false
plain (fin s m e) = not s

plain_of : (x : Float) → T (finite x) → T (clear x) → T (plain x)
unfolding clear
plain_of nan f c = f
plain_of (inf s) f c = f
plain_of (fin s m e) f c = c

add_plain : (x y : Float) → T (plain x) → T (plain y) → add binary32 x y ≡ round binary32 false (num x * den y + num y * den x) (den x * den y)
unfolding add sum
add_plain nan y p q = absurd p
add_plain (inf s) y p q = absurd p
add_plain (fin true m e) y p q = absurd p
add_plain (fin false m e) nan p q = absurd q
add_plain (fin false m e) (inf t) p q = absurd q
add_plain (fin false m e) (fin true n d) p q = absurd q
add_plain (fin false m e) (fin false n d) p q = refl

has_plain : (x : Float) (a c : ℕ) → HasValue x false a c → T (plain x)
has_plain nan a c h = absurd h
has_plain (inf s) a c h = absurd h
has_plain (fin s m e) a c h = subst (λ (b : Bool). T (not b)) (sym h.0) tt

five_is : round binary32 false 5 1 ≡ fin false 5 (pos 0)
unfolding round
five_is = refl

-- k / n of a year, k ≤ n
record Part (x : Float) : Type 0 where
  clear_x : T (plain x)
  most : num x ≤ 1 * den x

part : (k n : ℕ) → k ≤ n → 0 < n → n ≤ 2 ^ 24 → Part (div binary32 (lit k) (lit n))
part k n l P h =
    let q = round binary32 false k n in
    let f = round_fit 1 1 (pos 0) false k n holds_one P (omega arith) in
    let m = f.1 in
    subst Part (sym (whole_quotient k n (le_trans l h) P h)) (record { clear_x = plain_of q f.0 (clear_round binary32 k n); most = rw (own_size q, own_over q) at m })

offset_at : (y k n : ℕ) → y ≤ 4 → k ≤ n → 0 < n → n ≤ 2 ^ 24 → T (between nought (fin false 5 (pos 0)) (add binary32 (lit y) (div binary32 (lit k) (lit n))))
offset_at y k n a l P h =
    let x = lit y in
    let q = div binary32 (lit k) (lit n) in
    let w = part k n l P h in
    let v = whole_value y (le_trans a (lit≤ tt)) in
    let e = value→cross x y 1 v in
    let t = num x * den q + num q * den x in
    let d = den x * den q in
    let D : 0 < d = mul-pos (den_pos x) (den_pos q) in
    let r = round binary32 false t d in
    let top : T (le r (fin false 5 (pos 0))) = subst (λ (z : Float). T (le r z)) five_is (round_mono binary32 t d 5 1 D (lit< tt) (go (num x) (den x) (num q) (den q) e (mul-le-mul_right (den x * den q) a) (mul-le-mul_right (den x) w.most))) in
    let bottom : T (le nought r) = subst (λ (z : Float). T (le z r)) (round_null false 0 1 refl (lit< tt)) (round_mono binary32 0 1 t d (lit< tt) D (le_trans (le_of_eq (zero-mul d)) zero-le)) in
    subst (λ (z : Float). T (between nought (fin false 5 (pos 0)) z)) (sym (add_plain x q (has_plain x y 1 v) w.clear_x)) (and_i (le nought r) (le r (fin false 5 (pos 0))) bottom top)
  where
    go : (nx dx nq dq : ℕ) → nx * 1 ≡ y * dx → y * (dx * dq) ≤ 4 * (dx * dq) → nq * dx ≤ 1 * dq * dx → (nx * dq + nq * dx) * 1 ≤ 5 * (dx * dq)
    go nx dx nq dq e h k = omega (arith, ap (λ (z : ℕ). z * dq) e)

natural : (y e d n : ℕ) → y ≤ e + 4 → 1 ≤ d → d ≤ n → n ≤ 366 → T (offset_ok (natural_offset y e d n))
unfolding offset_ok of_bits lit
natural y e d n a b c h = offset_at (y - e) (d - 1) n (omega arith) (omega arith) (omega arith) (le_trans h (lit≤ tt))

pub never_11 : {year day : ℤ} {e : EpochOffset} → Dated year day e → T (offset_ok e.offset)
never_11 {e = e} t = subst (λ (x : Float). T (offset_ok x)) (sym t.offset_is) (natural t.y t.ep t.d t.n t.until t.first t.last t.longest)
