-- `floor_root` and `nearest_root` are what they say, and the whole number nearest to a root is one only. Assumes nothing.
use mathlib.Core.Path.{◌≡◌, refl, ap, ◌∙◌, subst₂}
use mathlib.Core.Bool.{Bool, true, false, cond}
use Prim.Native.Nat.{ℕ, zero, suc, ◌+◌, ◌-◌, ◌*◌, ◌/◌, ◌%◌, ◌^◌, ◌≤◌, ◌<◌}
use native.Mathlib.Nat.{mul-le-mul_right, mul-le-mul_left, add-mul, mul-add, mul-mul-mul_comm, pow-succ'}
use native.Mathlib.Omega.{arith}
use lib.Dec.{ltb}
use borrow.Author.Tests.{ltb-true, ltb-false, eq-eqb, ne_eqb}
use Rattle.roots.specs.Root.{floor_root, nearest_root}
use Rattle.roots.specs.Parts.{Nearest, spread, shift, Packed}
use Rattle.roots.proofs.Squares.{square_next}

-- r is the root of n without its fraction
pub record Floor (n r : ℕ) : Type 0 where
  pub low : r * r ≤ n
  pub high : n < (r + 1) * (r + 1)

-- 2 * s, or the next number
step : (n s : ℕ) → Floor (n / 4) s → (b : Bool) → ltb n ((2 * s + 1) * (2 * s + 1)) ≡ b → Floor n (cond b (2 * s) (2 * s + 1))
step n s f true e =
    let l = f.low in
    record { low = omega (arith, mul-mul-mul_comm 2 s 2 s); high = ltb-true n ((2 * s + 1) * (2 * s + 1)) e }
step n s f false e =
    let h = f.high in
    record { low = ltb-false n ((2 * s + 1) * (2 * s + 1)) e; high = omega (arith, square_next s, square_next (2 * s + 1), square_next (2 * s), mul-mul-mul_comm 2 s 2 s) }

pub floor_root_lem : (k n : ℕ) → n < 4 ^ k → Floor n (floor_root k n)
unfolding floor_root
floor_root_lem zero n h = record { low = omega arith; high = omega arith }
floor_root_lem (suc k) n h = step n (floor_root k (n / 4)) (floor_root_lem k (n / 4) (omega (arith, pow-succ' 4 k))) _ refl

-- ---- nearest
-- q is nearest to the root of n, as in `Nearest`, with no bound on q
pub record Rounded (n q : ℕ) : Type 0 where
  pub above : q * q < n + q
  pub below : n ≤ q * q + q

strict : (n r : ℕ) → 0 < n → r * r ≤ n → r * r < n + r
strict n zero p l = omega arith
strict n (suc r) p l = omega arith

rounded : (n r : ℕ) → 0 < n → Floor n r → (b : Bool) → ltb (r * r + r) n ≡ b → Rounded n (cond b (r + 1) r)
rounded n r p f true e =
    let l = f.low in
    let h = f.high in
    let k : r * r + r < n = ltb-true (r * r + r) n e in
    record { above = omega (arith, square_next r); below = omega (arith, square_next r) }
rounded n r p f false e =
    let l = f.low in
    let h = f.high in
    let k : n ≤ r * r + r = ltb-false (r * r + r) n e in
    record { above = strict n r p l; below = k }

pub nearest_root_lem : (n : ℕ) → 0 < n → n < 4 ^ 24 → Rounded n (nearest_root n)
unfolding nearest_root
nearest_root_lem n p h = rounded n (floor_root 24 n) p (floor_root_lem 24 n h) _ refl

-- ---- one only
not_less : (n p q : ℕ) → n ≤ p * p + p → q * q < n + q → p < q → ⊥
not_less n p q h k l =
    let m : p + 1 ≤ q = omega arith in
    omega (arith, mul-le-mul_right q m, add-mul p 1 q, mul-le-mul_left p m, mul-add p p 1)

pub near_one : (n p q : ℕ) → Rounded n p → Rounded n q → p ≡ q
near_one n p q f g =
    let a : p < q → ⊥ = not_less n p q f.below g.above in
    let b : q < p → ⊥ = not_less n q p g.below f.above in
    omega arith

-- the same with 24 digits
pub near_is : (n q : ℕ) → Nearest n q → 0 < n → n < 4 ^ 24 → q ≡ nearest_root n
near_is n q h p k = near_one n q (nearest_root n) (record { above = h.above; below = h.below }) (nearest_root_lem n p k)

-- ---- with 24 digits
pub nearest_is : (n : ℕ) → 2 ^ 46 ≤ n → n ≤ 2 ^ 48 - 2 ^ 24 → Nearest n (nearest_root n)
nearest_is n h k = go (nearest_root n) (nearest_root_lem n (omega arith) (omega arith))
  where
    go : (q : ℕ) → Rounded n q → Nearest n q
    go q f =
        let a = f.above in
        let b = f.below in
        let c : q < 2 ^ 23 → ⊥ = λ l. (let m : q + 1 ≤ 2 ^ 23 = omega arith in omega (arith, mul-le-mul_left q m, mul-add q q 1)) in
        let d : 2 ^ 24 ≤ q → ⊥ = λ l. omega (arith, mul-le-mul_right q l) in
        record { least = omega arith; most = omega arith; above = a; below = b }

-- ---- the root of m * 2 ^ (f - 214), packed
pub spread_even : (m f : ℕ) → f % 2 ≡ 0 → m * 2 ^ 24 ≡ spread m f
spread_even m f e = rw (eq-eqb (f % 2) 0 e)

pub spread_odd : (m f : ℕ) → (f % 2 ≡ 0 → ⊥) → m * 2 ^ 23 ≡ spread m f
spread_odd m f e = rw (ne_eqb (f % 2) 0 e)

pub packed : (m f n q : ℕ) → n ≡ spread m f → Nearest n q → 0 < n → n < 4 ^ 24 → Packed m f (shift f * 2 ^ 23 + q)
packed m f n q e h p k =
    let i : q ≡ nearest_root (spread m f) = near_is n q h p k ∙ ap nearest_root e in
    record { near = subst₂ Nearest e i h; is = ap (λ (x : ℕ). shift f * 2 ^ 23 + x) i }
