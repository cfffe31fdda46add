-- Sizes of places in a list or table.
use mathlib.Core.Path.{◌≡◌}
use mathlib.Core.Logic.{⊎_elim}
use Prim.Native.Nat.{ℕ, ◌+◌, ◌*◌, ◌<◌, ◌≤◌}
use native.Mathlib.Nat.{mul-le-mul}
use native.Mathlib.Omega.{arith}
use Rattle.tables.specs.Degree.{N_MAX, M_LEN, N_LEGENDRE, entries, place}
use Rattle.sums.proofs.Step.{same_or}

pub most : (n : ℕ) → n < M_LEN → n * (n + 1) ≤ N_MAX * M_LEN
most n h = mul-le-mul {n₁ = n} {m₁ = n + 1} {n₂ = N_MAX} {m₂ = M_LEN} (omega arith) (omega arith)

pub least : (n : ℕ) → 0 < n → 2 ≤ n * (n + 1)
least n h = mul-le-mul {n₁ = 1} {m₁ = 2} {n₂ = n} {m₂ = n + 1} (omega arith) (omega arith)

-- ---- against the entries of a list of degree N
bigger : (n N : ℕ) → n ≤ N → n * (n + 3) ≤ N * (N + 3)
bigger n N h = mul-le-mul {n₁ = n} {m₁ = n + 3} {n₂ = N} {m₂ = N + 3} h (omega arith)

-- the places of the degrees up to N
pub inside : (N n m : ℕ) → n ≤ N → m ≤ n → place n m ≤ entries N
inside N n m h k = omega (arith, bigger n N h)

-- those of three lanes more, which may be of the next degree
pub inside_four : (N n m : ℕ) → n ≤ N → m < n → m + 4 ≤ N → place n m + 3 ≤ entries N
inside_four N n m h k l = ⊎_elim (λ (e : n ≡ N). omega (arith, bigger n N h)) (λ e. omega (arith, bigger (n + 1) N (omega arith))) (same_or n N)

-- the tables are as long
pub in_tables : (N : ℕ) → N ≤ N_MAX → entries N < N_LEGENDRE
in_tables N h = omega (arith, bigger N N_MAX h)
