-- One step of the code against one step of the exact sum. Assumes nothing.
use mathlib.Core.Path.{◌≡◌, ap, ◌∙◌}
use Prim.Native.Nat.{ℕ, ◌+◌, ◌-◌, ◌*◌, ◌≤◌, ◌<◌}
use native.Mathlib.Nat.{le_trans, le_of_eq, mul_comm, mul-le-mul, mul-le-mul_right, le_of_mul-le-mul_right, add-le-add}
use native.Mathlib.Omega.{arith}

-- p / q is at most E units above h; h is at most E units above p / q. W units are one.
abbrev pub Over : ℕ → ℕ → ℕ → ℕ → ℕ → Type 0
Over W h p q E = p * W ≤ (h + E) * q

abbrev pub Under : ℕ → ℕ → ℕ → ℕ → ℕ → Type 0
Under W h p q E = h * q ≤ p * W + E * q

id1 : (u W p : ℕ) → u * p * W * W ≡ u * W * (p * W)
id1 u W p = omega arith

id2 : (z e v h E q : ℕ) → (z + e) * v * ((h + E) * q) ≡ (z * h + (e * (h + E) + z * E)) * (v * q)
id2 z e v h E q = omega arith

id3 : (t c F n W v q : ℕ) → ((t + c) * (n * W) + F * (n * W)) * (v * q) ≡ (t + c + F) * (n * v * q) * W
id3 t c F n W v q = omega arith

under_mid : (W z h n t c u v p q e E F : ℕ) → 0 < W → z * h ≤ (t + c) * (n * W) → e * (h + E) + z * E ≤ F * (n * W)
    → u * W ≤ (z + e) * v → p * W ≤ (h + E) * q → u * p * W ≤ (t + c + F) * (n * v * q)
under_mid W z h n t c u v p q e E F w a b g d =
    le_of_mul-le-mul_right
    (le_trans (le_of_eq (id1 u W p)) (le_trans (mul-le-mul g d) (le_trans (le_of_eq (id2 z e v h E q)) (le_trans (mul-le-mul_right (v * q) (add-le-add a b)) (le_of_eq (id3 t c F n W v q)))))) w

-- the new h from above; t is up to c units too small
pub under_step : (W z h n t c u v p q e E F : ℕ) → 0 < W → t ≤ W → z * h ≤ (t + c) * (n * W) → e * (h + E) + z * E ≤ F * (n * W)
    → u * W ≤ (z + e) * v → Over W h p q E → Under W (W - t) (n * v * q - u * p) (n * v * q) (F + c)
under_step W z h n t c u v p q e E F w tw a b g d = close W (W - t) t (n * v * q) (u * p) (n * v * q - u * p) F (omega arith) (omega arith) (under_mid W z h n t c u v p q e E F w a b g d)
  where
    one : (h' t Q : ℕ) → (h' + t) * Q ≡ h' * Q + t * Q
    one h' t Q = omega arith

    close : (W h' t Q x P F : ℕ) → h' + t ≡ W → Q ≤ P + x → x * W ≤ (t + c + F) * Q → h' * Q ≤ P * W + (F + c) * Q
    close W h' t Q x P F e f g =
        let i : Q * W ≤ (P + x) * W = mul-le-mul_right W f in
        let j : (h' + t) * Q ≡ Q * W = ap (λ (y : ℕ). y * Q) e ∙ mul_comm W Q in
        omega arith

id4 : (t n W v q : ℕ) → t * (n * v * q) * W ≡ t * (n * W) * (v * q)
id4 t n W v q = omega arith

id5 : (z h v q : ℕ) → z * h * (v * q) ≡ z * v * (h * q)
id5 z h v q = omega arith

over_mid : (W z h n t u v p q E F : ℕ) → 0 < W → t * (n * W) ≤ z * h → u * E ≤ v * (F * n)
    → z * v ≤ u * W → h * q ≤ p * W + E * q → t * (n * v * q) ≤ u * p * W + F * (n * v * q)
over_mid W z h n t u v p q E F w a b c d =
    le_of_mul-le-mul_right
    (le_trans (le_of_eq (id4 t n W v q)) (le_trans (mul-le-mul_right (v * q) a) (le_trans (le_of_eq (id5 z h v q)) (le_trans (mul-le-mul c d) (last u W p E q F n v b))))) w
  where
    last : (u W p E q F n v : ℕ) → u * E ≤ v * (F * n) → u * W * (p * W + E * q) ≤ (u * p * W + F * (n * v * q)) * W
    last u W p E q F n v x =
        let y : u * E * (W * q) ≤ v * (F * n) * (W * q) = mul-le-mul_right (W * q) x in
        omega arith

-- the new h from below
pub over_step : (W z h n t u v p q E F : ℕ) → 0 < W → t ≤ W → t * (n * W) ≤ z * h → u * E ≤ v * (F * n)
    → z * v ≤ u * W → u * p ≤ n * v * q → Under W h p q E → Over W (W - t) (n * v * q - u * p) (n * v * q) F
over_step W z h n t u v p q E F w tw a b c s d = close W (W - t) t (n * v * q) (u * p) (n * v * q - u * p) F (omega arith) (omega arith) (over_mid W z h n t u v p q E F w a b c d)
  where
    close : (W h' t Q x P F : ℕ) → h' + t ≡ W → P + x ≡ Q → t * Q ≤ x * W + F * Q → P * W ≤ (h' + F) * Q
    close W h' t Q x P F e f g =
        let i : (P + x) * W ≡ Q * W = ap (λ (y : ℕ). y * W) f in
        let j : (h' + t) * Q ≡ W * Q = ap (λ (y : ℕ). y * Q) e in
        omega arith
