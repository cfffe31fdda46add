-- The sum in fixed point against the exact sum, over the number of terms: one law for the sine, the cosine and the arctangent. Assumes nothing.
use mathlib.Core.Path.{◌≡◌}
use Prim.Native.Nat.{ℕ, zero, suc, ◌+◌, ◌-◌, ◌*◌, ◌/◌, ◌≤◌, ◌<◌}
use native.Mathlib.Nat.{le_refl, le_trans, le_of_eq, mul-pos, mul-le-mul, mul-le-mul_left, mul-le-mul_right, add-le-add, div-mul-le_self, lt-div-mul-add, div-le_of_le-mul, le_of_mul-le-mul_right}
use native.Mathlib.Omega.{arith}
use Rattle.trig.specs.Circle.{Terms, nested}
use Rattle.trig.specs.Fixed.{step_of, in_units}
use Rattle.trig.proofs.Steps.{Over, Under, under_step, over_step}

-- How the squares are held: W units are one, z is at most Z units, and u / v at most M / L; z may be e units less than u / v
pub record Scale : Type 0 where
  pub W : ℕ
  pub Z : ℕ
  pub M : ℕ
  pub L : ℕ
  pub e : ℕ

pub record Square (c : Scale) (z u v : ℕ) : Type 0 where
  pub most : z ≤ c.Z
  pub less : c.L * u ≤ c.M * v
  pub high : z * v ≤ u * c.W
  pub low : u * c.W ≤ (z + c.e) * v

-- what the terms are to be: no term is larger than the one before it
pub record Falling (t : Terms) (c : Scale) : Type 0 where
  pub unit : 0 < c.W
  pub part : 0 < c.L
  pub some : (j : ℕ) → 0 < t.over j
  pub held : (j : ℕ) → t.times j * c.Z ≤ t.over j * c.W
  pub fall : (j : ℕ) → c.M * t.times j ≤ c.L * t.over j

-- ---- the promised distances
-- by how many units the sum in fixed point may be too high, and too low. The exact sum has as many terms, or one more
pub record Errors : Type 0 where
  pub high : ℕ
  pub low : ℕ

unfoldable pub errors : Terms → Scale → ℕ → ℕ → ℕ → Errors
errors t c zero zero j = record { high = 0; low = 0 }
errors t c (suc more) zero j = record { high = c.M * t.times j * c.W / (c.L * t.over j) + 1; low = 0 }
errors t c more (suc k) j =
    let r = errors t c more k (j + 2) in
    record {
      high = (t.times j * c.e * (c.W + r.low) + t.times j * c.Z * r.low) / (t.over j * c.W) + 3;
      low = c.M * t.times j * r.high / (c.L * t.over j) + 1;
    }

pub units_most : (t : Terms) (W k j z : ℕ) → in_units t W k j z ≤ W
unfolding in_units step_of
units_most t W zero j z = le_refl W
units_most t W (suc k) j z = omega arith

pub sum_most : (t : Terms) (k j u v : ℕ) → (nested t k j u v).top ≤ (nested t k j u v).bottom
unfolding nested
sum_most t zero j u v = le_refl 1
sum_most t (suc k) j u v = omega arith

next : (a b : ℕ) → 0 < b → a ≤ (a / b + 1) * b
next a b p = shape (a / b) (lt-div-mul-add {a = a} {b = b} p)
  where
    shape : (t : ℕ) → a < t * b + b → a ≤ (t + 1) * b
    shape t h = omega arith

module _ (t : Terms) (c : Scale) (f : Falling t c) (z u v : ℕ) (s : Square c z u v) where
  cut : (h j : ℕ) → h ≤ c.W → t.times j * z / t.over j * h / c.W ≤ c.W
  cut h j l = div-le_of_le-mul c.W (mul-le-mul (div-le_of_le-mul (t.over j) (le_trans (mul-le-mul_left (t.times j) s.most) (f.held j))) l)

  -- what the two divisions cut off
  not_less : (h j : ℕ) → t.times j * z / t.over j * h / c.W * (t.over j * c.W) ≤ t.times j * z * h
  not_less h j = shape (t.times j * z / t.over j * h / c.W) (t.times j * z / t.over j) (t.times j * z) (t.over j) c.W (div-mul-le_self (t.times j * z / t.over j * h) c.W) (div-mul-le_self (t.times j * z) (t.over j))
    where
      shape : (r q a b W : ℕ) → r * W ≤ q * h → q * b ≤ a → r * (b * W) ≤ a * h
      shape r q a b W x y = le_trans (le_of_eq (swap r b W)) (le_trans (mul-le-mul_right b x) (le_trans (le_of_eq (turn q h b)) (mul-le-mul_right h y)))
        where
          swap : (r b W : ℕ) → r * (b * W) ≡ r * W * b
          swap r b W = omega arith

          turn : (q h b : ℕ) → q * h * b ≡ q * b * h
          turn q h b = omega arith

  two_more : (h j : ℕ) → h ≤ c.W → t.times j * z * h ≤ (t.times j * z / t.over j * h / c.W + 2) * (t.over j * c.W)
  two_more h j l = shape (t.times j * z / t.over j * h / c.W) (t.times j * z / t.over j) (t.times j * z) (t.over j) c.W (next (t.times j * z / t.over j * h) c.W f.unit) (next (t.times j * z) (t.over j) (f.some j)) l
    where
      shape : (r q a b W : ℕ) → q * h ≤ (r + 1) * W → a ≤ (q + 1) * b → h ≤ W → a * h ≤ (r + 2) * (b * W)
      shape r q a b W x y l = let i = mul-le-mul_right h y in let j = mul-le-mul_right b x in let k = mul-le-mul_right b l in omega arith

  -- no difference of the exact sum is cut off at zero
  pub whole : (j p q : ℕ) → p ≤ q → t.times j * u * p ≤ t.over j * v * q
  whole j p q l = mul-le-mul (le_of_mul-le-mul_right (shape (t.times j) (t.over j) c.L c.M (mul-le-mul_left (t.times j) s.less) (mul-le-mul_right v (f.fall j))) f.part) l
    where
      shape : (a b L M : ℕ) → a * (L * u) ≤ a * (M * v) → M * a * v ≤ L * b * v → a * u * L ≤ b * v * L
      shape a b L M x y = omega arith

  under : (h j p q E F : ℕ) → h ≤ c.W → t.times j * c.e * (c.W + E) + t.times j * c.Z * E ≤ F * (t.over j * c.W)
      → Over c.W h p q E → Under c.W (step_of c.W (t.times j) (t.over j) z h) (t.over j * v * q - t.times j * u * p) (t.over j * v * q) (F + 2)
  unfolding step_of
  under h j p q E F l b d =
      under_step c.W (t.times j * z) h (t.over j) (t.times j * z / t.over j * h / c.W) 2 (t.times j * u) v p q (t.times j * c.e) E F f.unit (cut h j l) (two_more h j l)
      (le_trans (add-le-add (mul-le-mul_left (t.times j * c.e) (add-le-add l (le_refl E))) (mul-le-mul_right E (mul-le-mul_left (t.times j) s.most))) b) (times (t.times j) c.W c.e s.low) d
    where
      times : (a W e : ℕ) → u * W ≤ (z + e) * v → a * u * W ≤ (a * z + a * e) * v
      times a W e h = let x = mul-le-mul_left a h in omega arith

  over : (h j p q E F : ℕ) → h ≤ c.W → p ≤ q → c.M * t.times j * E ≤ F * (c.L * t.over j)
      → Under c.W h p q E → Over c.W (step_of c.W (t.times j) (t.over j) z h) (t.over j * v * q - t.times j * u * p) (t.over j * v * q) F
  unfolding step_of
  over h j p q E F l g b d =
      over_step c.W (t.times j * z) h (t.over j) (t.times j * z / t.over j * h / c.W) (t.times j * u) v p q E F f.unit (cut h j l) (not_less h j)
      (le_of_mul-le-mul_right (smaller (t.times j) (t.over j) c.L c.M (mul-le-mul_right (t.times j * E) s.less) (mul-le-mul_left v b)) f.part) (times (t.times j) c.W s.high) (whole j p q g) d
    where
      smaller : (a b L M : ℕ) → L * u * (a * E) ≤ M * v * (a * E) → v * (M * a * E) ≤ v * (F * (L * b)) → a * u * E * L ≤ v * (F * b) * L
      smaller a b L M x y = omega arith

      times : (a W : ℕ) → z * v ≤ u * W → a * z * v ≤ a * u * W
      times a W h = let x = mul-le-mul_left a h in omega arith

  -- one, against one less its first small term
  first : (j E : ℕ) → c.M * t.times j * c.W ≤ E * (c.L * t.over j) → Under c.W c.W (t.over j * v * 1 - t.times j * u * 1) (t.over j * v * 1) E
  first j E b = close (t.times j * u) (t.over j * v) c.W (whole j 1 1 (le_refl 1)) (le_of_mul-le-mul_right (shape (t.times j) (t.over j) c.L c.M c.W (mul-le-mul_left (t.times j * c.W) s.less) (mul-le-mul_left v b)) f.part)
    where
      shape : (a b L M W : ℕ) → a * W * (L * u) ≤ a * W * (M * v) → v * (M * a * W) ≤ v * (E * (L * b)) → a * u * W * L ≤ E * (b * v) * L
      shape a b L M W x y = omega arith

      close : (x y W : ℕ) → x * 1 ≤ y * 1 → x * W ≤ E * y → W * (y * 1) ≤ (y * 1 - x * 1) * W + E * (y * 1)
      close x y W h g = named (y - x) (omega arith) (omega arith)
        where
          named : (P : ℕ) → P + x ≡ y → y * 1 - x * 1 ≡ P → W * (y * 1) ≤ (y * 1 - x * 1) * W + E * (y * 1)
          named P e i = rw i (last P e)
            where
              last : (P : ℕ) → P + x ≡ y → W * (y * 1) ≤ P * W + E * (y * 1)
              last P e = let w : (P + x) * W ≤ y * W = mul-le-mul_right W (omega arith) in let w' : y * W ≤ (P + x) * W = mul-le-mul_right W (omega arith) in omega arith

  -- one term more on both sides
  rise : (h n j : ℕ) (r : Errors) → h ≤ c.W → Under c.W h (nested t n (j + 2) u v).top (nested t n (j + 2) u v).bottom r.high → Over c.W h (nested t n (j + 2) u v).top (nested t n (j + 2) u v).bottom r.low
      → Under c.W (step_of c.W (t.times j) (t.over j) z h) (nested t (suc n) j u v).top (nested t (suc n) j u v).bottom ((t.times j * c.e * (c.W + r.low) + t.times j * c.Z * r.low) / (t.over j * c.W) + 3)
      × Over c.W (step_of c.W (t.times j) (t.over j) z h) (nested t (suc n) j u v).top (nested t (suc n) j u v).bottom (c.M * t.times j * r.high / (c.L * t.over j) + 1)
  unfolding nested
  rise h n j r l a b = (
    two ((t.times j * c.e * (c.W + r.low) + t.times j * c.Z * r.low) / (t.over j * c.W)) _ _ _ (under h j _ _ r.low _ l (next (t.times j * c.e * (c.W + r.low) + t.times j * c.Z * r.low) (t.over j * c.W) (mul-pos (f.some j) f.unit)) b),
    over h j _ _ r.high _ l (sum_most t n (j + 2) u v) (next (c.M * t.times j * r.high) (c.L * t.over j) (mul-pos f.part (f.some j))) a,
  )
    where
      two : (F X P Q : ℕ) → X ≤ P + (F + 1 + 2) * Q → X ≤ P + (F + 3) * Q
      two F X P Q x = omega arith

  -- the sum of k + 1 terms in fixed point, against as many exact ones, and against one more
  pub same_terms : (k j : ℕ) → Under c.W (in_units t c.W k j z) (nested t k j u v).top (nested t k j u v).bottom (errors t c 0 k j).high × Over c.W (in_units t c.W k j z) (nested t k j u v).top (nested t k j u v).bottom (errors t c 0 k j).low
  unfolding in_units nested errors
  same_terms zero j = (omega arith, omega arith)
  same_terms (suc k) j = let r = same_terms k (j + 2) in rise (in_units t c.W k (j + 2) z) k j (errors t c 0 k (j + 2)) (units_most t c.W k (j + 2) z) r.0 r.1

  pub one_more : (k j : ℕ) → Under c.W (in_units t c.W k j z) (nested t (suc k) j u v).top (nested t (suc k) j u v).bottom (errors t c 1 k j).high × Over c.W (in_units t c.W k j z) (nested t (suc k) j u v).top (nested t (suc k) j u v).bottom (errors t c 1 k j).low
  unfolding in_units nested errors
  one_more zero j = (first j _ (next (c.M * t.times j * c.W) (c.L * t.over j) (mul-pos f.part (f.some j))), low (nested t 1 j u v).top (nested t 1 j u v).bottom c.W (sum_most t 1 j u v))
    where
      low : (p q W : ℕ) → p ≤ q → p * W ≤ (W + 0) * q
      low p q W h = let x = mul-le-mul_right W h in omega arith
  one_more (suc k) j = let r = one_more k (j + 2) in rise (in_units t c.W k (j + 2) z) (suc k) j (errors t c 1 k (j + 2)) (units_most t c.W k (j + 2) z) r.0 r.1
