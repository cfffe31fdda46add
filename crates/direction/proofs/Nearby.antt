-- The angle of a point as another fraction that lies beside the first. Assumes nothing.
use mathlib.Core.Path.{◌≡◌, sym, ap}
use Prim.Native.Nat.{ℕ, ◌+◌, ◌-◌, ◌*◌, ◌≤◌, ◌<◌}
use native.Mathlib.Nat.{le_of_eq, mul-le-mul_right}
use native.Mathlib.Omega.{arith}
use mathlib.Core.Bool.{Bool, true, false}
use lib.Dec.{lit≤}
use Rattle.trig.proofs.Fractions.{Beside, beside_about}
use Rattle.direction.specs.Arc.{coarse, Quadrant, HalfTurn}

-- h / c degrees lie beside g / b degrees, and on the same side of each whole degree up to 180
pub record Nearby (g b h c : ℕ) : Type 0 where
  pub beside : Beside coarse g b h c
  pub most : (w : ℕ) → w ≤ 180 → g ≤ w * b → h ≤ w * c
  pub least : (w : ℕ) → w ≤ 180 → w * b ≤ g → w * c ≤ h

-- the distance from w whole degrees
module _ (t g b h c w : ℕ) (s : Beside t g b h c) where
  pub under : g ≤ w * b → h ≤ w * c → Beside t (w * b - g) b (w * c - h) c
  under k l = go (w * b - g) (w * c - h) (omega arith) (omega arith)
    where
      go : (x y : ℕ) → x + g ≡ w * b → y + h ≡ w * c → Beside t x b y c
      go x y e f =
          let i : 2 * t * ((x + g) * c) ≡ 2 * t * (w * b * c) = ap (λ (z : ℕ). 2 * t * (z * c)) e in
          let j : 2 * t * ((y + h) * b) ≡ 2 * t * (w * c * b) = ap (λ (z : ℕ). 2 * t * (z * b)) f in
          record { up = omega arith; down = omega arith }

  pub over : w * b ≤ g → w * c ≤ h → Beside t (g - w * b) b (h - w * c) c
  over k l = go (g - w * b) (h - w * c) (omega arith) (omega arith)
    where
      go : (x y : ℕ) → x + w * b ≡ g → y + w * c ≡ h → Beside t x b y c
      go x y e f =
          let i : 2 * t * ((x + w * b) * c) ≡ 2 * t * (g * c) = ap (λ (z : ℕ). 2 * t * (z * c)) e in
          let j : 2 * t * ((y + w * c) * b) ≡ 2 * t * (h * b) = ap (λ (z : ℕ). 2 * t * (z * b)) f in
          record { up = omega arith; down = omega arith }

module _ (X Y g b h c : ℕ) (p : 0 < b) (s : Nearby g b h c) where
  same : (w : ℕ) → w ≤ 180 → g ≡ w * b → h ≡ w * c
  same w l e = let x = s.most w l (le_of_eq e) in let y = s.least w l (omega arith) in omega arith

  pub near_quadrant : Quadrant (2 * coarse) X Y g b → Quadrant coarse X Y h c
  near_quadrant q =
      record {
        most = s.most 90 (lit≤ tt) q.most;
        from0 = λ i. beside_about coarse g b h c p s.beside (q.from0 i);
        to45 = λ i k. let r = q.to45 i k in let m = s.most 45 (lit≤ tt) r.0 in (m, beside_about coarse (45 * b - g) b (45 * c - h) c p (under coarse g b h c 45 s.beside r.0 m) r.1);
        from45 = λ i k. let r = q.from45 i k in let m = s.least 45 (lit≤ tt) r.0 in (m, beside_about coarse (g - 45 * b) b (h - 45 * c) c p (over coarse g b h c 45 s.beside r.0 m) r.1);
        to90 = λ i. let m = s.most 90 (lit≤ tt) q.most in beside_about coarse (90 * b - g) b (90 * c - h) c p (under coarse g b h c 90 s.beside q.most m) (q.to90 i);
        half = λ i. same 45 (lit≤ tt) (q.half i);
        right = λ i. same 90 (lit≤ tt) (q.right i);
      }

-- 180 degrees less both
turned : (g b h c : ℕ) → g ≤ 180 * b → h ≤ 180 * c → Nearby g b h c → Nearby (180 * b - g) b (180 * c - h) c
turned g b h c k l s =
    record {
      beside = under coarse g b h c 180 s.beside k l;
      most = λ w i j. high w i (s.least (180 - w) (omega arith) (low w i j));
      least = λ w i j. low' w i (s.most (180 - w) (omega arith) (high' w i j));
    }
  where
    split : (w x : ℕ) → w ≤ 180 → (180 - w) * x + w * x ≡ 180 * x
    split w x i = go (180 - w) (omega arith)
      where
        go : (v : ℕ) → v + w ≡ 180 → v * x + w * x ≡ 180 * x
        go v e = let m : (v + w) * x ≤ 180 * x = mul-le-mul_right x (le_of_eq e) in let n : 180 * x ≤ (v + w) * x = mul-le-mul_right x (le_of_eq (sym e)) in omega arith

    low : (w : ℕ) → w ≤ 180 → 180 * b - g ≤ w * b → (180 - w) * b ≤ g
    low w i j = let m = split w b i in omega arith

    high : (w : ℕ) → w ≤ 180 → (180 - w) * c ≤ h → 180 * c - h ≤ w * c
    high w i j = let m = split w c i in omega arith

    high' : (w : ℕ) → w ≤ 180 → w * b ≤ 180 * b - g → g ≤ (180 - w) * b
    high' w i j = let m = split w b i in omega arith

    low' : (w : ℕ) → w ≤ 180 → h ≤ (180 - w) * c → w * c ≤ 180 * c - h
    low' w i j = let m = split w c i in omega arith

pub near_turn : (left : Bool) (X Y g b h c : ℕ) → 0 < b → Nearby g b h c → HalfTurn (2 * coarse) left X Y g b → HalfTurn coarse left X Y h c
near_turn false X Y g b h c p s q = near_quadrant X Y g b h c p s q
near_turn true X Y g b h c p s q = let m = s.most 180 (lit≤ tt) q.0 in (m, near_quadrant X Y (180 * b - g) b (180 * c - h) c p (turned g b h c q.0 m s) q.1)
