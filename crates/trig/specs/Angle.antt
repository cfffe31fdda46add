-- What the pair of an f32 of degrees is, from -180 to 180. Definitions only.
use Rattle.std.specs.Prelude.{ℕ, ◌-◌, ◌*◌, ◌≤◌, ◌<◌, ◌≡◌, Bool, true, false, T, Float, Result, IfOk}
use Rattle.std.specs.Float.{nan, inf, fin}
use Rattle.std.specs.Float.Ieee.{up, down}
use Rattle.exact.specs.Tests.{circle}
use Rattle.refusals.specs.declared.Refusal.{Refusal}
use Rattle.trig.specs.Circle.{IsSine, IsCosine}
use Rattle.trig.specs.declared.Pair.{Pair}

-- r has the sign s, and in size it is the sine of n / d degrees within 2 ^ -22, for n / d from 0 to 45: exactly 0 at 0. And so for the cosine: exactly 1 at 0.
abbrev pub SineOf : Bool → ℕ → ℕ → Float → Type 0
SineOf s n d nan = ⊥
SineOf s n d (inf t) = ⊥
SineOf s n d (fin t m e) = (t ≡ s) × IsSine n d (m * up e) (down e) × (n ≡ 0 → m ≡ 0)

abbrev pub CosineOf : Bool → ℕ → ℕ → Float → Type 0
CosineOf s n d nan = ⊥
CosineOf s n d (inf t) = ⊥
CosineOf s n d (fin t m e) = (t ≡ s) × IsCosine n d (m * up e) (down e) × (n ≡ 0 → m * up e ≡ down e)

-- (sin, cos) of ± n / d degrees, s being the sign, by the angle from the nearest of 0, 90 and 180 degrees
pub record Turned (s : Bool) (n d : ℕ) (p : Pair) : Type 0 where
  pub to45 : n ≤ 45 * d → SineOf s n d p.sine × CosineOf false n d p.cosine
  pub to90 : 45 * d < n → n ≤ 90 * d → CosineOf s (90 * d - n) d p.sine × SineOf false (90 * d - n) d p.cosine
  pub to135 : 90 * d < n → n ≤ 135 * d → CosineOf s (n - 90 * d) d p.sine × SineOf true (n - 90 * d) d p.cosine
  pub to180 : 135 * d < n → n ≤ 180 * d → SineOf s (180 * d - n) d p.sine × CosineOf true (180 * d - n) d p.cosine

-- of a finite float of degrees
abbrev pub TurnedAt : Float → Pair → Type 0
TurnedAt nan p = ⊥
TurnedAt (inf s) p = ⊥
TurnedAt (fin s m e) p = Turned s (m * up e) (down e) p

-- what a made pair is: the sine and the cosine of x degrees
abbrev pub PairOf : Float → Result Pair Refusal → Type 0
PairOf x r = IfOk r (TurnedAt x)

-- a made pair passes the circle test
abbrev pub OnCircle : Result Pair Refusal → Type 0
OnCircle r = IfOk r (λ p. T (circle p.sine p.cosine))
