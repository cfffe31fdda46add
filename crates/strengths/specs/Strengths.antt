-- The strengths over a field record (document 01, module 9; WMM2025 TR, sections 1.8 and 3.4). Definitions only.
use Rattle.std.specs.Prelude.{Bool, ◌&&◌, cond, List, ℤ, Float, Option, Some, None}
use Rattle.std.specs.Float.{binary32}
use Rattle.std.specs.Float.Ieee.{of_bits, add, mul, div, lt}
use Rattle.exact.specs.Tests.{capped}
use Rattle.roots.specs.Root.{sqrt_of}
use Rattle.refusals.specs.Paper.{Paper, answered, paper, unless, after}
use Rattle.refusals.specs.declared.Refusal.TheVariants.{Unusable}
use Rattle.models.specs.declared.errors.WmmErrorModel.{WmmErrorModel}
use Rattle.models.specs.declared.records.ErrorRecord.{ErrorRecord}
use Rattle.models.specs.Records.{listed_errors}
use Rattle.models.specs.Errors.{error_says}
use Rattle.strengths.specs.declared.GeomagneticField.{GeomagneticField}
use Rattle.strengths.specs.declared.WarningZone.{WarningZone}
use Rattle.strengths.specs.declared.WarningZone.TheVariants.{Blackout, Caution}

-- the largest size of a component: 2 ^ 60
abbrev pub max_component : Float
max_component = of_bits binary32 0x5d800000

-- finite, and at most that in size: each of X, Y and Z
unfoldable pub usable : GeomagneticField → Bool
usable v = capped max_component v.x && capped max_component v.y && capped max_component v.z

-- a record of three components alone; no strength reads its error figures
abbrev pub bare : Float → Float → Float → GeomagneticField
bare x y z =
    let o = of_bits binary32 0 in
    record {
      x = x;
      y = y;
      z = z;
      error = record { declination_sigma_c = o; declination_sigma_v = o; inclination = o; f = o; h = o; x = o; y = o; z = o };
    }

-- the root of a·a + b·b, each operation rounded once
abbrev pub hypot_of : Float → Float → Float
hypot_of a b = sqrt_of (add binary32 (mul binary32 a a) (mul binary32 b b))

-- H is the root of X-as-X + Y-as-Y
unfoldable pub h_of : GeomagneticField → Float
h_of v = hypot_of v.x v.y

-- F is the root of H-as-H + Z-as-Z
unfoldable pub f_of : GeomagneticField → Float
f_of v = hypot_of (h_of v) v.z

-- refusal 12, or the strength
unfoldable pub strength_says : GeomagneticField → Float → Paper Float
strength_says v x = unless (usable v) (paper Unusable) (answered x)

-- H strictly below 2000 is Blackout, else strictly below 6000 Caution, else no zone
unfoldable pub zone_of : Float → Option WarningZone
zone_of h = cond (lt h (of_bits binary32 0x44fa0000)) (Some Blackout) (cond (lt h (of_bits binary32 0x45bb8000)) (Some Caution) None)

-- refusal 12, or the zone
unfoldable pub zone_says : GeomagneticField → Paper (Option WarningZone)
zone_says v = unless (usable v) (paper Unusable) (answered (zone_of (h_of v)))

-- u if below 180, else 180
unfoldable pub clamped : Float → Float
clamped u = cond (lt u (of_bits binary32 0x43340000)) u (of_bits binary32 0x43340000)

-- the root of σ_c·σ_c + (σ_v / H)·(σ_v / H) if below 180, else 180
abbrev pub uncertainty_of : WmmErrorModel → Float → Float
uncertainty_of m h = clamped (hypot_of m.declination_sigma_c (div binary32 m.declination_sigma_v h))

-- what refuses the figures, then refusal 12, or the uncertainty with those figures
unfoldable pub uncertainty_with : Paper WmmErrorModel → GeomagneticField → Paper Float
uncertainty_with figures v = after figures (λ m. unless (usable v) (paper Unusable) (answered (uncertainty_of m (h_of v))))

-- with the built-in figures of the year: refusal 5, then 12
unfoldable pub uncertainty_says : GeomagneticField → ℤ → Paper Float
uncertainty_says v year = uncertainty_with (error_says year) v

-- with the figures of a lent list: refusal 15, or 12 of the figures, then 12 of the record
unfoldable pub listed_uncertainty : GeomagneticField → List ErrorRecord → ℤ → Paper Float
listed_uncertainty v rs year = uncertainty_with (listed_errors rs year) v
