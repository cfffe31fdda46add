-- X, Y and Z of lists at a place and a date. Definitions only.
use Rattle.std.specs.Prelude.{Float}
use Rattle.refusals.specs.Paper.{Paper, after, answered}
use Rattle.geocentric.specs.Geo.{geocentric_of, ratio_to}
use Rattle.lists.specs.declared.Lists.{Lists}
use Rattle.synthesis.specs.declared.Xyz.{Xyz}
use Rattle.synthesis.specs.Sum.{Lent, lent}
use Rattle.field.specs.declared.place.Place.{Place}
use Rattle.field.specs.Turn.{turned}

-- what Sum says of the place, by the years since the epoch, its answer in geodetic axes: with its refusal 7 (`sum_says`), or without (`uncapped_says`)
abbrev pub xyz_by : (Lent → Paper Xyz) → Place → (offset : Float) → Lists → Paper Xyz
xyz_by says p offset l =
    let q = geocentric_of p.height p.latitude.sin p.latitude.cos in
    after (says (lent q.cos_theta q.sin_theta p.longitude.sin p.longitude.cos (ratio_to q.r) offset l.g.now l.h.now l.g_dot.now l.h_dot.now)) (λ v. answered (turned v q p.latitude.sin p.latitude.cos))
