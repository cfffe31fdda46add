-- Grid variation (document 01, module 9; document 02, Wish 5; MIL-PRF-89500B, A.2.6). Definitions only.
use Rattle.std.specs.Prelude.{cond, Float, Option, Some, None}
use Rattle.std.specs.Float.{binary32}
use Rattle.std.specs.Float.Ieee.{of_bits, neg, add, sub, le, lt, eq}
use Rattle.exact.specs.Tests.{between}
use Rattle.refusals.specs.Paper.{Paper, answered, paper, unless}
use Rattle.refusals.specs.declared.Refusal.TheVariants.{Latitude, Longitude, Unusable}

-- 55, 90, 180 and 360 degrees
abbrev pub d55 : Float
d55 = of_bits binary32 0x425c0000

abbrev pub d90 : Float
d90 = of_bits binary32 0x42b40000

abbrev pub d180 : Float
d180 = of_bits binary32 0x43340000

abbrev pub d360 : Float
d360 = of_bits binary32 0x43b40000

-- the crate's `wrap_to_180`: one step at most
unfoldable pub crate_wrapped : Float → Float
crate_wrapped x = cond (lt d180 x) (sub binary32 x d360) (cond (lt x (neg d180)) (add binary32 x d360) x)

-- `wrap_to_180`: 180 where the crate's gives -180, and all other results as it gives them
unfoldable pub wrapped : Float → Float
wrapped x = cond (eq (crate_wrapped x) (neg d180)) d180 (crate_wrapped x)

-- declination minus longitude from 55 degrees north on, plus longitude from 55 degrees south on, then a wrap; else none
unfoldable pub variation_by : (Float → Float) → Float → Float → Float → Option Float
variation_by wrap lat lon d =
    cond (le d55 lat) (Some (wrap (sub binary32 d lon)))
    (cond (le lat (neg d55)) (Some (wrap (add binary32 d lon))) None)

-- the grid variation: the wrap is `wrap_to_180`
unfoldable pub variation_of : Float → Float → Float → Option Float
unfolding variation_by
variation_of lat lon d = variation_by wrapped lat lon d

-- refusals 2, 3, 12, then the answer
unfoldable pub grid_says : Float → Float → Float → Paper (Option Float)
grid_says lat lon d =
    unless (between (neg d90) d90 lat) (paper Latitude)
    (unless (between (neg d180) d180 lon) (paper Longitude)
    (unless (between (neg d180) d180 d) (paper Unusable) (answered (variation_of lat lon d))))
