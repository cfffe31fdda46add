-- The checks of the lent lists in the IGRF profile (document 02, Wish 8). Definitions only.
use Rattle.std.specs.Prelude.{Bool, ◌&&◌, List, drop, Float}
use Rattle.std.specs.List.{list_all}
use Rattle.std.specs.Float.{binary32}
use Rattle.std.specs.Float.Ieee.{eq, of_bits}
use Rattle.refusals.specs.Paper.{Verdict, both, check}
use Rattle.refusals.specs.declared.ListName.TheVariants.{SecondG, SecondH}
use Rattle.refusals.specs.declared.Refusal.TheVariants.{RateAboveEight}
use Rattle.tables.specs.Degree.{entries}
use Rattle.lists.specs.Lists.{caps_by, caps_verdict, lengths_verdict, main_cap}

-- before 2025, of g and h of the first set and of the second: 6, 23, then 7, where the second set's lists have names of their own
unfoldable pub pair_verdict : List Float → List Float → List Float → List Float → Verdict
pair_verdict g h second_g second_h = both (lengths_verdict g h second_g second_h) (caps_by SecondG SecondH main_cap g h second_g second_h)

-- every entry is a zero, of either sign
abbrev pub all_zero : List Float → Bool
all_zero l = list_all (λ x. eq x (of_bits binary32 0)) l

-- the rates above degree 8 are zero
abbrev pub still : List Float → Bool
still l = all_zero (drop (entries 8) l)

-- from 2025 on: 6, 23, 22, then 7
unfoldable pub forecast_verdict : List Float → List Float → List Float → List Float → Verdict
forecast_verdict g h g_dot h_dot = both (lengths_verdict g h g_dot h_dot) (check (still g_dot && still h_dot) RateAboveEight (caps_verdict g h g_dot h_dot))
