-- What is accepted passes with the rates in the place of the coefficients, and no time passed. Assumes nothing.
use mathlib.Core.Path.{◌≡◌, refl, sym, ap, ◌∙◌}
use mathlib.Core.Bool.{true, false}
use mathlib.Core.List.{List, [], ◌∷◌}
use native.Mathlib.Omega.{arith}
use Prim.Native.Nat.{◌*◌, ◌≤◌}
use lib.Dec.{T, lit<}
use lib.IntN.{pos}
use lib.ListN.{length}
use lib.Ieee.{Float, binary32, nan, inf, fin, up, down, of_bits, le, lt, eq}
use lib.Ieee.Fits.{and_i, and_l, and_r, down_pos}
use lib.Ieee.Order.{le_of_values}
use Rattle.exact.specs.Tests.{all_capped, capped}
use Rattle.exact.proofs.Sizes.{or_le}
use Rattle.models.specs.declared.epochs.EpochOffset.{EpochOffset}
use Rattle.models.specs.Epochs.{known_epoch}
use Rattle.lists.specs.Lists.{Long, main_cap, rate_cap}
use Rattle.lists.proofs.Checked.{Listed}
use Rattle.synthesis.specs.Sum.{offset_ok}
use Rattle.field.specs.Field.{Asked, FieldAccepted}
use Rattle.field.specs.Rated.{no_time, rated}

-- the smaller cap
raised : (x : Float) → T (capped rate_cap x) → T (capped main_cap x)
unfolding capped of_bits le lt eq
raised nan t = t
raised (inf s) t = t
raised (fin s m e) t = le_of_values (fin false m e) (fin false 1 (pos 16)) (m * up e) (down e) 65536 1 (down_pos e) (lit< tt) (refl, refl) (refl, refl) (low t)
  where
    low : T (le (fin false m e) (fin false 1 (pos 12))) → m * up e * 1 ≤ 65536 * down e
    low h = let l = or_le (m * up e * 1) (1 * 4096 * down e) true h in omega arith

all_raised : (l : List Float) → T (all_capped rate_cap l) → T (all_capped main_cap l)
unfolding all_capped
all_raised [] t = tt
all_raised (x ∷ l) t = and_i (capped main_cap x) (all_capped main_cap l) (raised x (and_l (capped rate_cap x) (all_capped rate_cap l) t)) (all_raised l (and_r (capped rate_cap x) (all_capped rate_cap l) t))

pub rates_long : {g h c d : List Float} → Long g h c d → Long c d c d
rates_long {g} {h} {c} {d} l =
    let e : length d ≡ length c = l.hd_long ∙ sym l.gd_long in
    record { g_long = rw l.gd_long l.g_long; h_long = e; gd_long = refl; hd_long = e }

pub rates_listed : {g h c d : List Float} → Listed g h c d → Listed c d c d
rates_listed {g} {h} {c} {d} l = record { long = rates_long l.long; g_capped = all_raised c l.gd_capped; h_capped = all_raised d l.hd_capped; gd_capped = l.gd_capped; hd_capped = l.hd_capped }

-- 0 is from 0 to 5
pub no_time_ok : T (offset_ok (of_bits binary32 0))
unfolding offset_ok of_bits le lt eq
no_time_ok = tt

-- for a set of the day's epoch
pub rates_accepted : (q : Asked) (e : EpochOffset) → FieldAccepted q e → q.set_epoch ≡ e.epoch_year → FieldAccepted (rated q) (no_time q)
unfolding rated no_time
rates_accepted q e w s = record { height = w.height; latitude = w.latitude; longitude = w.longitude; offset = no_time_ok; known = ap known_epoch s ∙ w.known }
