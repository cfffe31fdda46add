-- The checks of Sum's numbers: the ways to a verdict, and what it says of the numbers. Assumes nothing.
use mathlib.Core.Path.{◌≡◌}
use mathlib.Core.Bool.{true, false}
use lib.Dec.{T}
use lib.Ieee.{Float}
use Rattle.exact.specs.Tests.{circle}
use Rattle.refusals.specs.declared.Refusal.TheVariants.{Colatitude, Longitude, Ratio, Offset}
use Rattle.std.specs.Prelude.{Err}
use Rattle.refusals.specs.Paper.{Verdict, accepted}
use Rattle.refusals.proofs.Laws.{check_accepted}
use Rattle.lists.proofs.Checked.{holds, same}
use Rattle.synthesis.specs.Sum.{numbers_verdict, offset_ok, ratio_ok}

-- ---- the numbers
module _ (ct st sl cl ratio offset : Float) where
  pub bad_colatitude : circle st ct ≡ false → Err Colatitude ≡ numbers_verdict ct st sl cl ratio offset
  unfolding numbers_verdict
  bad_colatitude e = rw e

  module _ (e : circle st ct ≡ true) where
    pub bad_longitude : circle sl cl ≡ false → Err Longitude ≡ numbers_verdict ct st sl cl ratio offset
    unfolding numbers_verdict
    bad_longitude f = rw (e, f)

    module _ (f : circle sl cl ≡ true) where
      pub bad_ratio : ratio_ok ratio ≡ false → Err Ratio ≡ numbers_verdict ct st sl cl ratio offset
      unfolding numbers_verdict
      bad_ratio g = rw (e, f, g)

      module _ (g : ratio_ok ratio ≡ true) where
        pub bad_offset : offset_ok offset ≡ false → Err Offset ≡ numbers_verdict ct st sl cl ratio offset
        unfolding numbers_verdict
        bad_offset h = rw (e, f, g, h)

        pub good_numbers : offset_ok offset ≡ true → accepted ≡ numbers_verdict ct st sl cl ratio offset
        unfolding numbers_verdict
        good_numbers h = rw (e, f, g, h)

  -- numbers that nothing is refused of
  pub numbered : numbers_verdict ct st sl cl ratio offset ≡ accepted → T (circle st ct) × T (circle sl cl) × T (ratio_ok ratio) × T (offset_ok offset)
  unfolding numbers_verdict
  numbered e =
      let a = check_accepted (circle st ct) Colatitude _ e in
      let b = check_accepted (circle sl cl) Longitude _ a.1 in
      let c = check_accepted (ratio_ok ratio) Ratio _ b.1 in
      let d = check_accepted (offset_ok offset) Offset _ c.1 in
      (holds a.0, holds b.0, holds c.0, holds d.0)

  -- as a call tells it
  pub on_circle : (v : Verdict) → v ≡ numbers_verdict ct st sl cl ratio offset → v ≡ accepted → T (circle st ct)
  on_circle v r e = (numbered (same r e)).0
