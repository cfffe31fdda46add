-- The ways to a verdict in the IGRF profile. Assumes nothing.
use mathlib.Core.Path.{◌≡◌, refl, ◌∙◌}
use mathlib.Core.Bool.{true, false, ◌&&◌}
use mathlib.Core.List.{List}
use lib.Ieee.{Float}
use Rattle.refusals.specs.declared.Refusal.{Refusal}
use Rattle.refusals.specs.declared.Refusal.TheVariants.{RateAboveEight}
use Rattle.std.specs.Prelude.{Err}
use Rattle.refusals.specs.Paper.{Verdict, accepted}
use Rattle.refusals.specs.declared.ListName.TheVariants.{G, H, SecondG, SecondH}
use Rattle.refusals.proofs.Laws.{both_accepted, check_accepted}
use Rattle.exact.specs.Tests.{all_capped}
use lib.Dec.{T}
use Rattle.lists.specs.Lists.{Long, caps_by, caps_verdict, entries_verdict, lengths_verdict, lists_verdict, main_cap, rate_cap, within_of}
use Rattle.lists.specs.Profile.{forecast_verdict, pair_verdict, still}
use Rattle.lists.proofs.Checked.{Listed, caps_pass, entries_capped, lengths_long, listed, pair_caps_pass}

-- ---- g and h of two sets
module _ (g h c d : List Float) where
  pub pair_refused : (k : Refusal) → lengths_verdict g h c d ≡ Err k → Err k ≡ pair_verdict g h c d
  unfolding pair_verdict
  pair_refused k e = rw e

  module _ (e : lengths_verdict g h c d ≡ accepted) where
    pub pair_pass : within_of main_cap g h c d ≡ true → accepted ≡ pair_verdict g h c d
    unfolding pair_verdict
    pair_pass w = pair_caps_pass g h c d w ∙ rw e

    pub pair_decide : (v : Verdict) → v ≡ caps_by SecondG SecondH main_cap g h c d → v ≡ pair_verdict g h c d
    unfolding pair_verdict
    pair_decide v r = r ∙ rw e

-- ---- the four lists of a set whose rates above degree 8 are zero
module _ (g h gd hd : List Float) where
  pub forecast_refused : (k : Refusal) → lengths_verdict g h gd hd ≡ Err k → Err k ≡ forecast_verdict g h gd hd
  unfolding forecast_verdict
  forecast_refused k e = rw e

  module _ (e : lengths_verdict g h gd hd ≡ accepted) where
    pub g_moves : still gd ≡ false → Err RateAboveEight ≡ forecast_verdict g h gd hd
    unfolding forecast_verdict
    g_moves a = rw (e, a)

    module _ (a : still gd ≡ true) where
      pub h_moves : still hd ≡ false → Err RateAboveEight ≡ forecast_verdict g h gd hd
      unfolding forecast_verdict
      h_moves b = rw (e, a, b)

      module _ (b : still hd ≡ true) where
        pub forecast_pass : within_of rate_cap g h gd hd ≡ true → accepted ≡ forecast_verdict g h gd hd
        unfolding forecast_verdict
        forecast_pass w = caps_pass g h gd hd w ∙ rw (e, a, b)

        pub forecast_decide : (v : Verdict) → v ≡ caps_verdict g h gd hd → v ≡ forecast_verdict g h gd hd
        unfolding forecast_verdict
        forecast_decide v r = r ∙ rw (e, a, b)

-- ---- lists that nothing is refused of
-- g and h of two sets
pub record PairListed (g h c d : List Float) : Type 0 where
  pub long : Long g h c d
  pub g_capped : T (all_capped main_cap g)
  pub h_capped : T (all_capped main_cap h)
  pub c_capped : T (all_capped main_cap c)
  pub d_capped : T (all_capped main_cap d)

pub pair_listed : (g h c d : List Float) → pair_verdict g h c d ≡ accepted → PairListed g h c d
unfolding pair_verdict
pair_listed g h c d e =
    let u = both_accepted (lengths_verdict g h c d) _ e in
    let q1 = both_accepted (entries_verdict main_cap G 0 g) _ u.1 in
    let q2 = both_accepted (entries_verdict main_cap H 0 h) _ q1.1 in
    let q3 = both_accepted (entries_verdict main_cap SecondG 0 c) _ q2.1 in
    record {
      long = lengths_long g h c d u.0;
      g_capped = entries_capped main_cap G 0 g q1.0;
      h_capped = entries_capped main_cap H 0 h q2.0;
      c_capped = entries_capped main_cap SecondG 0 c q3.0;
      d_capped = entries_capped main_cap SecondH 0 d q3.1;
    }

-- the four of a set: what Field's own checks ask, and more
pub forecast_listed : (g h gd hd : List Float) → forecast_verdict g h gd hd ≡ accepted → Listed g h gd hd
unfolding forecast_verdict
forecast_listed g h gd hd e =
    let u = both_accepted (lengths_verdict g h gd hd) _ e in
    let w = check_accepted (still gd && still hd) RateAboveEight (caps_verdict g h gd hd) u.1 in
    listed g h gd hd (unfold lists_verdict in rw (u.0, w.1) refl)
