-- Which refusals Field in degrees never ends in: after 16 never 3, and 2 only for a latitude beyond ±90 degrees. Assumes nothing.
use Rattle.refusals.specs.Paper.{answered, unless, after, told, check, both}
use Rattle.refusals.specs.Paper.{accepted as nothing_refused}
use mathlib.Core.Path.{◌≡◌, sym, subst}
use mathlib.Core.Bool.{Bool, true, false, cond}
use mathlib.Core.List.{List, [], ◌∷◌}
use Prim.Native.Nat.{ℕ, suc, ◌+◌, ◌*◌, ◌≤◌}
use native.Mathlib.Omega.{arith}
use lib.Dec.{T, lit≤}
use lib.IntN.{ℤ}
use lib.Ieee.{Float, nan, inf, fin, binary32, of_bits, fits, le, lt, eq, neg, up, down}
use lib.Ieee.Bits.{is_true}
use lib.Ieee.Fits.{down_pos, and_i}
use borrow.Author.Tests.{lt-ltb}
use lib.Ieee.Scale.{finite}
use Rattle.exact.specs.Exact.{own}
use Rattle.exact.specs.Tests.{circle, between, capped}
use Rattle.exact.proofs.Sizes.{AtMost, between_size}
use Rattle.refusals.specs.declared.ListName.{ListName}
use Rattle.refusals.specs.declared.ListName.TheVariants.{G, H, GDot, HDot}
use Rattle.refusals.specs.declared.Refusal.TheVariants.{Latitude, Longitude, DayOfYear, Length, Coefficient, Degree, OtherEpoch, Unusable, Angle}
use Rattle.refusals.proofs.Never.{Never, Passes, never_unless, never_told, never_after, passes_check, passes_true, passes_both}
use Rattle.models.specs.declared.epochs.EpochOffset.{EpochOffset}
use Rattle.models.specs.declared.records.ErrorRecord.{ErrorRecord}
use Rattle.models.specs.Epochs.{unknown_epoch, wrong_epoch, epoch_says, day_exists, known_epoch, epoch_year_of, epoch_offset, same_year}
use Rattle.models.specs.Errors.{built_in, error_says}
use Rattle.models.specs.Records.{figures_ok, figures_says, listed_errors}
use Rattle.geocentric.specs.Geo.{height_ok, latitude_ok, beyond_pole}
use Rattle.lists.specs.Lists.{all_whole, entries_verdict, caps_verdict, lengths_verdict, lists_verdict, one_degree, main_cap, rate_cap}
use Rattle.strengths.specs.Grid.{d90}
use Rattle.trig.specs.declared.Pair.{Pair}
use Rattle.trig.specs.Angle.{TurnedAt}
use Rattle.trig.specs.Fixed.{accepted, pair_at, sine_says}
use Rattle.trig.proofs.Laws.{made_pair, turned_at, pair_on_circle, cosine_plus}
use Rattle.field.specs.Field.{Asked, outside_height, place_verdict, shown_says, dated_says, components_says, record_of, field_with, field_says, strengths_of}
use Rattle.degrees.specs.Degrees.{Place, paired, degrees_says}

-- ---- after the place Field's refusals are 4 and above
module _ (n : ℕ) (l : n ≤ 3) where
  later : (m : ℕ) → 4 ≤ m → m ≡ n → ⊥
  later m h e = omega arith

  entries_pass : (cap : Float) (k : ListName) (i : ℕ) (xs : List Float) → Passes n (entries_verdict cap k i xs)
  unfolding entries_verdict
  entries_pass cap k i [] = tt
  entries_pass cap k i (x ∷ xs) = passes_check n (capped cap x) (Coefficient k i) (entries_verdict cap k (suc i) xs) (later 7 (lit≤ tt)) (entries_pass cap k (suc i) xs)

  lists_pass : (g h gd hd : List Float) → Passes n (lists_verdict g h gd hd)
  unfolding lists_verdict lengths_verdict
  lists_pass g h gd hd =
      let c = entries_verdict rate_cap GDot 0 gd in
      let d = entries_verdict rate_cap HDot 0 hd in
      let b = entries_verdict main_cap H 0 h in
      passes_both n (lengths_verdict g h gd hd) (caps_verdict g h gd hd)
      (passes_check n (all_whole g h gd hd) Length (check (one_degree g h gd hd) Degree nothing_refused) (later 6 (lit≤ tt)) (passes_check n (one_degree g h gd hd) Degree nothing_refused (later 23 (lit≤ tt)) tt))
      (passes_both n (entries_verdict main_cap G 0 g) (both b (both c d)) (entries_pass main_cap G 0 g) (passes_both n b (both c d) (entries_pass main_cap H 0 h) (passes_both n c d (entries_pass rate_cap GDot 0 gd) (entries_pass rate_cap HDot 0 hd))))

  dated_never : (a : Asked) (e : EpochOffset) → Never n (dated_says a e)
  unfolding dated_says shown_says
  dated_never a e =
      let u = lists_verdict a.g a.h a.g_dot a.h_dot in
      let s = shown_says a.set_epoch e.epoch_year (strengths_of a e) in
      never_unless n (known_epoch a.set_epoch) unknown_epoch (told u s) (later 5 (lit≤ tt))
      (never_told n u s (lists_pass a.g a.h a.g_dot a.h_dot) (never_unless n (same_year a.set_epoch e.epoch_year) (OtherEpoch e.epoch_year a.set_epoch) (answered (strengths_of a e)) (later 8 (lit≤ tt)) tt))

  listed_never : (rs : List ErrorRecord) (year : ℤ) → Never n (listed_errors rs year)
  unfolding listed_errors figures_says
  listed_never [] year = later 15 (lit≤ tt)
  listed_never (r ∷ rs) year = go (same_year year r.epoch_year) (listed_never rs year)
    where
      go : (b : Bool) → Never n (listed_errors rs year) → Never n (cond b (figures_says r.figures) (listed_errors rs year))
      go true h = never_unless n (figures_ok r.figures) Unusable (answered r.figures) (later 12 (lit≤ tt)) tt
      go false h = h

  figures_never : (year : ℤ) → Never n (error_says year)
  unfolding error_says
  figures_never year = never_unless n (known_epoch year) unknown_epoch (listed_errors built_in year) (later 5 (lit≤ tt)) (listed_never built_in year)

  day_never : (year day : ℤ) → Never n (epoch_says year day)
  unfolding epoch_says
  day_never year day =
      let e = answered (epoch_offset year day) in
      never_unless n (day_exists year day) DayOfYear (unless (known_epoch (epoch_year_of year)) wrong_epoch e) (later 4 (lit≤ tt)) (never_unless n (known_epoch (epoch_year_of year)) unknown_epoch e (later 5 (lit≤ tt)) tt)

  -- so Field ends in n only by its check of the place
  field_never : (a : Asked) (year day : ℤ) → Passes n (place_verdict a.height a.sin_phi a.cos_phi a.sin_lambda a.cos_lambda) → Never n (field_says a year day)
  unfolding field_says field_with components_says
  field_never a year day h =
      let u = place_verdict a.height a.sin_phi a.cos_phi a.sin_lambda a.cos_lambda in
      let dated = after (epoch_says year day) (dated_says a) in
      let figures = error_says (epoch_year_of year) in
      never_after n (told u dated) (λ v. after figures (λ m. answered (record_of v m))) (never_told n u dated h (never_after n (epoch_says year day) (dated_says a) (day_never year day) (λ e i. dated_never a e)))
      (λ v i. never_after n figures (λ m. answered (record_of v m)) (figures_never (epoch_year_of year)) (λ m j. tt))

  angle_never : (x : Float) → Never n (sine_says x)
  unfolding sine_says
  angle_never x = never_unless n (accepted x) Angle (answered (pair_at x)) (later 16 (lit≤ tt)) tt

  -- and Field in degrees only by its check of a place with two made pairs
  degrees_never : (a : Place) (year day : ℤ) → ((p q : Pair) → sine_says a.latitude ≡ answered p → sine_says a.longitude ≡ answered q → Passes n (place_verdict a.height p.sine p.cosine q.sine q.cosine)) → Never n (degrees_says a year day)
  unfolding degrees_says
  degrees_never a year day h =
      never_after n (sine_says a.latitude) (λ p. after (sine_says a.longitude) (λ q. field_says (paired a p q) year day)) (angle_never a.latitude)
      (λ p i. never_after n (sine_says a.longitude) (λ q. field_says (paired a p q) year day) (angle_never a.longitude) (λ q j. field_never (paired a p q) year day (h p q i j)))

-- ---- a made pair
made_on_circle : (x : Float) (p : Pair) → T (fits binary32 x) → sine_says x ≡ answered p → circle p.sine p.cosine ≡ true
made_on_circle x p h e = let q = made_pair x p e in is_true (circle p.sine p.cosine) (subst (λ (r : Pair). T (circle r.sine r.cosine)) q.1 (pair_on_circle x h q.0))

-- after 16 never 3
pub never_longitude : (a : Place) (year day : ℤ) → T (fits binary32 a.longitude) → Never 3 (degrees_says a year day)
unfolding place_verdict
never_longitude a year day h = degrees_never 3 (lit≤ tt) a year day (λ p q i j. go (height_ok a.height) (latitude_ok p.sine p.cosine) (circle q.sine q.cosine) (made_on_circle a.longitude q h j))
  where
    go : (b c d : Bool) → d ≡ true → Passes 3 (check b outside_height (check c Latitude (check d Longitude nothing_refused)))
    go b c d e = passes_check 3 b outside_height (check c Latitude (check d Longitude nothing_refused)) (λ i. omega arith) (passes_check 3 c Latitude (check d Longitude nothing_refused) (λ i. omega arith) (passes_true 3 d Longitude nothing_refused e tt))

-- ---- a latitude up to ±90 degrees: its cosine (`upright`) is not beyond the pole
no_minus : (k : ℕ) (l : ℤ) → T (le beyond_pole (fin false k l))
unfolding le lt eq neg of_bits
no_minus k l = rw (lt-ltb 0 (1 * down l + k * up l * 1048576) (let p = down_pos l in omega arith)) tt

-- and 2 only beyond them
pub never_latitude : (a : Place) (year day : ℤ) → T (fits binary32 a.latitude) → T (between (neg d90) d90 a.latitude) → Never 2 (degrees_says a year day)
unfolding place_verdict neg of_bits own
never_latitude a year day h b =
    degrees_never 2 (lit≤ tt) a year day
    (λ p q i j. go (height_ok a.height) (latitude_ok p.sine p.cosine) (circle q.sine q.cosine) (is_true (latitude_ok p.sine p.cosine) (and_i (circle p.sine p.cosine) (le beyond_pole p.cosine) (subst T (sym (made_on_circle a.latitude p h i)) tt) (upright a.latitude p h b i))))
  where
    upright : (x : Float) (p : Pair) → T (fits binary32 x) → T (between (neg d90) d90 x) → sine_says x ≡ answered p → T (le beyond_pole p.cosine)
    upright x p h b e = let q = made_pair x p e in go x (between_size 90 _ _ _ _ _ _ x (lit≤ tt) (lit≤ tt) b) (subst (λ (r : Pair). TurnedAt x r) q.1 (turned_at x h q.0))
      where
        plus : (s : Bool) (m : ℕ) (e : ℤ) → m * up e ≤ 90 * down e → TurnedAt (fin s m e) p → T (le beyond_pole p.cosine)
        plus s m e l t = let c = cosine_plus s m e p t l in subst (λ (z : Float). T (le beyond_pole z)) (sym c.2) (no_minus c.0 c.1)

        go : (x : Float) → T (finite x) × AtMost 90 x → TurnedAt x p → T (le beyond_pole p.cosine)
        go nan a t = absurd t
        go (inf s) a t = absurd t
        go (fin false m e) a t = plus false m e (let w = a.1 in omega arith) t
        go (fin true m e) a t = plus true m e (let w = a.1 in omega arith) t

    go : (b c d : Bool) → c ≡ true → Passes 2 (check b outside_height (check c Latitude (check d Longitude nothing_refused)))
    go b c d e = passes_check 2 b outside_height (check c Latitude (check d Longitude nothing_refused)) (λ i. omega arith) (passes_true 2 c Latitude (check d Longitude nothing_refused) e (passes_check 2 d Longitude nothing_refused (λ i. omega arith) tt))
