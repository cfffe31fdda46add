-- Every entry's contract leaves one number, and one content of each place that is lent for results: each law is over what the kit makes of the
-- entry's `ensures`, a `Post`, or its `clauses`.
use mathlib.Core.Path.{◌≡◌, sym, ◌∙◌}
use Rattle.refusals.specs.OneResult.{OneResult, OneAnswer}
use Rattle.refusals.proofs.Clauses.{both_say_first}
use Rattle.ffi.proofs.angles.njerumoy_sine_and_cosine as sine_and_cosine_fn
use Rattle.ffi.proofs.angles.njerumoy_declination as declination_fn
use Rattle.ffi.proofs.fields.njerumoy_field as field_fn
use Rattle.ffi.proofs.fields.njerumoy_field_in_degrees as field_in_degrees_fn
use Rattle.ffi.proofs.fields.njerumoy_allowance as allowance_fn
use Rattle.ffi.proofs.yearly.njerumoy_rates as rates_fn
use Rattle.ffi.proofs.yearly.njerumoy_igrf_rates as igrf_rates_fn
use Rattle.ffi.proofs.fields.njerumoy_igrf_allowance as igrf_allowance_fn
use Rattle.ffi.proofs.profile.njerumoy_igrf as igrf_fn
use Rattle.ffi.proofs.files.njerumoy_read_cof as read_cof_fn
use Rattle.ffi.proofs.sets.njerumoy_read_stored as read_stored_fn
use Rattle.ffi.proofs.sets.njerumoy_read_stored_either as read_stored_either_fn
use Rattle.ffi.proofs.sets.njerumoy_write_stored as write_stored_fn
use Rattle.ffi.proofs.sets.njerumoy_write_stored_either as write_stored_either_fn
use Rattle.ffi.proofs.sets.njerumoy_field_stored as field_stored_fn
use Rattle.ffi.proofs.forms.njerumoy_field_stored_either as field_stored_either_fn
use Rattle.ffi.specs.contracts.listed.njerumoy_field_listed as field_listed_fn
use Rattle.ffi.specs.contracts.listed.njerumoy_declination_uncertainty_listed as declination_uncertainty_listed_fn
use Rattle.ffi.proofs.sum.njerumoy_sum as sum_fn
use Rattle.ffi.proofs.days.njerumoy_epoch as epoch_fn
use Rattle.ffi.proofs.records.njerumoy_horizontal as horizontal_fn
use Rattle.ffi.proofs.records.njerumoy_total as total_fn
use Rattle.ffi.proofs.records.njerumoy_zone as zone_fn
use Rattle.ffi.proofs.records.njerumoy_field_declination as field_declination_fn
use Rattle.ffi.proofs.records.njerumoy_inclination as inclination_fn
use Rattle.ffi.proofs.records.njerumoy_declination_uncertainty as declination_uncertainty_fn
use Rattle.ffi.proofs.records.njerumoy_grid_variation as grid_variation_fn
use Rattle.ffi.proofs.records.njerumoy_square_root as square_root_fn

-- what the contract says of the one and of the other is the same thing
same : {A : Type 0} {t x y : A} → x ≡ t → y ≡ t → x ≡ y
same e f = e ∙ sym f

pub njerumoy_sine_and_cosine : OneResult sine_and_cosine_fn.Kinds.ps sine_and_cosine_fn.Kinds.r sine_and_cosine_fn.Reads.Post
njerumoy_sine_and_cosine κs a x y u v p q =
    let sine = same p.1 q.1 in
    let cosine = same p.2 q.2 in
    (same p.0 q.0, λ i. (tt, (sine i, (cosine i, tt))))

pub njerumoy_declination : OneResult declination_fn.Kinds.ps declination_fn.Kinds.r declination_fn.Reads.Post
njerumoy_declination κs a x y u v p q =
    let declination = same p.1 q.1 in
    (same p.0 q.0, λ i. (tt, (tt, (declination i, tt))))

pub njerumoy_field : OneResult field_fn.Kinds.ps field_fn.Kinds.r field_fn.Reads.Post
njerumoy_field κs a x y u v p q =
    let xyz = same p.0.1 q.0.1 in
    let errors = same p.0.2 q.0.2 in
    let entry = same p.0.3 q.0.3 in
    let years = same p.0.4 q.0.4 in
    (same p.0.0 q.0.0, λ i. (tt, (tt, (tt, (tt, (tt, (tt, (tt, (tt, (tt, (tt, (tt, (tt, (xyz i, (errors i, (entry i, (years i, tt)))))))))))))))))

pub njerumoy_field_in_degrees : OneResult field_in_degrees_fn.Kinds.ps field_in_degrees_fn.Kinds.r field_in_degrees_fn.Reads.Post
njerumoy_field_in_degrees κs a x y u v p q =
    let xyz = same p.0.1 q.0.1 in
    let errors = same p.0.2 q.0.2 in
    let entry = same p.0.3 q.0.3 in
    let years = same p.0.4 q.0.4 in
    (same p.0.0 q.0.0, λ i. (tt, (tt, (tt, (tt, (tt, (tt, (tt, (tt, (tt, (tt, (xyz i, (errors i, (entry i, (years i, tt)))))))))))))))

pub njerumoy_allowance : OneResult allowance_fn.Kinds.ps allowance_fn.Kinds.r allowance_fn.Reads.Post
njerumoy_allowance κs a x y u v p q =
    let allowances = same p.0.1 q.0.1 in
    let entry = same p.0.2 q.0.2 in
    let years = same p.0.3 q.0.3 in
    (same p.0.0 q.0.0, λ i. (tt, (tt, (tt, (tt, (tt, (tt, (tt, (tt, (tt, (tt, (tt, (tt, (allowances i, (entry i, (years i, tt))))))))))))))))

pub njerumoy_rates : OneResult rates_fn.Kinds.ps rates_fn.Kinds.r rates_fn.Reads.Post
njerumoy_rates κs a x y u v p q =
    let rates = same p.0.1 q.0.1 in
    let entry = same p.0.2 q.0.2 in
    let years = same p.0.3 q.0.3 in
    (same p.0.0 q.0.0, λ i. (tt, (tt, (tt, (tt, (tt, (tt, (tt, (tt, (tt, (tt, (tt, (tt, (rates i, (entry i, (years i, tt))))))))))))))))

pub njerumoy_igrf : OneResult igrf_fn.Kinds.ps igrf_fn.Kinds.r igrf_fn.Reads.Post
njerumoy_igrf κs a x y u v p q =
    let xyz = same p.0.1 q.0.1 in
    let entry = same p.0.2 q.0.2 in
    let years = same p.0.3 q.0.3 in
    (same p.0.0 q.0.0, λ i. (tt, (tt, (tt, (tt, (tt, (tt, (tt, (tt, (tt, (tt, (tt, (tt, (tt, (tt, (tt, (xyz i, (entry i, (years i, tt)))))))))))))))))))

pub njerumoy_igrf_rates : OneResult igrf_rates_fn.Kinds.ps igrf_rates_fn.Kinds.r igrf_rates_fn.Reads.Post
njerumoy_igrf_rates κs a x y u v p q =
    let rates = same p.0.1 q.0.1 in
    let entry = same p.0.2 q.0.2 in
    let years = same p.0.3 q.0.3 in
    (same p.0.0 q.0.0, λ i. (tt, (tt, (tt, (tt, (tt, (tt, (tt, (tt, (tt, (tt, (tt, (tt, (tt, (tt, (tt, (rates i, (entry i, (years i, tt)))))))))))))))))))

pub njerumoy_igrf_allowance : OneResult igrf_allowance_fn.Kinds.ps igrf_allowance_fn.Kinds.r igrf_allowance_fn.Reads.Post
njerumoy_igrf_allowance κs a x y u v p q =
    let allowances = same p.0.1 q.0.1 in
    let entry = same p.0.2 q.0.2 in
    let years = same p.0.3 q.0.3 in
    (same p.0.0 q.0.0, λ i. (tt, (tt, (tt, (tt, (tt, (tt, (tt, (tt, (tt, (tt, (tt, (tt, (tt, (tt, (tt, (allowances i, (entry i, (years i, tt)))))))))))))))))))

pub njerumoy_sum : OneResult sum_fn.Kinds.ps sum_fn.Kinds.r sum_fn.Reads.Post
njerumoy_sum κs a x y u v p q =
    let xyz = same p.0.1 q.0.1 in
    let entry = same p.0.2 q.0.2 in
    (same p.0.0 q.0.0, λ i. (tt, (tt, (tt, (tt, (tt, (tt, (tt, (tt, (tt, (tt, (xyz i, (entry i, tt)))))))))))))

pub njerumoy_epoch : OneResult epoch_fn.Kinds.ps epoch_fn.Kinds.r epoch_fn.Reads.Post
njerumoy_epoch κs a x y u v p q =
    let epoch_year = same p.1 q.1 in
    let offset = same p.2 q.2 in
    (same p.0 q.0, λ i. (tt, (tt, (epoch_year i, (offset i, tt)))))

pub njerumoy_horizontal : OneResult horizontal_fn.Kinds.ps horizontal_fn.Kinds.r horizontal_fn.Reads.Post
njerumoy_horizontal κs a x y u v p q =
    let h = same p.1 q.1 in
    (same p.0 q.0, λ i. (tt, (tt, (tt, (h i, tt)))))

pub njerumoy_total : OneResult total_fn.Kinds.ps total_fn.Kinds.r total_fn.Reads.Post
njerumoy_total κs a x y u v p q =
    let f = same p.1 q.1 in
    (same p.0 q.0, λ i. (tt, (tt, (tt, (f i, tt)))))

pub njerumoy_zone : OneResult zone_fn.Kinds.ps zone_fn.Kinds.r zone_fn.Reads.Post
njerumoy_zone κs a x y u v p q =
    let zone = same p.1 q.1 in
    (same p.0 q.0, λ i. (tt, (tt, (tt, (zone i, tt)))))

pub njerumoy_field_declination : OneResult field_declination_fn.Kinds.ps field_declination_fn.Kinds.r field_declination_fn.Reads.Post
njerumoy_field_declination κs a x y u v p q =
    let declination = same p.1 q.1 in
    (same p.0 q.0, λ i. (tt, (tt, (tt, (declination i, tt)))))

pub njerumoy_inclination : OneResult inclination_fn.Kinds.ps inclination_fn.Kinds.r inclination_fn.Reads.Post
njerumoy_inclination κs a x y u v p q =
    let inclination = same p.1 q.1 in
    (same p.0 q.0, λ i. (tt, (tt, (tt, (inclination i, tt)))))

pub njerumoy_declination_uncertainty : OneResult declination_uncertainty_fn.Kinds.ps declination_uncertainty_fn.Kinds.r declination_uncertainty_fn.Reads.Post
njerumoy_declination_uncertainty κs a x y u v p q =
    let uncertainty = same p.1 q.1 in
    (same p.0 q.0, λ i. (tt, (tt, (tt, (tt, (uncertainty i, tt))))))

pub njerumoy_grid_variation : OneResult grid_variation_fn.Kinds.ps grid_variation_fn.Kinds.r grid_variation_fn.Reads.Post
njerumoy_grid_variation κs a x y u v p q =
    let given = same p.1 q.1 in
    let variation = same p.2 q.2 in
    (same p.0 q.0, λ i. (tt, (tt, (tt, (given i, (variation i, tt))))))

pub njerumoy_square_root : OneResult square_root_fn.Kinds.ps square_root_fn.Kinds.r square_root_fn.Reads.Post
njerumoy_square_root κs a x y u v p q =
    let root = same p.1 q.1 in
    (same p.0 q.0, λ i. (tt, (root i, tt)))

pub njerumoy_read_cof : OneResult read_cof_fn.Kinds.ps read_cof_fn.Kinds.r read_cof_fn.Reads.Post
njerumoy_read_cof κs a x y u v p q =
    let lists = same p.0.1 q.0.1 in
    let year = same p.0.2 q.0.2 in
    let entry = same p.0.3 q.0.3 in
    let line = same p.0.4 q.0.4 in
    (same p.0.0 q.0.0, λ i. (tt, ((lists i).g, ((lists i).h, ((lists i).g_dot, ((lists i).h_dot, (year i, (entry i, (line i, tt)))))))))

pub njerumoy_read_stored : OneResult read_stored_fn.Kinds.ps read_stored_fn.Kinds.r read_stored_fn.Reads.Post
njerumoy_read_stored κs a x y u v p q =
    let lists = same p.0.1 q.0.1 in
    let year = same p.0.2 q.0.2 in
    let entry = same p.0.3 q.0.3 in
    let place = same p.0.4 q.0.4 in
    (same p.0.0 q.0.0, λ i. (tt, ((lists i).g, ((lists i).h, ((lists i).g_dot, ((lists i).h_dot, (year i, (entry i, (place i, tt)))))))))

pub njerumoy_read_stored_either : OneResult read_stored_either_fn.Kinds.ps read_stored_either_fn.Kinds.r read_stored_either_fn.Reads.Post
njerumoy_read_stored_either κs a x y u v p q =
    let lists = same p.0.1 q.0.1 in
    let year = same p.0.2 q.0.2 in
    let entry = same p.0.3 q.0.3 in
    let place = same p.0.4 q.0.4 in
    (same p.0.0 q.0.0, λ i. (tt, ((lists i).g, ((lists i).h, ((lists i).g_dot, ((lists i).h_dot, (year i, (entry i, (place i, tt)))))))))

pub njerumoy_write_stored : OneResult write_stored_fn.Kinds.ps write_stored_fn.Kinds.r write_stored_fn.Reads.Post
njerumoy_write_stored κs a x y u v p q =
    let bytes = same p.0.1 q.0.1 in
    let entry = same p.0.2 q.0.2 in
    (same p.0.0 q.0.0, λ i. (tt, (tt, (tt, (tt, (tt, (bytes i, (entry i, tt))))))))

pub njerumoy_write_stored_either : OneResult write_stored_either_fn.Kinds.ps write_stored_either_fn.Kinds.r write_stored_either_fn.Reads.Post
njerumoy_write_stored_either κs a x y u v p q =
    let bytes = same p.0.1 q.0.1 in
    let entry = same p.0.2 q.0.2 in
    (same p.0.0 q.0.0, λ i. (tt, (tt, (tt, (tt, (tt, (bytes i, (entry i, tt))))))))

pub njerumoy_field_stored : OneResult field_stored_fn.Kinds.ps field_stored_fn.Kinds.r field_stored_fn.Reads.Post
njerumoy_field_stored κs a x y u v p q =
    let xyz = same p.0.1 q.0.1 in
    let errors = same p.0.2 q.0.2 in
    let entry = same p.0.3 q.0.3 in
    let years = same p.0.4 q.0.4 in
    let place = same p.0.5 q.0.5 in
    (same p.0.0 q.0.0, λ i. (tt, (tt, (tt, (tt, (tt, (tt, (tt, (tt, (xyz i, (errors i, (entry i, (years i, (place i, tt))))))))))))))

pub njerumoy_field_stored_either : OneResult field_stored_either_fn.Kinds.ps field_stored_either_fn.Kinds.r field_stored_either_fn.Reads.Post
njerumoy_field_stored_either κs a x y u v p q =
    let xyz = same p.0.1 q.0.1 in
    let errors = same p.0.2 q.0.2 in
    let entry = same p.0.3 q.0.3 in
    let years = same p.0.4 q.0.4 in
    let place = same p.0.5 q.0.5 in
    (same p.0.0 q.0.0, λ i. (tt, (tt, (tt, (tt, (tt, (tt, (tt, (tt, (xyz i, (errors i, (entry i, (years i, (place i, tt))))))))))))))

pub njerumoy_field_listed : OneAnswer field_listed_fn.ended (λ M 𝓤 𝓛. field_listed_fn.clauses 𝓛)
njerumoy_field_listed M 𝓤 𝓛 mem run κs a g x y u v =
    both_say_first 𝓤 (λ p q.
    let xyz = same p.1 q.1 in
    let errors = same p.2 q.2 in
    let entry = same p.3 q.3 in
    let years = same p.4 q.4 in
    (same p.0 q.0, λ i. (tt, (tt, (tt, (tt, (tt, (tt, (tt, (tt, (tt, (tt, (tt, (tt, (tt, (xyz i, (errors i, (entry i, (years i, tt)))))))))))))))))))

pub njerumoy_declination_uncertainty_listed : OneAnswer declination_uncertainty_listed_fn.ended (λ M 𝓤 𝓛. declination_uncertainty_listed_fn.clauses 𝓛)
njerumoy_declination_uncertainty_listed M 𝓤 𝓛 mem run κs a g x y u v =
    both_say_first 𝓤 (λ p q.
    let uncertainty = same p.1 q.1 in
    (same p.0 q.0, λ i. (tt, (tt, (tt, (tt, (tt, (uncertainty i, tt))))))))
