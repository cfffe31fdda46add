-- Every public contract leaves one result: each law is over what the kit makes of the function's `ensures`.
use mathlib.Core.Path.{refl}
use Rattle.refusals.specs.OneResult.{OneResult}
use Rattle.geocentric.proofs.geodetic_to_geocentric as geodetic_to_geocentric_fn
use Rattle.geocentric.proofs.radius_ratio as radius_ratio_fn

pub geodetic_to_geocentric : OneResult geodetic_to_geocentric_fn.Kinds.ps geodetic_to_geocentric_fn.Kinds.r geodetic_to_geocentric_fn.Reads.Post
geodetic_to_geocentric κs a x y u v p q = (cc, refl)

pub radius_ratio : OneResult radius_ratio_fn.Kinds.ps radius_ratio_fn.Kinds.r radius_ratio_fn.Reads.Post
radius_ratio κs a x y u v p q = (cc, refl)
