use Rattle.std.proofs.Common.{arith}
use Rattle.std.proofs.lemmas.Grind.{common_steps}
use Rattle.geocentric.specs.Geo.{flatness, curve, cosine_factor, sine_factor, cylinder, axis, radius_of, cos_of, sin_of, geocentric_of}
use Rattle.geocentric.proofs.geodetic_to_geocentric.Goals as goal

pub returns : goal.returns
unfolding flatness curve cosine_factor sine_factor cylinder axis radius_of cos_of sin_of geocentric_of
returns c = grind (arith, common_steps)
