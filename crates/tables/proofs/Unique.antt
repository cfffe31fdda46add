-- Every public contract leaves one result: each law is over what the kit makes of the function's `ensures`.
use mathlib.Core.Path.{refl}
use Rattle.refusals.specs.OneResult.{OneResult}
use Rattle.tables.proofs.degree_of as degree_of_fn
use Rattle.tables.proofs.schmidt_table as schmidt_table_fn
use Rattle.tables.proofs.legendre_k as legendre_k_fn
use Rattle.tables.proofs.legendre_k_over as legendre_k_over_fn

pub degree_of_lem : OneResult degree_of_fn.Kinds.ps degree_of_fn.Kinds.r degree_of_fn.Reads.Post
degree_of_lem κs a x y u v p q = (cc, refl)

pub schmidt_table_lem : OneResult schmidt_table_fn.Kinds.ps schmidt_table_fn.Kinds.r schmidt_table_fn.Reads.Post
schmidt_table_lem κs a x y u v p q = (cc, refl)

pub legendre_k : OneResult legendre_k_fn.Kinds.ps legendre_k_fn.Kinds.r legendre_k_fn.Reads.Post
legendre_k κs a x y u v p q = (cc, refl)

pub legendre_k_over : OneResult legendre_k_over_fn.Kinds.ps legendre_k_over_fn.Kinds.r legendre_k_over_fn.Reads.Post
legendre_k_over κs a x y u v p q = (cc, refl)
