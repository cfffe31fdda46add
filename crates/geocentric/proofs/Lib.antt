-- `Laws` is what other crates cite. The rest lead to it; `Flattening` and `Vectors` stand by themselves.
mod Fractions
mod Root
mod Steps
mod Squares
mod Relative
mod Pair
mod Lent
mod Curve
mod Radius
mod Signs
pub mod Laws
pub mod Flattening
mod Vectors
pub mod Unique
