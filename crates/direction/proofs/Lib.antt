-- `Laws` is what other crates cite. The rest lead to it.
mod ArcChain
mod Arcs
mod Quadrants
mod Nearby
mod Rounded
mod Sizes
pub mod Laws
pub mod Unique
mod Vectors
