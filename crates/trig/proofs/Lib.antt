-- `Laws` is what other crates cite of the pair, `Steps`, `Sums` and `Fractions` of the sums. The rest lead to them.
pub mod Steps
pub mod Sums
pub mod Fractions
mod Pi
mod Chains
mod Squares
mod Ends
mod Whole
mod Small
mod Turn
mod Entry
mod Pythagoras
mod Round
mod OnCircle
mod Tested
pub mod Laws
pub mod Unique
pub mod Ways
mod Vectors
