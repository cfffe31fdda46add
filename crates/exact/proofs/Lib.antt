-- How near a float lies to an exact number: the laws, lowest first.
pub mod Frac
pub mod Round
pub mod Ops
pub mod Near
pub mod Reach
pub mod Relative
pub mod Ranks
pub mod Sizes
pub mod Circle
pub mod Range
pub mod Wholes
pub mod Once
pub mod Units
