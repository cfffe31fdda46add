-- The laws of the sums, over the arithmetic, the degree and the coefficients at the date. No code is looked at.
pub mod Step
pub mod Keeps
pub mod Terms
pub mod Near
pub mod Related
pub mod Images
pub mod SameLaws
pub mod Kept
pub mod ZeroSign
pub mod Between
pub mod Stored
pub mod Distance
