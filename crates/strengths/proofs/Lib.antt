-- The laws of the strengths.
pub mod StrengthLaws
pub mod StrengthSizes
pub mod Angles
pub mod AtZero
pub mod Room
pub mod NeverMinus180
pub mod Named
pub mod DueSouth
pub mod Unique
