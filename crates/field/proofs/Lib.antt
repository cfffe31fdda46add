-- The laws of Field.
pub mod Offset
pub mod TurnNear
pub mod TurnRelated
pub mod Laws
pub mod Uncapped
pub mod There
pub mod Rated
pub mod Reach
pub mod Answers
pub mod FirstDay
pub mod Ceiling
pub mod Unique
