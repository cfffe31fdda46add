-- The words of the contracts: the root of an f32, and what the call for a root says. `Parts` serves the root's own functions.
pub mod Root
pub mod Parts
pub mod Answer
