-- The words of the contract. `Arc` says what an angle is; `Direction` is what the code computes.
pub mod Arc
pub mod Direction
