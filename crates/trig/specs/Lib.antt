-- The words of the contracts. `Circle` is the page of the exact values, and `Angle` says what a pair is; `Fixed` is what the code computes.
pub mod Circle
pub mod Angle
pub mod Fixed
