-- Definitions only; the laws stand in proofs/.
pub mod Arithmetic
pub mod Recurrence
pub mod Paths
pub mod Same
