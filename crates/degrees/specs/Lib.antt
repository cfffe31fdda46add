-- The words of the contract.
pub mod Degrees
