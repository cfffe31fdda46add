-- The words of the contracts, and what is accepted.
pub mod Geo
