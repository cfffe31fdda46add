-- Definitions: Rates, then Profile.
pub mod Rates
pub mod Profile
