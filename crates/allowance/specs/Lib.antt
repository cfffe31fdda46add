-- Definitions: Allowance, Profile, and Code, which the contracts of the entries do not cite.
pub mod Code
pub mod Allowance
pub mod Profile
