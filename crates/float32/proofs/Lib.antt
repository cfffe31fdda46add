-- Laws that other crates cite, and `Branches`, which three wrong versions of this one cite.
pub mod Checks
pub mod Bits
pub mod Patterns
pub mod Values
pub mod Unsigned
pub mod Unique
pub mod Branches
