-- What the proofs of the entries share; then that each contract leaves one result, and what a returned 0 means.
mod Refused
mod Stored
mod Either
pub mod Zero
pub mod Unique
pub mod Distance
