-- `Laws` is what other crates cite; `Unique` says that the contract leaves one result.
pub mod Laws
pub mod Never
pub mod Clauses
pub mod Unique
