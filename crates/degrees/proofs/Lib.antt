-- `Laws` is what other crates cite.
mod Ways
pub mod Laws
pub mod Unique
