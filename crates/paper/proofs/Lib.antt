-- That the examples say what the documents say, and that every public contract leaves one result.
pub mod Examples
pub mod Unique
