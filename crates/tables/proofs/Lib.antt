-- The table statement (k-stored, k-entries, schmidt-rule); the degree of a list; laws of the recurrence factors, and that the source stores their bits; that each contract leaves one result.
pub mod TableStatement
pub mod Degrees
pub mod Factors
pub mod Stored
pub mod Unique
