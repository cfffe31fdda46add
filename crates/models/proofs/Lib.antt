-- Laws of years and of lists of error records; `Walk` and `Searched` serve proofs by hand; `Unique` says that each contract leaves one result.
pub mod Years
pub mod Dated
pub mod Search
pub mod Listed
pub mod BuiltIn
pub mod Walk
pub mod Searched
pub mod Unique
