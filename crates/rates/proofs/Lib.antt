-- Laws of the yearly rates, lowest first.
pub mod Rated
pub mod Answers
pub mod Divisors
pub mod Ceiling
pub mod AtCaps
pub mod Finite
pub mod Laws
pub mod OfProfile
pub mod Unique
