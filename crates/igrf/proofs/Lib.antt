-- Laws of the IGRF profile.
pub mod Years
pub mod Lists
pub mod Answers
pub mod Close
pub mod Laws
pub mod Across
pub mod Shown
pub mod Usable
pub mod Unique
