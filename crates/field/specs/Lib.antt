-- Definitions: Turn, Field, Dated, There, Rated.
pub mod Turn
pub mod Field
pub mod Dated
pub mod There
pub mod Rated
