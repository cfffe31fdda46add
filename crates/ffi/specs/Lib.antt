-- What a caller in another language is told.
pub mod Told
