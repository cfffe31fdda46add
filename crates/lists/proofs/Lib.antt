-- The laws of the lists' checks, and of a reader's answer.
pub mod Checked
pub mod OfProfile
pub mod Sets
pub mod Unique
