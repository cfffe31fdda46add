-- Definitions: Bounds.
pub mod Bounds
