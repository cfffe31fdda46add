-- Definitions: Igrf.
pub mod Igrf
