-- The majorant in f32, and what is shown of it: it covers the distance of demand 3.
pub mod Kept
pub mod Wholly
pub mod Shown
pub mod Plain
