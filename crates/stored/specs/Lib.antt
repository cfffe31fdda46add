-- Definitions: Layout (the bytes of a set), Stored (what is said of them, and what the calls leave), Fields (the fields as the code has them).
pub mod Layout
pub mod Stored
pub mod Fields
