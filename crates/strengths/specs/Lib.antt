-- Definitions: Strengths, Angles, Grid.
pub mod Strengths
pub mod Angles
pub mod Grid
