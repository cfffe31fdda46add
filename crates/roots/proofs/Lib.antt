-- Laws that other crates cite: `Signs`, `Laws`, `Answer`. The rest lead to them.
mod Squares
mod Whole
mod Powers
mod Floats
mod Spacing
pub mod Signs
pub mod Laws
pub mod Answer
mod Vectors
pub mod Unique
