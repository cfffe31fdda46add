-- Laws that the proofs of the loops lean on; then the laws of the allowance: what is shown covers the distance of demand 3.
pub mod Lits
pub mod Column
pub mod Parts
pub mod Degrees
pub mod Majorants
pub mod Laws
pub mod Distance
pub mod Answers
pub mod OfProfile
pub mod Unique
