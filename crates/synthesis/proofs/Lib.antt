-- Demand 3 for Sum; then laws that the proofs of the loops lean on.
pub mod Demand
pub mod PlaceSizes
pub mod Filled
pub mod RowsHold
pub mod TermsHold
pub mod GeneralSum
pub mod PoleSum
pub mod NumberChecks
pub mod Answers
pub mod TurnedSign
pub mod LaneLaws
pub mod AcceptedPlain
pub mod Unique
