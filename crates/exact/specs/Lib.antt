-- Exact numbers, the tests of floats, and the promised distance. Definitions only; the laws stand in proofs/.
pub mod Tests
pub mod Exact
pub mod Within
