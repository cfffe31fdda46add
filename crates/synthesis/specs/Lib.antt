-- Definitions only: Sum is the entry; Code says what each function computes, and the entry's contract does not cite it. The laws stand in proofs/.
pub mod Sum
pub mod Code
