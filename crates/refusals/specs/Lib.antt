-- The paper's numbers, and what it is for a contract to leave one result.
pub mod Paper
pub mod OneResult
