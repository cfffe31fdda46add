-- P1 to P12, and two answers of Field.
pub mod Examples
pub mod Answered
