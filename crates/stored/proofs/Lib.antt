-- Laws of a stored set: Bytes (numbers), Floats (lists), Frame (fields), Stores (runs of stores), Answers and Writing (the ways to an answer), Ways (more of them),
-- Laws (there and back), Forms (the two forms side by side), Vectors (worked examples).
pub mod Bytes
pub mod Floats
pub mod Frame
pub mod Stores
pub mod Parsed
pub mod Answers
pub mod Writing
pub mod Ways
pub mod Laws
pub mod Forms
mod Vectors
pub mod Unique
