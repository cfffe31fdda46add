-- Definitions: Entries (a line), Cof (the file, and the call), and Code (what the functions under the call promise).
pub mod Entries
pub mod Cof
pub mod Code
