-- Definitions: Bytes, Lines, Words, Decimals, Reading. `Scan` and `Rounding` serve the functions' own promises.
pub mod Bytes
pub mod Lines
pub mod Words
pub mod Decimals
pub mod Reading
pub mod Scan
pub mod Rounding
