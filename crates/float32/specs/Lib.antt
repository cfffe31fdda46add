-- The words of the contracts: the bits of an f32.
pub mod Bits
