-- Definitions: the degree and its places, the source's bits, what each entry is to be, how a factor is divided.
pub mod Degree
pub mod Tables
pub mod Rule
pub mod Division
