-- The definitions that the contracts cite, and the laws of them.
pub mod Calendar
pub mod Epochs
pub mod Records
pub mod Errors
pub mod Signed
pub mod Dated
pub mod Tested
pub mod Laws
