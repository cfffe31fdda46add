-- Definitions: Lists (the checks), Profile (those of the IGRF profile), Sets (a set that is read).
pub mod Lists
pub mod Profile
pub mod Sets
