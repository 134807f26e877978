pub mod Finds
pub mod Fittings
pub mod Told
