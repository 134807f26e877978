-- What a user has to believe.
pub mod Bounds
