-- What a user has to believe.
pub mod Gamma
pub mod Sizes
