-- What a user has to believe.
pub mod Kinds
pub mod Mixer
pub mod Position
