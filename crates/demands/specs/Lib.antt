-- What a user has to believe.
pub mod Demands
pub mod Rooms
pub mod Levels
-- Small inputs at which it is worked out.
pub mod Inputs
