-- What a user can rely on.
pub mod Images
-- Small inputs at which it is worked out.
pub mod Inputs
