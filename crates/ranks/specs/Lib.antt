-- What a user has to believe.
pub mod Ranks
-- What only serves inner contracts.
pub mod Sampling
