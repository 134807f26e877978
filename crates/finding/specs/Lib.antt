-- What a user has to believe.
pub mod Find
-- What only serves inner contracts.
pub mod Fitting
