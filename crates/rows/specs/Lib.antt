-- What a user has to believe.
pub mod Rows
-- What only serves inner contracts.
pub mod Passes
