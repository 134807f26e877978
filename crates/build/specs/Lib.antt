-- What a user has to believe.
pub mod Build
-- What only serves inner contracts.
pub mod Ending
