-- What a user has to believe.
pub mod Stores
-- What only serves inner contracts.
pub mod Turn
pub mod Run
