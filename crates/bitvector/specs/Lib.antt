-- What a user has to believe.
pub mod Sets
pub mod Calls
-- What only serves inner contracts.
pub mod Steps
