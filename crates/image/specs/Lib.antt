-- What a user has to believe.
pub mod Image
-- What only serves inner contracts.
pub mod Steps
