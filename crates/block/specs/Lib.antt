-- What a user has to believe.
pub mod Bytes
pub mod Block
-- What a statement about checks is written with.
pub mod Differ
