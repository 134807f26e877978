pub mod Bytewise
pub mod Checks
pub mod Written
pub mod Undone
pub mod Whole
pub mod Blocks
pub mod Changed
