pub mod Ones
pub mod Samples
pub mod ByRule
