pub mod Apart
pub mod Passed
pub mod Once
