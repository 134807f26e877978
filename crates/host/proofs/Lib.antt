pub mod Answers
pub mod Flats
pub mod Readings
