pub mod Fits
pub mod Indexes
pub mod KindPassed
pub mod Written
