pub mod Rounding
pub mod Gammas
pub mod Sizes
pub mod Product
pub mod Pattern
pub mod Floats
