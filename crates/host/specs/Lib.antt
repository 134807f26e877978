-- What a user has to believe.
pub mod Numbers
pub mod Flat
