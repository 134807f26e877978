-- What a user has to believe.
pub mod Rule
pub mod Demand
