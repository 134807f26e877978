-- What a user has to believe.
pub mod Layout
pub mod Index
pub mod Numbers
pub mod KindCheck
-- What only serves inner contracts.
pub mod Fit
