-- What only serves inner contracts.
pub mod Takes
