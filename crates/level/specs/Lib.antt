-- What only serves inner contracts.
pub mod Level
