-- What only serves inner contracts.
pub mod Line
pub mod Lines
pub mod Real
