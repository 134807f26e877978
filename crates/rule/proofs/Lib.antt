pub mod Level
pub mod Levels
pub mod Run
pub mod Reader
pub mod RowLaws
pub mod Order
pub mod Demand
pub mod Examples
