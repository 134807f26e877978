pub mod Folds
pub mod Few
pub mod Kept
pub mod Marking
pub mod Filtering
pub mod Placing
