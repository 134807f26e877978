pub mod ContentWords
pub mod BlockSteps
pub mod WriteCalls
pub mod Copies
pub mod ReadCalls
