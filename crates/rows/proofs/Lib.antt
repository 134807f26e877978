pub mod Lists
pub mod Sent
pub mod Marks
pub mod RowCalls
pub mod RowPromise
pub mod RowTable
