-- What a user has to believe.
pub mod Table
pub mod Answers
