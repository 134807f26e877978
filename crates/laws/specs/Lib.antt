-- What a user has to believe: the words that the other definitions are written in.
pub mod Bits
pub mod Counting
pub mod Stores
-- What worked examples are written with.
pub mod Tables
