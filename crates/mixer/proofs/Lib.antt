pub mod KindNumbers
pub mod Words
pub mod Positions
pub mod OneToOne
