pub mod Turns
pub mod InRange
pub mod Drawn
