pub mod Kept
pub mod Moves
pub mod Parts
pub mod Taken
pub mod Told
pub mod Written
