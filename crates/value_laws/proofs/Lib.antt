mod Alignments
pub mod Pointers
pub mod LowBits
pub mod Cells
pub mod Shifts
pub mod Lifted
pub mod Words
pub mod Decided
pub mod Stored
pub mod Later
pub mod Raised
pub mod Reached
