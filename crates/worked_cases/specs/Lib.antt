pub mod Operations
pub mod Decisions
pub mod Cells
pub mod Patches
pub mod Runs
pub mod Guests
