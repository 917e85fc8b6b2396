pub mod Overflows
pub mod Windows
pub mod Found
pub mod Laws
