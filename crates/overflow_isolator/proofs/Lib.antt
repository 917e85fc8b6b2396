pub mod Rows
pub mod Windows
pub mod Apart
pub mod Greatest
pub mod Entries
pub mod Exact
pub mod One
