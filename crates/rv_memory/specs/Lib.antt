pub mod Access
pub mod Laws
pub mod Memory
pub mod Ranges
pub mod Spaces
