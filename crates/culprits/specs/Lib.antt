pub mod Isolated
pub mod Laws
