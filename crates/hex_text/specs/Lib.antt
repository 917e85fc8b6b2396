pub mod Hex
pub mod Laws
