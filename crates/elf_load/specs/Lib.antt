pub mod Tables
pub mod Headers
pub mod Order
pub mod Stages
pub mod Symbols
pub mod Laws
