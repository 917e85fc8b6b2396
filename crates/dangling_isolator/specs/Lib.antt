pub mod Marks
pub mod Danglings
pub mod Laws
