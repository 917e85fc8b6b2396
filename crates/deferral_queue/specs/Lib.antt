pub mod Order
pub mod Deferrals
pub mod View
pub mod Laws
