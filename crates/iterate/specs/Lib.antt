pub mod Isolated
pub mod Reruns
pub mod Repairs
pub mod Parts
