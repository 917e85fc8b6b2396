pub mod Canary
mod Ranges
mod Vectors
mod Rotation
