pub mod Canary
