pub mod Instrs
pub mod Program
pub mod Draws
pub mod File
pub mod Made
