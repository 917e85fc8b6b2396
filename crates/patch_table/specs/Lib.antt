pub mod Table
pub mod Limits
pub mod Ranges
pub mod View
pub mod Line
pub mod Grammar
pub mod Spelling
pub mod Joining
