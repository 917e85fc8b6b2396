pub mod Round
pub mod Range
