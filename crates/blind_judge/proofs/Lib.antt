mod Kept
mod PageTree
mod Copied
pub mod Puts
pub mod BytesPut
pub mod CellsPut
pub mod FlatPut
pub mod Mapping
pub mod StepsBy
pub mod Numbers
pub mod AnyPlace
mod Verdicts
