pub mod OperationLaws
pub mod DecisionLaws
pub mod MemoryLaws
pub mod LayoutLaws
pub mod PatchLaws
