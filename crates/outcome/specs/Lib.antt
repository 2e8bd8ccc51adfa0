pub mod Turn
pub mod Batch
pub mod Theorems
