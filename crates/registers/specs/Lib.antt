pub mod Block
pub mod Failure
pub mod Parts
pub mod Theorems
