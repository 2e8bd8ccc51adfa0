pub mod Theorems
pub mod View
