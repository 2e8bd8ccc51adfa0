pub mod Range
pub mod Settings
pub mod Theorems
