pub mod Encoding
pub mod Steps
pub mod Theorems
pub mod View
