pub mod Frame
pub mod Theorems
pub mod View
