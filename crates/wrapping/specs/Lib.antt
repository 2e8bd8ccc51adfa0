pub mod Wrapping
pub mod Receiver
pub mod Reading
pub mod Theorems
