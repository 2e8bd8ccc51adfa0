pub mod Decoding
pub mod Faults
pub mod Theorems
pub mod View
