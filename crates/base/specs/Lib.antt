pub mod Bytes
pub mod Lent
pub mod Refusal
pub mod Result
pub mod Writes
