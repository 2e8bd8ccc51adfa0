pub mod Decided
pub mod Turns
