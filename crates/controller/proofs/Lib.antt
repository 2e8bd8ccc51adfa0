pub mod Assembled
pub mod Sent
