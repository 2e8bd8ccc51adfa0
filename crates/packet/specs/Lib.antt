pub mod Packet
pub mod Reply
pub mod Steps
pub mod Theorems
pub mod Writer
