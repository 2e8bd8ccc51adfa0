pub mod Keeps
pub mod Laws
