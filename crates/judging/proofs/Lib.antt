pub mod Fields
pub mod Valid
pub mod Damaged
pub mod Carried
pub mod Exact
pub mod Least
pub mod Agreement
