pub mod Apply
pub mod Theorems
