pub mod Theorem
pub mod Arrivals
pub mod Pieces
