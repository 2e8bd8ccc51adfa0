pub mod Claim
pub mod Calls
pub mod Pieces
