pub mod Answer
pub mod ByMatch
