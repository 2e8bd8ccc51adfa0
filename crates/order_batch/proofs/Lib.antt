pub mod Judging
pub mod Lengths
pub mod OneMore
pub mod Room
pub mod Rounds
