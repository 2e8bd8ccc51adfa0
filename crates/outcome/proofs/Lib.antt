pub mod PartsLaws
pub mod Cutting
pub mod Rooms
pub mod Wholes
