pub mod ByteLaws
pub mod Lists
pub mod Refusals
pub mod Tests
