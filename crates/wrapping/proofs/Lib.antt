pub mod WrappingLaws
pub mod ReceiverLaws
pub mod ReadingLaws
pub mod FieldLaws
pub mod StreamTheorems
pub mod Rows
