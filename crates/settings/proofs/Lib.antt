pub mod RangeLaws
pub mod StatusLaws
