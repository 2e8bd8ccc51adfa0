pub mod Building
pub mod FrameLaws
pub mod FrameTheorems
