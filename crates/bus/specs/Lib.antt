pub mod AsWritten
pub mod Bus
pub mod BusTheorems
pub mod CalibrationTheorems
pub mod CommandTheorems
pub mod Commands
pub mod Examples
pub mod Run
