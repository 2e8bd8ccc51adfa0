pub mod Building
pub mod PacketLaws
pub mod PacketTheorems
