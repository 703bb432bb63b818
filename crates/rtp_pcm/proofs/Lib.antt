pub mod PacketLaws
pub mod PcmLaws
pub mod ReadingLaws
pub mod Readings
