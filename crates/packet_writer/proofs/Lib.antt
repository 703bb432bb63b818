pub mod Slots
pub mod Copies
pub mod Pieces
pub mod Parts
pub mod PacketLaws
pub mod ClaimLaws
pub mod Marks
pub mod Frames
