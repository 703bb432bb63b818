pub mod Flags
pub mod Heard
pub mod Packet
pub mod Piece
pub mod Slots
pub mod Stays
