pub mod Packet
pub mod Pcm
pub mod Places
pub mod Reading
