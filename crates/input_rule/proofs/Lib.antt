pub mod Planes
pub mod Later
pub mod Steps
pub mod Blocks
