pub mod World
pub mod Words
pub mod End
pub mod Unread
pub mod Captures
pub mod commands
pub mod Top
