pub mod Telling
pub mod Owning
pub mod Seeing
pub mod Pieces
pub mod Reading
pub mod Building
pub mod Working
pub mod Ending
