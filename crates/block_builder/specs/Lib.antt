pub mod Blocks
pub mod Taken
pub mod ArrivalRef
pub mod Window
pub mod Building
pub mod Seen
